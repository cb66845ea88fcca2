use Rattle.std.proofs.Common.{◌||◌, ◌&&◌, ◌==◌, ap, sym, ◌∙◌}
use Rattle.std.specs.Prelude.{OnOk}
use Rattle.avro_compare.specs.inside.NamedTypes.{aliases_of}
use Rattle.avro_compare.specs.inside.TypeNames.{has_alias, holds}
use Rattle.avro_compare.proofs.HeldAliases.{no_aliases}
use Rattle.avro_compare.proofs.reader_types.add_type.Goals as goal

pub returns-in-None : goal.returns-in-None
returns-in-None c = λ key b.
    no_aliases (c.args.id.0 == b) (holds c.args.sets.now key b)
    ∙ ap (λ t. (c.args.id.0 == b && has_alias c.args.texts.now key (aliases_of t)) || holds c.args.sets.now key b) (sym c.in-None.is ∙ c.type_at.ensures)
