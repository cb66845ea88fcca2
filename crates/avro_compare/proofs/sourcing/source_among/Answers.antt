use Rattle.std.proofs.Common.{◌∙◌, ◌∷◌, ap, arith, sym}
use Rattle.avro_schema.specs.Seen.{field_of}
use Rattle.avro_compare.specs.Source.{source_of}
use Rattle.avro_compare.proofs.NoFields.{no_index, none_seen}
use Rattle.avro_compare.proofs.sourcing.source_among.Goals as goal

pub returns-then-fields-eq0 : goal.returns-then-fields-eq0
returns-then-fields-eq0 c =
    let f = field_of c.args.f.now in
    sym (ap (λ fields. source_of fields f) (none_seen c.args.fields.now (omega (arith, c.if-fields-eq0.true))) ∙ no_index (f.name ∷ f.aliases))
