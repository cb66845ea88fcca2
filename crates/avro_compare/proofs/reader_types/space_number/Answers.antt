use Rattle.std.proofs.Common.{ap, sym, ◌∙◌}
use Rattle.std.proofs.lemmas.Slice.Eq.{bytes_eq-Decides}
use Rattle.avro_compare.specs.inside.TypeNames.{is_text}
use Rattle.avro_compare.proofs.reader_types.space_number.Goals as goal

pub returns-then-eq : goal.returns-then-eq
returns-then-eq c = λ i.
    c.requires i ∙ ap (is_text c.args.texts.now i) ((bytes_eq-Decides c.args.own.text.now c.args.text.now).0 (sym c.eq.ensures ∙ c.if-eq.true))
