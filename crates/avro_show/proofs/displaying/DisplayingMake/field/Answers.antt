use Rattle.std.proofs.Common.{◌++◌, ◌∷◌, [], List, subst, sym}
use Rattle.avro_schema.specs.Node.{Node, node_at}
use Rattle.avro_display.specs.DisplayTree.{display_text}
use Rattle.avro_show.specs.Spans.{AreFieldsAt, StandsIn}
use Rattle.avro_show.specs.declared.spans.Span.{Span}
use Rattle.avro_show.proofs.Wholes.{fields_push, part_of}
use Rattle.avro_show.proofs.displaying.DisplayingMake.field.Goals as goal

pub returns-clause-stands : goal.returns-clause-stands
returns-clause-stands c = λ nodes fs id at vs v fields got is same these.
    let t = c.args.self.now.table.now in
    let text = c.args.self.now.scratch.now.text in
    let (own, are) = fields same these in
    let here = is (part_of t nodes id same) in (
      own,
      subst (λ (l : List Span). AreFieldsAt nodes text fs l (vs ++ v ∷ [])) (sym c.in_ok-push.ensures.items)
          (fields_push text nodes fs c.args.fields.now.parts.items c.args.value vs v id got are (subst (λ (ns : List Node). StandsIn text c.args.value (display_text ns (node_at ns id) v)) (sym same) here)),
    )
