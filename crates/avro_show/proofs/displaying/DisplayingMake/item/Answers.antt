use Rattle.std.proofs.Common.{◌++◌, ◌∷◌, [], List, subst, sym}
use Rattle.avro_schema.specs.Node.{node_at}
use Rattle.avro_schema.specs.Seen.{values_from}
use Rattle.avro_schema.specs.SeenSchema.{schema_nodes}
use Rattle.avro_display.specs.DisplayTree.{display_items}
use Rattle.avro_show.specs.Spans.{AreItemsAt}
use Rattle.avro_show.specs.declared.spans.Span.{Span}
use Rattle.avro_show.proofs.Wholes.{items_push, part_of}
use Rattle.avro_show.proofs.displaying.DisplayingMake.item.Goals as goal

pub returns-clause-stands : goal.returns-clause-stands
returns-clause-stands c = λ nodes id at vs v items is of.
    let t = c.args.self.now.table.now in
    let text = c.args.self.now.scratch.now.text in
    let n = node_at (schema_nodes t) id in
    let (own, are) = items of in (
      own,
      subst (λ (l : List Span). AreItemsAt text l (display_items (schema_nodes t) n (values_from (vs ++ v ∷ [])))) (sym c.in_ok-push.ensures.items)
          (items_push text (schema_nodes t) n c.args.items.now.parts.items c.args.value vs v are (is (part_of t nodes id of.0))),
    )
