use Rattle.std.proofs.Common.{◌∙◌, ◌++◌, List, ℕ, ap, subst}
use Rattle.std.specs.Prelude.{IfOk}
use Rattle.avro_schema.specs.Node.{Node, node_at}
use Rattle.avro_schema.specs.Seen.{values_from}
use Rattle.avro_schema.specs.SeenSchema.{schema_nodes}
use Rattle.avro_schema.specs.Value.{Value}
use Rattle.avro_display.specs.DisplayTree.{display_items, display_text}
use Rattle.avro_show.specs.Spans.{StandsIn}
use Rattle.avro_show.proofs.Opened.{whole_text}
use Rattle.avro_show.proofs.Wholes.{given}
use Rattle.avro_show.proofs.displaying.DisplayingMake.array.Goals as goal

pub returns-clause-stands : goal.returns-clause-stands
returns-clause-stands c = λ nodes id at vs items. given _ c.composed.result (λ of.
    let t = c.args.self.now.table.now in
    let v = Value.array (values_from vs) in
    let (own, are) = items of in
    let shown = c.in_ok-append_items.ensures (display_items (schema_nodes t) (node_at (schema_nodes t) id) (values_from vs)) (rw (c.as_slice.ensures, c.deref.ensures.value) are) in
    let whole = whole_text t at c.args.items.owner (Node.array id) v c.opening-opening.result c.keep_spans.new.self.whole c.opening-opening.ensures own of.1 (λ e. absurd (cc (e)))
    (c.keep_spans.ensures.whole ∙ shown ∙ ap (λ (b : List ℕ). b ++ display_text (schema_nodes t) (Node.array id) v) c.clear.ensures) in
    subst (λ (b : List ℕ). IfOk c.composed.result (λ span. StandsIn c.composed.new.self.text span b)) whole c.composed.ensures.stands)
