use Rattle.std.proofs.Common.{◌∙◌, List, ℕ, ap, subst, sym}
use Rattle.std.specs.Prelude.{IfOk}
use Rattle.avro_schema.specs.Node.{FieldNode, Node, node_at}
use Rattle.avro_schema.specs.Seen.{values_from}
use Rattle.avro_schema.specs.SeenSchema.{schema_nodes}
use Rattle.avro_schema.specs.Value.{Value}
use Rattle.avro_binary.specs.declared.place.Place.{Place}
use Rattle.avro_display.specs.DisplayTree.{display_text, record_fields}
use Rattle.avro_display.specs.Table.{AreMembers, field_tree}
use Rattle.avro_show.specs.Spans.{IsOf, StandsIn}
use Rattle.avro_show.proofs.Opened.{whole_text}
use Rattle.avro_show.proofs.Wholes.{given, record_shown, spans_there}
use Rattle.avro_show.proofs.displaying.DisplayingMake.record.Goals as goal

pub returns-clause-stands : goal.returns-clause-stands
returns-clause-stands c = λ nodes name aliases fs at vs fields fit. given _ c.composed.result (λ (of : IsOf c.args.self.now.table.now nodes (Node.record_of name aliases fs) at).
    let t = c.args.self.now.table.now in
    let ns = schema_nodes t in
    let n = Node.record_of name aliases fs in
    let v = Value.record_of (values_from vs) in
    let ms = c.members-members.result.now in
    let (own, are) = fields of.0 (ap record_fields of.1) in
    let members = subst (λ (l : List FieldNode). AreMembers l ms) (ap (λ (p : Place). record_fields (node_at ns p.node.0)) own ∙ sym (ap record_fields of.1)) c.members-members.ensures in
    let spans = spans_there nodes c.args.self.now.scratch.now.text fs c.args.fields.parts.items vs fit are ms members.each in
    let shown = c.in_ok-append_members.ensures (field_tree nodes fs (values_from vs)) (rw (c.as_slice.ensures, c.deref.ensures.value) spans) in
    let whole = whole_text t at c.args.fields.owner n v c.opening-opening.result c.keep_spans.new.self.whole c.opening-opening.ensures own of.1 (λ e. absurd (cc (e)))
    (c.keep_spans.ensures.whole ∙ shown ∙ rw c.clear.ensures (record_shown nodes name aliases fs vs ms fit members ∙ ap (λ (ns : List Node). display_text ns n v) of.0)) in
    subst (λ (b : List ℕ). IfOk c.composed.result (λ span. StandsIn c.composed.new.self.text span b)) whole c.composed.ensures.stands)
