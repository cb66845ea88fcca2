use Rattle.std.proofs.Common.{◌∙◌, ℕ, List, Option, sym, ap}
use Rattle.avro_schema.specs.SeenSchema.{schema_nodes}
use Rattle.std.specs.Prelude.{option_map, slice_get}
use Rattle.avro_schema.specs.Node.{FieldNode}
use Rattle.avro_display.specs.DisplayTree.{display_tree, part_at, record_fields}
use Rattle.avro_display.specs.Table.{value_at}
use Rattle.avro_show.proofs.resolved.ResolvedDisplayed.entry.Goals as goal

pub returns-in-Fields-clause-shows : goal.returns-in-Fields-clause-shows
returns-in-Fields-clause-shows c =
    let self = c.args.self.now in
    let nodes = schema_nodes self.table.now in
    let i = c.args.index in
    rw c.in-Fields.is (λ k d h.
    let is = c.node_of_field.ensures
    ∙ ap (λ (fs : List FieldNode). option_map (λ f. f.node) (slice_get fs i)) (c.node_fields-fields.ensures ∙ ap record_fields c.node.ensures)
    ∙ ap (λ (o : Option FieldNode). option_map (λ f. f.node) o) h.3 in
    c.field_part.ensures.shows self.table.now h.0 d h.2
    (h.5 ∙ ap (λ (o : Option ℕ). display_tree nodes (part_at nodes o) (value_at h.0 i)) (sym is)))

pub returns-in-Default-clause-shows : goal.returns-in-Default-clause-shows
returns-in-Default-clause-shows c =
    let self = c.args.self.now in
    let shown = rw self.same at c.entry.ensures.shows in
    rw c.in-Default.is (λ k d h. c.as_default.ensures.shows self.plan.now self.table.now d (shown k d h))
