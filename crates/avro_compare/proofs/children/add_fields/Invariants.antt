use Rattle.std.proofs.Common.{◌≡◌, ◌++◌, None, drop}
use Rattle.avro_schema.specs.Node.{node_at}
use Rattle.avro_schema.specs.Seen.{seen_fields}
use Rattle.avro_schema.specs.SeenSchema.{schema_nodes}
use Rattle.avro_schema.specs.declared.schema.NodeId.{NodeId}
use Rattle.avro_compare.specs.Leads.{field_leads}
use Rattle.avro_compare.specs.Planned.{AreSourcesFrom}
use Rattle.avro_compare.specs.Resolve.{fields_at}
use Rattle.avro_compare.specs.declared.comparison.Target.TheVariants.{To}
use Rattle.avro_compare.proofs.children.add_fields.Given as goal

abbrev pub invariant-loop-index : goal.invariant-loop-index
invariant-loop-index l = (l.fn.found.items ++ field_leads 0 (seen_fields l.fields) (seen_fields l.theirs) ≡ l.found.items ++ field_leads l.index (seen_fields l.fields) (seen_fields (drop l.index l.theirs)))
    × ((q : NodeId) → l.pair.target ≡ To None q → AreSourcesFrom l.index (fields_at (node_at (schema_nodes l.names.0) l.pair.w.0)) (fields_at (node_at (schema_nodes l.names.1) l.pair.r.0)) l.left)
