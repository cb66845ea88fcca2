use Rattle.std.proofs.Common.{◌≡◌, drop}
use Rattle.std.specs.List.{list_all}
use Rattle.avro_schema.specs.Node.{field_ids}
use Rattle.avro_schema.specs.Seen.{nodes_of, seen_fields}
use Rattle.avro_schema.specs.WellFormed.{is_edge}
use Rattle.avro_schema.proofs.checking.are_field_edges.Given as goal

abbrev pub invariant-loop-field : goal.invariant-loop-field
invariant-loop-field l =
    list_all (is_edge (nodes_of l.nodes) l.from) (field_ids (seen_fields l.fields))
    ≡ list_all (is_edge (nodes_of l.nodes) l.from) (field_ids (seen_fields (drop l.field-index l.fields)))
