use Rattle.std.proofs.Common.{◌≡◌, drop}
use Rattle.std.specs.List.{list_all}
use Rattle.avro_schema.specs.Seen.{nodes_of, seen_fields}
use Rattle.avro_schema.specs.WellFormed.{has_good_default}
use Rattle.avro_schema.proofs.checking.are_good_defaults.Given as goal

abbrev pub invariant-loop-field : goal.invariant-loop-field
invariant-loop-field l =
    list_all (has_good_default (nodes_of l.nodes)) (seen_fields l.fields) ≡ list_all (has_good_default (nodes_of l.nodes)) (seen_fields (drop l.field-index l.fields))
