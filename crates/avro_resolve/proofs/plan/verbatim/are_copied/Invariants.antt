use Rattle.std.proofs.Common.{drop}
use Rattle.avro_schema.specs.Seen.{seen_fields}
use Rattle.avro_schema.specs.SeenSchema.{schema_nodes}
use Rattle.avro_compare.specs.Planned.{AreSourcesFrom}
use Rattle.avro_resolve.specs.Copied.{AreCopied}
use Rattle.avro_resolve.proofs.plan.verbatim.are_copied.Given as goal

abbrev pub invariant-loop-index : goal.invariant-loop-index
invariant-loop-index l =
    AreSourcesFrom l.index (seen_fields l.writes) (seen_fields l.reads) l.left
    × (AreCopied (schema_nodes l.plan.0) (schema_nodes l.plan.1) (seen_fields l.writes) (seen_fields (drop l.index l.reads)) → AreCopied (schema_nodes l.plan.0) (schema_nodes l.plan.1) (seen_fields l.writes) (seen_fields l.reads))
