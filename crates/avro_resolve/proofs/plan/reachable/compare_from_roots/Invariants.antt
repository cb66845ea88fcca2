use Rattle.avro_schema.specs.SeenSchema.{schema_nodes}
use Rattle.avro_compare.specs.Planned.{AreComparisons}
use Rattle.avro_resolve.proofs.plan.reachable.compare_from_roots.Given as goal

abbrev pub invariant-loop-round : goal.invariant-loop-round
invariant-loop-round l = AreComparisons (schema_nodes l.names.0) (schema_nodes l.names.1) l.kept.items
