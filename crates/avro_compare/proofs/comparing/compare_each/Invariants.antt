use Rattle.std.proofs.Common.{◌≡◌, length}
use Rattle.avro_schema.specs.SeenSchema.{schema_nodes}
use Rattle.avro_compare.specs.Planned.{IsComparison}
use Rattle.avro_compare.proofs.public.Planning.{Holds}
use Rattle.avro_compare.proofs.comparing.compare_each.Given as goal

abbrev pub invariant-loop-pair : goal.invariant-loop-pair
invariant-loop-pair l = Holds (λ k p. IsComparison (schema_nodes l.names.0) (schema_nodes l.names.1) p) l.kept.items × (length l.kept.items ≡ l.pair-index)
