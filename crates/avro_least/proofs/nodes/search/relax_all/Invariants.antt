use Rattle.std.proofs.Common.{◌<◌, ◌≤◌, ℕ}
use Rattle.avro_schema.specs.SeenSchema.{schema_nodes}
use Rattle.avro_least.specs.inside.Falling.{effort, IsQuiet}
use Rattle.avro_least.specs.inside.Settled.{IsLowAt, IsOver, table_in}
use Rattle.avro_least.proofs.nodes.search.relax_all.Given as goal

abbrev pub invariant-loop-id : goal.invariant-loop-id
invariant-loop-id l = record {
  over : IsOver (schema_nodes l.writer) l.limit l.search;
  effort : effort l.search ≤ effort l.initial.search;
  quiet : IsQuiet l.search → (w : ℕ) → w < l.id → IsLowAt (schema_nodes l.writer) l.limit (table_in l.search) w;
}
