use Rattle.std.proofs.Common.{◌≤◌}
use Rattle.avro_schema.specs.SeenSchema.{schema_nodes}
use Rattle.avro_least.specs.inside.Falling.{effort}
use Rattle.avro_least.specs.inside.Settled.{IsOver}
use Rattle.avro_least.proofs.nodes.search.lower_users.Given as goal

abbrev pub invariant-loop-user : goal.invariant-loop-user
invariant-loop-user l = record {
  over : IsOver (schema_nodes l.writer) l.limit l.search;
  effort : effort l.search ≤ effort l.initial.search;
}
