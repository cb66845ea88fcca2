use Rattle.avro_schema.specs.SeenSchema.{schema_nodes}
use Rattle.avro_least.specs.Tables.{IsLowForData}
use Rattle.avro_least.specs.inside.Falling.{effort, IsQuiet}
use Rattle.avro_least.specs.inside.Settled.{IsOver, table_in}
use Rattle.avro_least.proofs.nodes.search.least_data.Given as goal

abbrev pub invariant-loop-i : goal.invariant-loop-i
invariant-loop-i l = record {
  over : IsOver (schema_nodes l.writer) l.limit l.search;
  quiet : IsQuiet l.search → IsLowForData (schema_nodes l.writer) l.limit (table_in l.search);
}

abbrev pub decreases-loop-i : goal.decreases-loop-i
decreases-loop-i l = effort l.search
