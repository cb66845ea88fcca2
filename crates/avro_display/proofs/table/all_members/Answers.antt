use Rattle.std.proofs.Common.{arith}
use Rattle.avro_schema.specs.SeenSchema.{schema_nodes}
use Rattle.avro_display.specs.inside.Tables.{AreMembersAt}
use Rattle.avro_display.proofs.Tables.{one_more}
use Rattle.avro_display.proofs.table.all_members.Goals as goal

pub loop-index-preserved : goal.loop-index-preserved
loop-index-preserved c = one_more (AreMembersAt (schema_nodes c.args.schema.now)) _ _ _ _ c.in_ok-push.ensures.items c.loop-index.invariant (grind arith)
