use Rattle.avro_resolve.proofs.Places.{node_then, node_else}
use Rattle.avro_resolve.proofs.plan.plan_pair.node_of_field.Goals as goal

pub returns-then-index-fields : goal.returns-then-index-fields
returns-then-index-fields c = node_then c.args.fields.now c.args.index _ c.if-index-fields.true

pub returns-else-index-fields : goal.returns-else-index-fields
returns-else-index-fields c = node_else c.args.fields.now c.args.index c.if-index-fields.false
