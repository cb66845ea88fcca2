use Rattle.std.proofs.Common.{arith}
use Rattle.avro_schema.specs.SeenSchema.{schema_nodes}
use Rattle.avro_display.proofs.Plains.{opened_first, opened_members}
use Rattle.avro_display.proofs.Texts.{seen_length}
use Rattle.avro_display.proofs.plain.opened_record.Goals as goal

pub returns-then-node_fields-count-clause-opens : goal.returns-then-node_fields-count-clause-opens
returns-then-node_fields-count-clause-opens c = λ vs d is count shown.
    opened_members (schema_nodes c.args.table.now) c.args.part vs d c.part_members.result.now is (grind (arith, seen_length)) shown c.part_members.ensures

pub returns-else-node_fields-count-clause-opens : goal.returns-else-node_fields-count-clause-opens
returns-else-node_fields-count-clause-opens c = λ vs d is count shown.
    opened_first (schema_nodes c.args.table.now) c.args.part vs c.args.count d is count (grind (arith, seen_length)) shown
