use Rattle.std.proofs.Common.{List, ℕ, subst}
use Rattle.std.specs.Prelude.{IfOk}
use Rattle.avro_schema.specs.Node.{Node}
use Rattle.avro_schema.specs.Seen.{values_from}
use Rattle.avro_schema.specs.Value.{Value}
use Rattle.avro_cursor.specs.Encoding.{plain_values}
use Rattle.avro_packed.specs.Appended.{Holds}
use Rattle.avro_packed.proofs.Gathering.{block_of_items}
use Rattle.avro_packed.proofs.IntoBranches.{holds_at}
use Rattle.avro_packed.proofs.putting.AppendingMake.array.Goals as goal

pub returns-clause-stands : goal.returns-clause-stands
returns-clause-stands c = λ nodes id at vs are.
    holds_at c.block.result c.block.new.self.bytes (Node.array id) at (Value.array (values_from vs))
    (subst (λ (bytes : List ℕ). IfOk c.block.result (λ out. Holds c.block.new.self.bytes out bytes)) (block_of_items c.args.self.now.bytes at.branch c.args.items vs are.0 are.1)
    (c.block.ensures.holds (plain_values (values_from vs)) are.1.1))
