use Rattle.std.proofs.Common.{arith}
use Rattle.avro_zigzag.proofs.Fewest.{least-from_first, shortest-from_least}
use Rattle.avro_zigzag.proofs.shortest.starts_shortest.Goals as goal
