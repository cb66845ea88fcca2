use Rattle.avro_binary.proofs.public.Shortest.{plain-shortest}
use Rattle.avro_binary.proofs.laws.plain_is_shortest.Goals as goal

pub returns : goal.returns
returns c = plain-shortest
