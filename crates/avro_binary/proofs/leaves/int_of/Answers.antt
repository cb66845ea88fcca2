use Rattle.std.proofs.Common.{rules}
use Rattle.avro_binary.proofs.leaves.int_of.Goals as goal

pub returns-in-Ok : goal.returns-in-Ok
returns-in-Ok c = λ i s. search (rules, c.in_ok-number_of.ensures.int i s)
