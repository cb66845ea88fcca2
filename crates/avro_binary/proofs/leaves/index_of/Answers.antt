use Rattle.std.proofs.Common.{pos, rules}
use Rattle.avro_binary.proofs.leaves.index_of.Goals as goal

pub returns-in-Ok : goal.returns-in-Ok
returns-in-Ok c = λ k s. search (rules, c.in_ok-number_of.ensures.int (pos k) s)
