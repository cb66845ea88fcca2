use Rattle.avro_why.proofs.InOrder.{rising-by-first}
use Rattle.avro_why.proofs.reasons.by_offset.Goals as goal

pub returns : goal.returns
returns c = rising-by-first _ c.sort_unstable.ensures.sorted
