-- Why it is not known whether a block begins.
use Rattle.std.proofs.Common.{arith, Err, ap}
use Rattle.avro_file.proofs.Taking.{unless_failed}
use Rattle.avro_file.proofs.public.Small.{err_inj}
use Rattle.avro_file.proofs.block.head.begins_block.Goals as goal

pub returns-in-Err-clause-taken : goal.returns-in-Err-clause-taken
returns-in-Err-clause-taken g c = grind (arith, unless_failed)

pub returns-in-Err-clause-fails : goal.returns-in-Err-clause-fails
returns-in-Err-clause-fails g c = λ q. c.in-Err.ensures.fails (ap Err (c.block_error.ensures.device (err_inj _ _ _ q)))

pub returns-in-Err-Ended-clause-works : goal.returns-in-Err-Ended-clause-works
returns-in-Err-Ended-clause-works g c = c.in-Err-Ended.ensures.still (ap Err c.in-Err-Ended.field-0-is)
