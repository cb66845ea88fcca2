-- The metadata of a header that was taken, or what stops it.
use Rattle.std.proofs.Common.{arith}
use Rattle.std.proofs.lemmas.Result.{err_from_is_err_and}
use Rattle.avro_file.proofs.Behind.{reports_not_failed}
use Rattle.avro_file.proofs.Framed.{frame_alone}
use Rattle.avro_file.proofs.HeaderEnds.{fault_taken}
use Rattle.avro_file.proofs.header.metadata.read_metadata.Goals as goal

pub returns-clause-found : goal.returns-clause-found
returns-clause-found g c = grind (arith, frame_alone)

pub returns-in_err-frame-clause-refused : goal.returns-in_err-frame-clause-refused
returns-in_err-frame-clause-refused g c = grind (arith, err_from_is_err_and, fault_taken, reports_not_failed)
