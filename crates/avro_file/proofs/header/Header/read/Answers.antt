-- What stops a header.
use Rattle.std.proofs.Common.{arith}
use Rattle.std.proofs.lemmas.Result.{err_from_is_err_and}
use Rattle.avro_display.proofs.public.Fronts.{on_any_err}
use Rattle.avro_file.proofs.public.Small.{not_failed}
use Rattle.avro_file.proofs.HeaderEnds.{fault_taken}
use Rattle.avro_file.proofs.header.Header.read.Goals as goal

pub returns-in_err-header-clause-refused : goal.returns-in_err-header-clause-refused
returns-in_err-header-clause-refused g c = grind (arith, err_from_is_err_and, fault_taken, not_failed)

pub returns-in_err-header-clause-lost : goal.returns-in_err-header-clause-lost
returns-in_err-header-clause-lost g c =
    let lost = c.in_err-header.ensures.lost in
    on_any_err (lost.bytes, lost.taken) c.from_residual.result
