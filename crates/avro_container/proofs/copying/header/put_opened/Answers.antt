use Rattle.std.proofs.Common.{Err, ap}
use Rattle.std.proofs.lemmas.Result.{err_from_is_err_and}
use Rattle.avro_file.specs.Copied.{copied_header}
use Rattle.avro_file.specs.HeaderTaken.{header_value}
use Rattle.avro_container.specs.TaskSeen.{job_of}
use Rattle.avro_file.proofs.public.Small.{err_inj}
use Rattle.avro_device.proofs.public.Fronts.{PutsFrontOf-none}
use Rattle.avro_container.proofs.copying.header.put_opened.Goals as goal

pub returns-in_err-opened-clause-front : goal.returns-in_err-opened-clause-front
returns-in_err-opened-clause-front g c =
    PutsFrontOf-none g.O.Output.keeps g.met.O.Output.none c.args.output.now (copied_header (job_of c.args.task.now) (header_value c.args.header)) c.from_residual.result

pub returns-in_err-put_header-clause-fails : goal.returns-in_err-put_header-clause-fails
returns-in_err-put_header-clause-fails g c =
    let p = err_from_is_err_and c.from_residual-in_err-put_header.result c.from_residual-in_err-put_header.ensures.1 in
    rw (p.1, p.2) (λ q. c.in_err-put_header.ensures.fails (ap Err (err_inj _ _ _ q)))
