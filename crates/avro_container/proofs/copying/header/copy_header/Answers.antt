-- A header is taken and put.
use Rattle.std.proofs.Common.{sym}
use Rattle.avro_file.specs.Held.{held}
use Rattle.avro_file.specs.HeaderTaken.{header_value}
use Rattle.avro_container.specs.TaskSeen.{job_of}
use Rattle.avro_container.proofs.HeadersCopied.{copies-header, refuses-header, refuses-putting}
use Rattle.avro_file.proofs.public.Small.{ok_err}
use Rattle.avro_container.proofs.copying.header.copy_header.Goals as goal

pub returns-in-Ok-put_opened-clause-copied : goal.returns-in-Ok-put_opened-clause-copied
returns-in-Ok-put_opened-clause-copied g c =
    let task = c.args.task.now in
    rw (sym c.in-Ok-put_opened.ensures.header) at (copies-header g.I.Input.gives g.O.Output.keeps _ _ _ _ (job_of task) task.limits (header_value c.in-Ok.header) c.in-Ok.len
    (held c.args.store.now.buffer) (held c.take_header.new.buffer) (held c.pass.new.self) c.requires.none c.in-Ok.ensures.limited (c.in-Ok.ensures.taken (ok_err _ _ _))
    c.in-Ok.ensures.inside c.in-Ok.ensures.short c.in-Ok.ensures.stands c.in-Ok-put_opened.ensures.put c.pass.ensures)

pub returns-in-Err-put_opened-clause-refused : goal.returns-in-Err-put_opened-clause-refused
returns-in-Err-put_opened-clause-refused g c = λ before is_none is_ahead.
    let task = c.args.task.now in
    refuses-putting g.I.Input.gives g.O.Output.keeps _ _ _ _ (job_of task) task.limits (header_value c.in-Ok.header)
    (g.I.Input.ended c.take_header.new.input) c.in-Ok.len (held c.args.store.now.buffer) (held c.take_header.new.buffer) c.in-Err-put_opened.error before
    is_none is_ahead c.requires.none c.in-Ok.ensures.limited (c.in-Ok.ensures.taken (ok_err _ _ _)) c.in-Ok.ensures.inside c.in-Ok.ensures.short
    c.in-Ok.ensures.stands c.in-Err-put_opened.ensures.front
    c.in-Err-put_opened.ensures.told

pub returns-in-Err-clause-refused : goal.returns-in-Err-clause-refused
returns-in-Err-clause-refused g c = λ before is_none is_ahead.
    let task = c.args.task.now in
    refuses-header g.I.Input.gives g.O.Output.keeps g.met.O.Output.none _ _ _ (job_of task) task.limits (g.I.Input.ended c.take_header.new.input)
    (held c.args.store.now.buffer) (held c.take_header.new.buffer) c.in-Err.error before is_none is_ahead c.requires.none c.in-Err.ensures.limited
    c.in-Err.ensures.lost c.in-Err.ensures.taken c.in-Err.ensures.refused
