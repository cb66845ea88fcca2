-- Nothing is taken or put before there is a plan and the displays are known.
use Rattle.avro_file.specs.HeaderTaken.{header_value}
use Rattle.avro_file.specs.declared.error.CopyError.{CopyError}
use Rattle.avro_lines.specs.Shown.{nodes_of}
use Rattle.avro_lines.proofs.Files.{memory-stops}
use Rattle.avro_lines.proofs.Parts.{err-exit}
use Rattle.avro_lines.proofs.showing.show_after.Goals as goal

pub returns-in_err-plan-clause-shown : goal.returns-in_err-plan-clause-shown
returns-in_err-plan-clause-shown g c =
    let task = c.args.task.now in
    err-exit _ _ c.from_residual.result CopyError.OutOfMemory c.from_residual.ensures.1
    (memory-stops g.I.Input.gives g.O.Output.keeps task.limits (nodes_of task.reader) (header_value c.args.header.now) c.args.limit g.I.Input.failures g.O.Output.failures g.O.Output.stuck
    g.met.I.Input.none g.met.O.Output.none (g.I.Input.ended c.args.input.now) c.args.input.now c.args.output.now)

pub returns-in_err-table-clause-shown : goal.returns-in_err-table-clause-shown
returns-in_err-table-clause-shown g c =
    let task = c.args.task.now in
    err-exit _ _ c.from_residual-in_err-table.result CopyError.OutOfMemory c.from_residual-in_err-table.ensures.1
    (memory-stops g.I.Input.gives g.O.Output.keeps task.limits (nodes_of task.reader) (header_value c.args.header.now) c.args.limit g.I.Input.failures g.O.Output.failures g.O.Output.stuck
    g.met.I.Input.none g.met.O.Output.none (g.I.Input.ended c.args.input.now) c.args.input.now c.args.output.now)
