-- What was held goes out, and then the line.
use Rattle.std.proofs.Common.{[], ap, Err}
use Rattle.avro_lines.specs.Lines.{line_of}
use Rattle.avro_lines.specs.inside.OpenedSeen.{shown_for}
use Rattle.avro_lines.proofs.Parts.{err-exit, part-after, part-front, part-held, part-longer, puts-after, puts-all, told-piece}
use Rattle.avro_lines.proofs.line.put_datum.Goals as goal

pub returns-in_err-put_held : goal.returns-in_err-put_held
returns-in_err-put_held g c = λ u resolved.
    let line = line_of (shown_for c.args.opened.now) u in
    err-exit _ _ c.from_residual.result _ c.from_residual.ensures.1
    (part-longer g.O.Output.keeps g.O.Output.failures g.O.Output.stuck c.args.output.now c.put_held.new.output c.args.lines.now.text [] line c.put_held.new.lines.text _
    (part-held g.O.Output.keeps g.O.Output.failures g.O.Output.stuck c.args.output.now c.put_held.new.output c.args.lines.now.text c.put_held.new.lines.text _ c.in_err-put_held.ensures.held
    c.in_err-put_held.ensures.none))

pub returns-in-Ok : goal.returns-in-Ok
returns-in-Ok g c = λ u resolved.
    let line = line_of (shown_for c.args.opened.now) u in
    puts-after g.O.Output.keeps g.O.Output.failures g.met.O.Output.chain c.args.output.now c.put_held.new.output c.put_by.new.output c.args.lines.now.text [] c.put_held.new.lines.text line c.put_by.new.text
    (puts-all g.O.Output.keeps g.O.Output.failures c.args.output.now c.put_held.new.output c.args.lines.now.text c.put_held.new.lines.text c.in_ok-put_held.ensures.held.put c.in_ok-put_held.ensures.none
    c.in_ok-put_held.ensures.held.works)
    (record { puts = c.in-Ok.ensures.put u resolved; works = c.in-Ok.ensures.works })

pub returns-in-Err : goal.returns-in-Err
returns-in-Err g c = λ u resolved.
    let line = line_of (shown_for c.args.opened.now) u in
    part-after g.O.Output.keeps g.O.Output.failures g.O.Output.stuck g.met.O.Output.chain c.args.output.now c.put_held.new.output c.put_by.new.output c.args.lines.now.text [] c.put_held.new.lines.text line
    c.clear.new.self c.error_of.result
    (puts-all g.O.Output.keeps g.O.Output.failures c.args.output.now c.put_held.new.output c.args.lines.now.text c.put_held.new.lines.text c.in_ok-put_held.ensures.held.put c.in_ok-put_held.ensures.none
    c.in_ok-put_held.ensures.held.works)
    (part-front g.O.Output.keeps g.O.Output.failures g.O.Output.stuck c.put_held.new.output c.put_by.new.output c.put_held.new.lines.text line c.clear.new.self c.error_of.result
    (c.in-Err.ensures.front u resolved) c.clear.ensures
    (told-piece g.O.Output.failures g.O.Output.stuck c.put_held.new.output c.put_by.new.output c.in-Err.error c.error_of.result c.error_of.ensures.failed c.error_of.ensures.memory
    (λ is. c.in-Err.ensures.fails (ap Err is)) (λ is. c.in-Err.ensures.memory (ap Err is))))
