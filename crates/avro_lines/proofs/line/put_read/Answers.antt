-- What stands at the front is what is decoded.
use Rattle.std.proofs.Common.{take, drop, sym, ap, ◌∙◌}
use Rattle.std.proofs.lemmas.List.{length-take-le, take-append-drop}
use Rattle.avro_lines.specs.Lines.{line_of}
use Rattle.avro_lines.specs.inside.OpenedSeen.{reading_for, shown_for}
use Rattle.avro_lines.proofs.Parts.{err-exit, part-still}
use Rattle.avro_lines.proofs.line.put_read.Goals as goal

pub returns-in_err-put_datum-in-Ok-clause-shown : goal.returns-in_err-put_datum-in-Ok-clause-shown
returns-in_err-put_datum-in-Ok-clause-shown g c = λ u size stands.
    let bytes = c.args.bytes.now in
    let reads = rw (c.schema-schema.ensures, c.root.ensures.root, c.datum-limits.ensures) at c.in-Ok.ensures in
    let told = reads.begins stands.datum (take size bytes) (drop size bytes) stands.encoded stands.within (sym (take-append-drop size bytes)) in
    err-exit _ _ c.from_residual.result _ c.from_residual.ensures.1 (c.in_err-put_datum-in-Ok.ensures u (ap (reading_for c.args.opened.now).resolve told.0 ∙ stands.resolves))

pub returns-in_ok-put_datum-in-Ok-clause-shown : goal.returns-in_ok-put_datum-in-Ok-clause-shown
returns-in_ok-put_datum-in-Ok-clause-shown g c = λ u size stands.
    let bytes = c.args.bytes.now in
    let reads = rw (c.schema-schema.ensures, c.root.ensures.root, c.datum-limits.ensures) at c.in-Ok.ensures in
    let told = reads.begins stands.datum (take size bytes) (drop size bytes) stands.encoded stands.within (sym (take-append-drop size bytes)) in
    (told.1 ∙ length-take-le size bytes stands.in_bytes, c.in_ok-put_datum-in-Ok.ensures u (ap (reading_for c.args.opened.now).resolve told.0 ∙ stands.resolves))

pub returns-in-Err-clause-shown : goal.returns-in-Err-clause-shown
returns-in-Err-clause-shown g c = λ u size stands.
    part-still g.O.Output.keeps g.O.Output.failures g.O.Output.stuck g.met.O.Output.none c.args.output.now c.args.lines.now.text (line_of (shown_for c.args.opened.now) u)
