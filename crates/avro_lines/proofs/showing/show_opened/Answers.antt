-- What is held goes out at the end.
use Rattle.std.proofs.lemmas.Result.{MatchResult-weaker}
use Rattle.avro_lines.specs.inside.BlocksShown.{IsAll, IsEnd}
use Rattle.avro_lines.specs.inside.OpenedSeen.{header_for, limits_for, reader_for}
use Rattle.avro_lines.proofs.Files.{last-fails, last-goes, last-stops}
use Rattle.avro_lines.proofs.showing.show_opened.Goals as goal

pub returns-in-Ok-clause-shown : goal.returns-in-Ok-clause-shown
returns-in-Ok-clause-shown g c =
    let opened = c.args.opened.now in
    let had = c.in-Ok.ensures in
    let ended = g.I.Input.ended c.show_blocks.new.input in
    MatchResult-weaker c.put_held.result c.put_held.ensures.held
    (λ _ out. last-goes g.I.Input.gives g.O.Output.keeps (limits_for opened) (reader_for opened) (header_for opened) c.args.limit g.I.Input.failures g.O.Output.failures g.met.O.Output.chain
    c.args.input.now c.show_blocks.new.input c.args.output.now c.show_blocks.new.output c.put_held.new.output c.show_blocks.new.lines.text g.O.Output.flushed (IsAll (IsEnd c.args.limit ended)) had out)
    (λ e failed. last-fails g.I.Input.gives g.O.Output.keeps (limits_for opened) (reader_for opened) (header_for opened) c.args.limit g.I.Input.failures g.O.Output.failures g.met.O.Output.chain
    c.args.input.now c.show_blocks.new.input c.args.output.now c.show_blocks.new.output c.put_held.new.output c.show_blocks.new.lines.text g.O.Output.stuck ended e (IsAll (IsEnd c.args.limit ended)) had.moved had.output_works failed)

pub returns-in-Ok-clause-flushed : goal.returns-in-Ok-clause-flushed
returns-in-Ok-clause-flushed g c = MatchResult-weaker c.put_held.result c.put_held.ensures.held (λ _ out. out.flushes) (λ _ _. tt)

pub returns-clause-shown : goal.returns-clause-shown
returns-clause-shown g c =
    let opened = c.args.opened.now in
    last-stops g.I.Input.gives g.O.Output.keeps (limits_for opened) (reader_for opened) (header_for opened) c.args.limit g.I.Input.failures g.O.Output.failures g.met.O.Output.chain
    c.args.input.now c.show_blocks.new.input c.args.output.now c.show_blocks.new.output c.put_before.new.output c.show_blocks.new.lines.text g.O.Output.stuck (g.I.Input.ended c.show_blocks.new.input)
    g.met.O.Output.none c.in-Err.error c.put_before.result c.in-Err.ensures c.put_before.ensures
