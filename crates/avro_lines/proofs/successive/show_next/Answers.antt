-- A block is taken, and its data are shown.
use Rattle.std.proofs.Common.{◌≡◌, List, ℕ, Some, None, Err, [], length, take, true≢false, sym, ap, subst, ◌∙◌, refl}
use Rattle.std.specs.Option.{option_copied}
use Rattle.avro_file.specs.BlockFails.{FileLimitValues}
use Rattle.avro_file.specs.BlockTaken.{TakesBlock, TakesFault}
use Rattle.avro_container.specs.Moved.{Moved}
use Rattle.avro_lines.specs.Lines.{up_to}
use Rattle.avro_lines.specs.inside.BlocksShown.{IsAll, IsNext, Shows}
use Rattle.avro_lines.specs.inside.DataShown.{FirstStops}
use Rattle.avro_lines.specs.inside.OpenedSeen.{header_for, limits_for, reader_for, reading_for, shown_for}
use Rattle.avro_lines.proofs.Nexts.{by-header, next-none, next-refused, next-shown, next-stops}
use Rattle.avro_lines.proofs.Parts.{err-exit, puts-still}
use Rattle.avro_lines.proofs.Plans.{table-shown}
use Rattle.avro_lines.proofs.successive.show_next.Goals as goal

pub returns-in_ok-show_block-in-Some-clause-shown : goal.returns-in_ok-show_block-in-Some-clause-shown
returns-in_ok-show_block-in-Some-clause-shown g c =
    let blocks = c.args.blocks.now in
    let opened = c.args.opened.now in
    let block = c.in-Some.block in
    let shown = c.in_ok-show_block-in-Some.ensures in
    let ended = g.I.Input.ended c.next.new.input in
    let took = by-header (λ (l : FileLimitValues) (sync : List ℕ). TakesBlock g.I.Input.gives c.args.input.now c.next.new.input l sync block.count block.body.items) blocks.limits opened.task.now.limits
    blocks.header.now opened.header.now c.requires.same.0 c.requires.same.1 (rw c.in-Some.is at c.in_ok-block.ensures.found) in
    let first = subst (λ (n : ℕ). (lines : List (List ℕ)) → length lines ≡ n → up_to c.args.left lines ≡ take c.wanted_of-wanted.result lines) c.count-count.ensures c.wanted_of-wanted.ensures.wanted in
    record {
      moved = subst (λ (n : ℕ). Moved g.I.Input.gives g.O.Output.keeps c.args.input.now c.next.new.input c.args.output.now c.show_block.new.output
          (Shows (limits_for opened) (reader_for opened) (header_for opened) c.args.left blocks.number c.args.lines.now.text c.show_block.new.lines.text (IsAll (IsNext (Some n) ended)))) (sym c.count-count.ensures)
          (next-shown g.I.Input.gives g.O.Output.keeps g.O.Output.failures (limits_for opened) (reader_for opened) (header_for opened) c.args.left c.args.input.now c.next.new.input c.args.output.now c.show_block.new.output
          blocks.number block.count c.wanted_of-wanted.result (shown_for opened) block.body.items c.args.lines.now.text c.show_block.new.lines.text (rw c.in-Some.is at c.in_ok-block.ensures.few)
          (table-shown opened.header.now.schema opened.table.now (option_copied opened.task.now.reader) opened.displayed) first took ended shown);
      input_works = c.in_ok-block.ensures.works;
      output_works = shown.lines.works;
    }

pub returns-in_err-show_block-in-Some-clause-shown : goal.returns-in_err-show_block-in-Some-clause-shown
returns-in_err-show_block-in-Some-clause-shown g c =
    let blocks = c.args.blocks.now in
    let opened = c.args.opened.now in
    let block = c.in-Some.block in
    let took = by-header (λ (l : FileLimitValues) (sync : List ℕ). TakesBlock g.I.Input.gives c.args.input.now c.next.new.input l sync block.count block.body.items) blocks.limits opened.task.now.limits
    blocks.header.now opened.header.now c.requires.same.0 c.requires.same.1 (rw c.in-Some.is at c.in_ok-block.ensures.found) in
    let first = subst (λ (n : ℕ). (lines : List (List ℕ)) → length lines ≡ n → up_to c.args.left lines ≡ take c.wanted_of-wanted.result lines) c.count-count.ensures c.wanted_of-wanted.ensures.wanted in
    let stops = subst (λ (n : ℕ). FirstStops g.O.Output.keeps g.O.Output.failures g.O.Output.stuck (reading_for opened) (shown_for opened) n block.count c.wanted_of-wanted.result block.body.items c.args.output.now c.args.lines.now.text
    c.show_block.new.output c.show_block.new.lines.text c.in_err-show_block-in-Some.field-0.0) (sym (rw c.in-Some.is at c.in_ok-block.ensures.numbered)) c.in_err-show_block-in-Some.ensures in
    err-exit _ _ c.from_residual-in_err-show_block-in-Some.result _ c.from_residual-in_err-show_block-in-Some.ensures.1
    (next-stops g.I.Input.gives g.O.Output.keeps g.O.Output.failures (limits_for opened) (reader_for opened) (header_for opened) c.args.left c.args.input.now c.next.new.input c.args.output.now c.show_block.new.output
    blocks.number block.count c.wanted_of-wanted.result (shown_for opened) block.body.items c.args.lines.now.text c.show_block.new.lines.text (rw c.in-Some.is at c.in_ok-block.ensures.few)
    (table-shown opened.header.now.schema opened.table.now (option_copied opened.task.now.reader) opened.displayed) first took g.I.Input.failures g.O.Output.stuck (g.I.Input.ended c.next.new.input) _ c.requires.marker
    c.in_ok-block.ensures.works stops)

pub returns-in-None-clause-shown : goal.returns-in-None-clause-shown
returns-in-None-clause-shown g c =
    let opened = c.args.opened.now in
    let ended = g.I.Input.ended c.next.new.input in
    record {
      moved = next-none g.I.Input.gives g.O.Output.keeps g.O.Output.failures (limits_for opened) (reader_for opened) (header_for opened) c.args.left c.args.input.now c.next.new.input c.args.output.now c.args.output.now
          c.args.blocks.now.number c.args.lines.now.text c.args.lines.now.text [] (IsAll (IsNext None ended)) c.requires.few (rw c.in-None.is at c.in_ok-block.ensures.none)
          (puts-still g.O.Output.keeps g.O.Output.failures g.met.O.Output.none c.args.output.now c.args.lines.now.text c.args.lines.now.text refl).puts
          (refl, refl, (refl, rw c.in-None.is at c.in_ok-block.ensures.told (λ is. absurd (true≢false (sym is ∙ c.requires.goes_on.1)))));
      input_works = c.in_ok-block.ensures.works;
      output_works = refl;
    }

pub returns-in_err-block-clause-shown : goal.returns-in_err-block-clause-shown
returns-in_err-block-clause-shown g c =
    let blocks = c.args.blocks.now in
    let opened = c.args.opened.now in
    let refused = c.in_err-block.ensures in
    err-exit _ _ c.from_residual.result _ c.from_residual.ensures.1 (record {
      moved = next-refused g.I.Input.gives g.O.Output.keeps g.O.Output.failures (limits_for opened) (reader_for opened) (header_for opened) c.args.left g.met.O.Output.none g.I.Input.ended c.args.input.now c.next.new.input
          c.args.output.now blocks.number _ c.args.lines.now.text c.requires.few refused.lost
          (λ f is. by-header (λ (l : FileLimitValues) (sync : List ℕ). TakesFault g.I.Input.gives g.I.Input.ended c.args.input.now c.next.new.input l sync blocks.number f) blocks.limits opened.task.now.limits
          blocks.header.now opened.header.now c.requires.same.0 c.requires.same.1 (refused.refused f is));
      named = refused.named;
      first = λ is. true≢false (sym (refused.only_before (ap Err is)) ∙ c.requires.goes_on.0);
      input_fails = λ is. refused.fails (ap Err is);
      output_works = λ _. refl;
      output_fails = λ is. absurd (refused.no_output (ap Err is));
    })
