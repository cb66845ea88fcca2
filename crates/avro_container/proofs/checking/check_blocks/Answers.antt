-- Each block goes on from those before it.
use Rattle.std.proofs.Common.{◌≡◌, ◌+◌, ℕ, List, [], ap, sym, subst, ◌∙◌, rules}
use Rattle.std.proofs.lemmas.Result.{err_from_is_err_and}
use Rattle.avro_file.specs.BlockFails.{FileLimitValues, max_blocks}
use Rattle.avro_file.specs.HeaderTaken.{header_value}
use Rattle.avro_file.specs.declared.header.Header.{Header}
use Rattle.avro_container.specs.Checking.{Takes}
use Rattle.avro_file.specs.FileFault.{FileFault}
use Rattle.avro_container.specs.inside.BlocksChecked.{IsCounted, IsFaultOf}
use Rattle.avro_container.proofs.CheckLaws.{counted-none, counted-more, counted-end, counted-fault}
use Rattle.avro_container.proofs.checking.check_blocks.Goals as goal

pub loop-blocks-preserved : goal.loop-blocks-preserved
loop-blocks-preserved g c =
    let held = c.loop-blocks.invariant in
    let step = c.in_ok-count.ensures in
    let same : c.in-Some.count ≡ c.from.result = search rules in
    let next = subst (λ (h : Header). Takes g.I.Input.gives c.loop-blocks.input c.check_next.new.input (IsCounted c.args.limits.now (header_value h) c.loop-blocks.blocks.number c.in-Some.count)) held.header
    (subst (λ (l : FileLimitValues). Takes g.I.Input.gives c.loop-blocks.input c.check_next.new.input (IsCounted l (header_value c.loop-blocks.blocks.header.now) c.loop-blocks.blocks.number c.in-Some.count)) held.limits
    (rw c.in-Some.is at step.found)) in
    record {
      counted = counted-more g.I.Input.gives g.met.I.Input.chain _ _ _ c.args.limits.now (header_value c.args.header.now) c.loop-blocks.counts.items c.loop-blocks.counts.blocks
          c.loop-blocks.blocks.number c.from.result held.number held.counted
          (subst (λ (n : ℕ). Takes g.I.Input.gives c.loop-blocks.input c.check_next.new.input (IsCounted c.args.limits.now (header_value c.args.header.now) c.loop-blocks.blocks.number n)) same next);
      works = step.input_works ∙ held.works;
      header = ap (λ r. r.now) step.kept.0 ∙ held.header;
      limits = step.kept.1 ∙ held.limits;
      failed = (rw c.in-Some.is at step.more).0;
      ended = (rw c.in-Some.is at step.more).1;
      checks = step.checks ∙ held.checks;
      number = (rw c.in-Some.is at step.counted) ∙ ap (λ n. n + 1) held.number;
      few = search rules;
      items_few = search rules;
    }

pub returns-clause-whole : goal.returns-clause-whole
returns-clause-whole g c =
    let held = c.loop-blocks.invariant in
    counted-end g.I.Input.gives g.met.I.Input.chain _ _ _ c.args.limits.now (header_value c.args.header.now) c.loop-blocks.counts.items c.loop-blocks.counts.blocks
    held.counted (rw c.in-None.is at c.in_ok-count.ensures.none)

pub returns-in_err-count-clause-fault : goal.returns-in_err-count-clause-fault
returns-in_err-count-clause-fault g c =
    let p = err_from_is_err_and c.from_residual.result c.from_residual.ensures.1 in
    let held = c.loop-blocks.invariant in
    rw (p.1, p.2) (λ f is.
    let ended = g.I.Input.ended c.check_next.new.input in
    let next = subst (λ (h : Header). Takes g.I.Input.gives c.loop-blocks.input c.check_next.new.input (IsFaultOf c.args.limits.now (header_value h) c.loop-blocks.blocks.number ended f)) held.header
    (subst (λ (l : FileLimitValues). Takes g.I.Input.gives c.loop-blocks.input c.check_next.new.input (IsFaultOf l (header_value c.loop-blocks.blocks.header.now) c.loop-blocks.blocks.number ended f)) held.limits
    (c.in_err-count.ensures.fault f is)) in
    counted-fault g.I.Input.gives g.met.I.Input.chain _ _ _ c.args.limits.now (header_value c.args.header.now) c.loop-blocks.counts.items c.loop-blocks.counts.blocks
    c.loop-blocks.blocks.number ended f held.number held.counted next)
