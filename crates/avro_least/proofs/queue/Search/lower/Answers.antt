use Rattle.std.proofs.Common.{◌≡◌, true, List, Option, Some, arith, sym, ◌∙◌, ap, slice_get}
use Rattle.std.specs.BinaryHeap.{heap_len}
use Rattle.avro_least.specs.SeenLeast.{seen, given_entry, improves, weights}
use Rattle.avro_least.specs.declared.kept.Least.{Least as KeptLeast}
use Rattle.avro_least.proofs.Searching.{set_weighs_less}
use Rattle.avro_least.proofs.queue.Search.lower.Goals as goal

pub returns-in_ok-push-clause-effort : goal.returns-in_ok-push-clause-effort
returns-in_ok-push-clause-effort c =
    let better : improves (seen (Some c.in-Some.entry)) (given_entry (slice_get c.args.self.now.entries.items c.args.i)) ≡ true =
    ap (improves (seen (Some c.in-Some.entry))) (sym (c.entry_at.ensures ∙ ap (λ (es : List (Option KeptLeast)). given_entry (slice_get es c.args.i)) c.deref.ensures.value))
    ∙ sym c.improves.ensures ∙ c.if-improves.true in
    omega (
      arith,
      set_weighs_less c.args.self.now.entries.items c.args.i (Some c.in-Some.entry) better,
      c.in_ok-push.ensures.len,
      ap (λ v. weights v.items) c.mark.ensures.entries,
      ap (λ q. heap_len q) c.mark.ensures.queue,
    )
