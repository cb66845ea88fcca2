use Rattle.std.proofs.Common.{◌≡◌, ℕ, ◌+◌, ◌≤◌, [], ◌∷◌, Option, drop, length, sym, ◌∙◌, ap, arith}
use Rattle.std.proofs.lemmas.List.{length-append}
use Rattle.avro_least.specs.Tables.{Least, together}
use Rattle.avro_least.specs.SeenLeast.{seen, given_entry}
use Rattle.avro_least.specs.SeenAsk.{rows_of}
use Rattle.avro_least.specs.BuiltErrors.{total_from}
use Rattle.avro_least.specs.SeenTables.{erring_in, least_in}
use Rattle.avro_least.proofs.RowTotals.{total_at_first, before_more, get_each}
use Rattle.avro_least.proofs.datum.selecting.totals_before.Goals as goal

pub loop-i-init : goal.loop-i-init
loop-i-init c = (
  ap length c.new-totals.ensures.items,
  λ k low. total_at_first c.args.tables.now.limit (least_in c.args.tables.now) (erring_in c.args.tables.now) k (rows_of c.args.rows.now),
  λ i below. absurd (omega (arith, below)),
)

pub loop-i-preserved : goal.loop-i-preserved
loop-i-preserved c =
    let inv = c.loop-i.invariant in (
      ap length c.in_ok-push.ensures.items ∙ length-append c.loop-i.totals.items (c.loop-i.all ∷ []) ∙ ap (λ (n : ℕ). n + 1) inv.0,
      λ k later. before_more c.args.tables.now.limit (least_in c.args.tables.now) (erring_in c.args.tables.now) k c.loop-i.i c.args.rows.now _ (seen c.loop-i.all) _
          c.loop-i-test.true (omega (arith, later)) (inv.1 k (omega (arith, later)))
          ∙ ap (λ (o : Option Least). together c.args.tables.now.limit o (total_from c.args.tables.now.limit (least_in c.args.tables.now) (erring_in c.args.tables.now) k (c.loop-i.i + 1) (rows_of (drop (c.loop-i.i + 1) c.args.rows.now))))
          (sym (c.together-all.ensures ∙ ap (together c.args.tables.now.limit (seen c.loop-i.all)) c.entry.ensures)),
      get_each (λ j o. (k : ℕ) → j ≤ k → total_from c.args.tables.now.limit (least_in c.args.tables.now) (erring_in c.args.tables.now) k 0 (rows_of c.args.rows.now)
          ≡ together c.args.tables.now.limit (given_entry o) (total_from c.args.tables.now.limit (least_in c.args.tables.now) (erring_in c.args.tables.now) k j (rows_of (drop j c.args.rows.now))))
          c.loop-i.totals.items _ c.loop-i.all c.loop-i.i c.in_ok-push.ensures.items inv.0 inv.2 inv.1,
    )

pub returns : goal.returns
returns c i within = c.loop-i.invariant.2 i (omega (arith, within, c.loop-i-test.false))
