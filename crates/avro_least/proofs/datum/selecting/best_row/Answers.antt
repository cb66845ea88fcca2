use Rattle.std.proofs.Common.{◌≡◌, ℕ, ◌+◌, ◌-◌, ◌<◌, List, Option, drop, length, inl, inr, sym, ◌∙◌, ap, ap₂, subst, arith, map, slice_get}
use Rattle.std.proofs.lemmas.Bool.{true≢false, cases_eq}
use Rattle.avro_least.specs.Tables.{together, all_of}
use Rattle.avro_least.specs.SeenLeast.{seen, given_entry}
use Rattle.avro_least.specs.declared.kept.Least.{Least as KeptLeast}
use Rattle.avro_least.specs.SeenAsk.{rows_of}
use Rattle.avro_least.specs.BuiltErrors.{total_from}
use Rattle.avro_least.specs.SeenTables.{erring_in, least_in}
use Rattle.avro_least.proofs.RowTotals.{total_here, all_here}
use Rattle.avro_least.proofs.datum.selecting.best_row.Goals as goal

back : (i : ℕ) → 0 < i → i ≡ i - 1 + 1
back i h = omega (arith, h)

pub loop-i-preserved-then-are_same : goal.loop-i-preserved-then-are_same
loop-i-preserved-then-are_same c =
    let inv = c.loop-i.invariant in
    let i : ℕ = c.loop-i.i - 1 in
    let within : i < length c.args.rows.now = omega (arith, inv.0, c.loop-i-test.true) in
    let behind : seen c.loop-i.behind ≡ all_of c.args.tables.now.limit (least_in c.args.tables.now) (map (λ r. r.node) (rows_of (drop (i + 1) c.args.rows.now))) =
    inv.1 ∙ ap (λ (n : ℕ). all_of c.args.tables.now.limit (least_in c.args.tables.now) (map (λ r. r.node) (rows_of (drop n c.args.rows.now)))) (back c.loop-i.i c.loop-i-test.true) in
    let whole : seen c.together-all.result ≡ total_from c.args.tables.now.limit (least_in c.args.tables.now) (erring_in c.args.tables.now) i 0 (rows_of c.args.rows.now) =
    c.together-all.ensures ∙ ap₂ (together c.args.tables.now.limit) (c.entry_at.ensures ∙ ap (λ (es : List (Option KeptLeast)). given_entry (slice_get es i)) c.deref.ensures.value)
    (c.together-fails.ensures ∙ ap₂ (together c.args.tables.now.limit) c.row_entry-own.ensures behind
    ∙ sym (total_here c.args.tables.now.limit (least_in c.args.tables.now) (erring_in c.args.tables.now) i c.args.rows.now _ within))
    ∙ sym (c.in_ok-before.ensures i within i (omega arith)) in (
      omega (arith, inv.0),
      c.together-behind.ensures ∙ ap₂ (together c.args.tables.now.limit) c.entry.ensures behind
          ∙ all_here c.args.tables.now.limit (least_in c.args.tables.now) (erring_in c.args.tables.now) i c.args.rows.now _ within,
      λ k low below same. (within, sym whole ∙ c.are_same.ensures.same c.if-are_same.true),
    )

pub loop-i-preserved : goal.loop-i-preserved
loop-i-preserved c =
    let inv = c.loop-i.invariant in
    let i : ℕ = c.loop-i.i - 1 in
    let within : i < length c.args.rows.now = omega (arith, inv.0, c.loop-i-test.true) in
    let behind : seen c.loop-i.behind ≡ all_of c.args.tables.now.limit (least_in c.args.tables.now) (map (λ r. r.node) (rows_of (drop (i + 1) c.args.rows.now))) =
    inv.1 ∙ ap (λ (n : ℕ). all_of c.args.tables.now.limit (least_in c.args.tables.now) (map (λ r. r.node) (rows_of (drop n c.args.rows.now)))) (back c.loop-i.i c.loop-i-test.true) in
    let whole : seen c.together-all.result ≡ total_from c.args.tables.now.limit (least_in c.args.tables.now) (erring_in c.args.tables.now) i 0 (rows_of c.args.rows.now) =
    c.together-all.ensures ∙ ap₂ (together c.args.tables.now.limit) (c.entry_at.ensures ∙ ap (λ (es : List (Option KeptLeast)). given_entry (slice_get es i)) c.deref.ensures.value)
    (c.together-fails.ensures ∙ ap₂ (together c.args.tables.now.limit) c.row_entry-own.ensures behind
    ∙ sym (total_here c.args.tables.now.limit (least_in c.args.tables.now) (erring_in c.args.tables.now) i c.args.rows.now _ within))
    ∙ sym (c.in_ok-before.ensures i within i (omega arith)) in (
      omega (arith, inv.0),
      c.together-behind.ensures ∙ ap₂ (together c.args.tables.now.limit) c.entry.ensures behind
          ∙ all_here c.args.tables.now.limit (least_in c.args.tables.now) (erring_in c.args.tables.now) i c.args.rows.now _ within,
      λ k low below same. elim (cases_eq k i) [
        | inl here ↦ absurd (true≢false (sym (c.are_same.ensures.told (whole
            ∙ subst (λ (n : ℕ). total_from c.args.tables.now.limit (least_in c.args.tables.now) (erring_in c.args.tables.now) n 0 (rows_of c.args.rows.now) ≡ seen c.best_field-best.result) here same)) ∙ c.if-are_same.false))
        | inr apart ↦ inv.2 k (omega (arith, low, apart)) below same
      ],
    )

pub returns : goal.returns
returns c k within same =
    let found = c.loop-i.invariant.2 k (omega (arith, c.loop-i-test.false)) within (same ∙ sym c.best_field-best.ensures) in
    (found.0, found.1 ∙ c.best_field-best.ensures)
