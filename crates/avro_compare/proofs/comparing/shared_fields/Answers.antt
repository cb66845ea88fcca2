use Rattle.std.proofs.Common.{◌≡◌, ◌∙◌, ◌+◌, ℕ, List, Some, refl, sym, ap, subst, arith}
use Rattle.std.specs.Prelude.{slice_get}
use Rattle.std.proofs.lemmas.Option.{slice_get-get_or}
use Rattle.avro_compare.specs.declared.comparison.At.{At}
use Rattle.avro_compare.specs.declared.comparison.At.TheVariants.{Ignored, Pair}
use Rattle.avro_compare.specs.inside.Listed.{shared_part}
use Rattle.avro_compare.specs.Entries.{AreAscending, entry_at}
use Rattle.avro_compare.proofs.public.Entries.{AreKept, kept_none, kept_skip, kept_push, kept_all}
use Rattle.avro_compare.proofs.public.Lists.{got_past}
use Rattle.avro_compare.proofs.comparing.shared_fields.Goals as goal
use Rattle.avro_compare.proofs.comparing.shared_fields.Goals.{in-Ignored, in-Pair+in_ok-push_lone-in-Pair}

pub loop-index-init : goal.loop-index-init
loop-index-init c = kept_none (λ k. shared_part (slice_get c.args.parts.now k)) c.new-kept.result.items 0 c.new-kept.ensures.items refl

pub loop-index-preserved : goal.loop-index-preserved
loop-index-preserved c =
    let i = c.loop-index.index in
    let xs = c.args.parts.now in
    let f = λ (k : ℕ). shared_part (slice_get xs k) in
    elim c.match-parts-index.branch [
      | in-Ignored w ↦ subst (λ (ys : List (ℕ × At)). AreKept f (i + 1) ys) (sym (ap (λ v. v.items) w.kept-is))
          (kept_skip f c.loop-index.kept.items i (ap shared_part (slice_get-get_or xs i Ignored c.loop-index-test.true ∙ ap (λ (o : At). Some o) w.in-Ignored.is)) c.loop-index.invariant)
      | in-Pair+in_ok-push_lone-in-Pair w ↦ subst (λ (ys : List (ℕ × At)). AreKept f (i + 1) ys) (sym (ap (λ v. v.items) w.kept-is))
          (kept_push f c.loop-index.kept.items i (Pair w.in-Pair.w w.in-Pair.r) w.push_lone.new.kept.items w.in_ok-push_lone-in-Pair.ensures
          (ap shared_part (slice_get-get_or xs i Ignored c.loop-index-test.true ∙ ap (λ (o : At). Some o) w.in-Pair.is)) c.loop-index.invariant)
    ]

pub returns : goal.returns
returns c =
    let f = λ (k : ℕ). shared_part (slice_get c.args.parts.now k) in
    let same = sym c.shrink_to_fit.ensures.items in
    let all = kept_all f c.loop-index.kept.items c.loop-index.index
    (λ k high. ap shared_part (got_past c.args.parts.now k (omega (arith, high, c.loop-index-test.false, c.loop-index.auto.index-end)))) c.loop-index.invariant in (
      subst (λ (es : List (ℕ × At)). AreAscending 0 es) same c.loop-index.invariant.ascends,
      λ k. subst (λ (es : List (ℕ × At)). entry_at es k ≡ f k) same (all k),
    )
