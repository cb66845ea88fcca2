use Rattle.std.proofs.Common.{◌≡◌, ◌∙◌, ◌+◌, ℕ, List, Some, None, Option, refl, sym, ap, subst, arith}
use Rattle.std.specs.Prelude.{slice_get}
use Rattle.std.proofs.lemmas.Option.{slice_get-get_or}
use Rattle.avro_compare.specs.inside.Listed.{listed_source}
use Rattle.avro_compare.specs.Entries.{AreAscending, entry_at}
use Rattle.avro_compare.proofs.public.Entries.{AreKept, kept_none, kept_skip, kept_push, kept_all}
use Rattle.avro_compare.proofs.public.Lists.{got_past}
use Rattle.avro_compare.proofs.comparing.shared_sources.Goals as goal
use Rattle.avro_compare.proofs.comparing.shared_sources.Goals.{in-None, in-Some+in_ok-push_lone-in-Some}

pub loop-index-init : goal.loop-index-init
loop-index-init c = kept_none (λ k. listed_source (slice_get c.args.found.now k)) c.new-kept.result.items 0 c.new-kept.ensures.items refl

pub loop-index-preserved : goal.loop-index-preserved
loop-index-preserved c =
    let i = c.loop-index.index in
    let xs = c.args.found.now in
    let f = λ (k : ℕ). listed_source (slice_get xs k) in
    elim c.match-found-index.branch [
      | in-None w ↦ subst (λ (ys : List (ℕ × ℕ)). AreKept f (i + 1) ys) (sym (ap (λ v. v.items) w.kept-is))
          (kept_skip f c.loop-index.kept.items i (ap listed_source (slice_get-get_or xs i None c.loop-index-test.true ∙ ap (λ (o : Option ℕ). Some o) w.in-None.is)) c.loop-index.invariant)
      | in-Some+in_ok-push_lone-in-Some w ↦ subst (λ (ys : List (ℕ × ℕ)). AreKept f (i + 1) ys) (sym (ap (λ v. v.items) w.kept-is))
          (kept_push f c.loop-index.kept.items i w.in-Some.source w.push_lone.new.kept.items w.in_ok-push_lone-in-Some.ensures
          (ap listed_source (slice_get-get_or xs i None c.loop-index-test.true ∙ ap (λ (o : Option ℕ). Some o) w.in-Some.is)) c.loop-index.invariant)
    ]

pub returns : goal.returns
returns c =
    let f = λ (k : ℕ). listed_source (slice_get c.args.found.now k) in
    let same = sym c.shrink_to_fit.ensures.items in
    let all = kept_all f c.loop-index.kept.items c.loop-index.index
    (λ k high. ap listed_source (got_past c.args.found.now k (omega (arith, high, c.loop-index-test.false, c.loop-index.auto.index-end)))) c.loop-index.invariant in (
      subst (λ (es : List (ℕ × ℕ)). AreAscending 0 es) same c.loop-index.invariant.ascends,
      λ k. subst (λ (es : List (ℕ × ℕ)). entry_at es k ≡ f k) same (all k),
    )
