-- Where all pairs that the roots lead to are within a limit, there are no more, however they are counted.
use Rattle.std.proofs.Common.{◌≡◌, ℕ, ◌≤◌, Bool, true, false, not, List, [], ◌∷◌, length, refl, sym, ◌∙◌, subst, arith}
use Rattle.std.proofs.lemmas.Bool.{true≢false, eq-eqb}
use Rattle.std.proofs.lemmas.List.{length-map}
use Rattle.std.proofs.lemmas.Map.Made.{length-le_from_is_member}
use Rattle.std.specs.Cmp.{IsEquivalence}
use Rattle.std.specs.List.{AllByRecursion, IsDistinct}
use Rattle.std.specs.Prelude.{◌==◌}
use Rattle.avro_schema.specs.Distinct.{are_distinct}
use Rattle.avro_schema.specs.Node.{Node}
use Rattle.avro_compare.specs.Children.{Pair}
use Rattle.avro_certificate.specs.Closed.{same_pair, is_among, is_among_pairs}
use Rattle.avro_certificate.specs.Evidence.{IsGreatestDead, IsReached, roots, child}
use Rattle.avro_certificate.proofs.public.Rising.{both_true}
use Rattle.avro_certificate.proofs.public.Tests.{and_left, and_right, or_left, or_right, not_true, same_pair-true}
use Rattle.avro_explain.specs.Places.{pair_of, pairs_of, AreReached}
use Rattle.avro_explain.specs.declared.found.Place.{Place}
use Rattle.avro_answer.specs.ExplainAnswer.{IsOverLimit}

same_itself : (p : Pair) → same_pair p p ≡ true
same_itself p = both_true (p.w == p.w) (p.r == p.r) (eq-eqb p.w p.w refl) (eq-eqb p.r p.r refl)

same_test : (a b : Bool) → (a ≡ true → b ≡ true) → (b ≡ true → a ≡ true) → a ≡ b
same_test true b f g = sym (f refl)
same_test false true f g = g refl
same_test false false f g = refl

turned : (p q : Pair) → same_pair p q ≡ true → same_pair q p ≡ true
turned p q h = subst (λ (x : Pair). same_pair x p ≡ true) (same_pair-true p q h) (same_itself p)

pairs_equal : IsEquivalence same_pair
pairs_equal = record {
  refl = same_itself;
  symm = λ p q. same_test (same_pair p q) (same_pair q p) (turned p q) (turned q p);
  congr = λ p q s h. subst (λ (x : Pair). same_pair p s ≡ same_pair x s) (same_pair-true p q h) refl;
}

apart : (p : Pair) (ps : List Pair) → is_among_pairs ps p ≡ false → AllByRecursion (λ q. same_pair p q ≡ false) ps
apart p [] none = tt
apart p (q ∷ qs) none = (or_left (same_pair p q) (is_among_pairs qs p) none, apart p qs (or_right (same_pair p q) (is_among_pairs qs p) none))

distinct : (ps : List Pair) → are_distinct same_pair ps ≡ true → IsDistinct same_pair ps
unfolding IsDistinct
distinct [] once = tt
distinct (p ∷ ps) once = (
  apart p ps (not_true (is_among_pairs ps p) (and_left (not (is_among_pairs ps p)) (are_distinct same_pair ps) once)),
  distinct ps (and_right (not (is_among_pairs ps p)) (are_distinct same_pair ps) once),
)

-- two greatest dead sets have the same nodes, so they reach the same pairs
module _ (writer reader : List Node) (dead other : List ℕ) (greatest : IsGreatestDead writer dead) (theirs : IsGreatestDead writer other) where
  still_lives : (k : ℕ) → is_among other k ≡ false → is_among dead k ≡ false
  still_lives k lives = decided (is_among dead k) refl
    where
      decided : (t : Bool) → is_among dead k ≡ t → is_among dead k ≡ false
      decided true e = absurd (true≢false (sym (theirs.greatest dead greatest.all_dead k e) ∙ lives))
      decided false e = e

  still_reached : (p : Pair) → IsReached writer reader other p → IsReached writer reader dead p
  still_reached p (roots lives) = roots (still_lives 0 lives)
  still_reached p (child q c before among lives) = child q p (still_reached q before) among (still_lives p.w lives)

pub within_limit : (writer reader : List Node) (dead : List ℕ) (places : List Place) (limit : ℕ) → IsGreatestDead writer dead
    → AreReached writer reader dead (pairs_of places) → length places ≤ limit → IsOverLimit writer reader limit → ⊥
within_limit writer reader dead places limit greatest reached within over =
    let more = over.3 in
    let few = length-le_from_is_member pairs_equal over.1 (pairs_of places) (distinct over.1 more.once)
    (λ p among. reached.all_reached p (still_reached writer reader dead over.0 greatest over.2 p (more.reached p among))) in
    omega (arith, within, more.more, length-map places pair_of, few)
