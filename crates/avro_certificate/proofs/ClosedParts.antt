-- What a pair must hold, and pairs from an index on.
use Rattle.std.proofs.Common.{◌≡◌, ℕ, zero, suc, ◌+◌, ◌<◌, get_or, Bool, true, false, ◌&&◌, ◌||◌, List, [], ◌∷◌, drop, sym, ap, subst, arith, length}
use Rattle.std.proofs.lemmas.Bool.{true≢false}
use Rattle.std.specs.List.{list_all}
use Rattle.avro_compare.specs.Children.{Pair}
use Rattle.avro_certificate.specs.SeenPair.{pair_of, pairs_of}

-- a pair of nodes of which the writer's is not dead
pub live_pair : (a b c x : Bool) → a ≡ true → b ≡ true → c ≡ false → x ≡ (a && b && (c || x))
live_pair a b c x h k m = grind (arith, true≢false)

-- pairs from an index on, of which the first passes
pub pairs_next : (test : Pair → Bool) (ps : List (ℕ × ℕ)) (i : ℕ) → i < length ps → test (pair_of (get_or ps i (0, 0))) ≡ true
    → list_all test (pairs_of (drop (i + 1) ps)) ≡ list_all test (pairs_of (drop i ps))
pairs_next test ps i low passes = subst (λ (j : ℕ). list_all test (pairs_of (drop j ps)) ≡ list_all test (pairs_of (drop i ps))) (next i) (step ps i low passes)
  where
    next : (i : ℕ) → suc i ≡ i + 1
    next i = omega arith

    step : (ps : List (ℕ × ℕ)) (i : ℕ) → i < length ps → test (pair_of (get_or ps i (0, 0))) ≡ true → list_all test (pairs_of (drop (suc i) ps)) ≡ list_all test (pairs_of (drop i ps))
    step [] i low passes = absurd (omega (arith, low))
    step (p ∷ ps) zero low passes = sym (ap (λ (b : Bool). b && list_all test (pairs_of ps)) passes)
    step (p ∷ ps) (suc i) low passes = step ps i (omega (arith, low)) passes
