-- The keys of places tell which pairs are there.
use Rattle.std.proofs.Common.{◌≡◌, ◌∙◌, ℕ, Bool, true, false, not, cond, ◌||◌, List, [], ◌∷◌, ◌++◌, refl, ap}
use Rattle.std.proofs.lemmas.Bool.{false≢true, true≢false}
use Rattle.std.specs.List.{list_any}
use Rattle.avro_certificate.specs.Closed.{same_pair, is_among_pairs}
use Rattle.avro_explain.specs.Places.{pair_of, pairs_of}
use Rattle.avro_explain.specs.Search.{with_place}
use Rattle.avro_explain.specs.inside.Walks.{key_of, keys_of}
use Rattle.avro_explain.specs.declared.found.Place.{Place}

pub known_there : (eq : (ℕ × ℕ) → (ℕ × ℕ) → Bool) → ((p q : Place) → eq (key_of p) (key_of q) ≡ same_pair (pair_of p) (pair_of q)) → (places : List Place) (p : Place)
    → list_any (eq (key_of p)) (keys_of places) ≡ is_among_pairs (pairs_of places) (pair_of p)
known_there eq same [] p = refl
known_there eq same (q ∷ qs) p =
    ap (λ (b : Bool). b || list_any (eq (key_of p)) (keys_of qs)) (same p q) ∙ ap (λ (b : Bool). same_pair (pair_of p) (pair_of q) || b) (known_there eq same qs p)

-- a place of a pair that is new, and of one that is not
pub place_added : (places new : List Place) (p : Place) → true ≡ not (is_among_pairs (pairs_of places) (pair_of p)) → new ≡ places ++ p ∷ [] → new ≡ with_place places p
place_added places new p h is = decided (is_among_pairs (pairs_of places) (pair_of p)) h
  where
    decided : (t : Bool) → true ≡ not t → new ≡ cond t places (places ++ p ∷ [])
    decided true e = absurd (true≢false e)
    decided false e = is

pub place_known : (places : List Place) (p : Place) → false ≡ not (is_among_pairs (pairs_of places) (pair_of p)) → places ≡ with_place places p
place_known places p h = decided (is_among_pairs (pairs_of places) (pair_of p)) h
  where
    decided : (t : Bool) → false ≡ not t → places ≡ cond t places (places ++ p ∷ [])
    decided true e = refl
    decided false e = absurd (false≢true e)
