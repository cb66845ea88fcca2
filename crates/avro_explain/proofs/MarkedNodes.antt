-- Marks of nodes that may be dead: which are among them.
use Rattle.std.proofs.Common.{◌≡◌, ℕ, zero, suc, ◌+◌, ◌<◌, ◌≤◌, Bool, true, false, List, [], ◌∷◌, Option, Some, None, length, get_or, map, refl, sym, ◌∙◌, ap, arith, ◌==◌, is_none}
use Rattle.std.proofs.lemmas.Bool.{eq-eqb, ne_eqb}
use Rattle.avro_certificate.specs.Closed.{is_among}
use Rattle.avro_certificate.proofs.public.Tests.{or_from_left}
use Rattle.avro_least.specs.SeenLeast.{table_of}
use Rattle.avro_least.specs.declared.kept.Least.{Least as KeptLeast}
use Rattle.avro_explain.specs.Places.{marked, marked_from}
use Rattle.avro_explain.specs.inside.Marks.{is_mark}

-- no node before the first id is among them
none_before : (id p : ℕ) (ms : List Bool) → p < id → is_among (marked_from id ms) p ≡ false
none_before id p [] h = refl
none_before id p (true ∷ ms) h = rw (ne_eqb id p (λ e. omega (arith, h, e))) (none_before (suc id) p ms (omega (arith, h)))
none_before id p (false ∷ ms) h = none_before (suc id) p ms (omega (arith, h))

none_there : (k : ℕ) → is_mark [] k ≡ false
none_there k = grind arith

among_from : (id : ℕ) (ms : List Bool) (k p : ℕ) → p ≡ id + k → is_among (marked_from id ms) p ≡ is_mark ms k
among_from id [] k p e = sym (none_there k)
among_from id (true ∷ ms) zero p e = or_from_left (id == p) _ (eq-eqb id p (omega (arith, e)))
among_from id (false ∷ ms) zero p e = none_before (suc id) p ms (omega (arith, e))
among_from id (true ∷ ms) (suc k) p e = rw (ne_eqb id p (λ s. omega (arith, e, s))) (among_from (suc id) ms k p (omega (arith, e)))
among_from id (false ∷ ms) (suc k) p e = among_from (suc id) ms k p (omega (arith, e))

-- a node is among those that are marked where it has a mark
pub among_marked : (ms : List Bool) (p : ℕ) → is_among (marked ms) p ≡ is_mark ms p
among_marked ms p = among_from 0 ms p p (omega arith)

-- what stands at an index is the mark there, and past the end there is none
pub mark_at : (ms : List Bool) (k : ℕ) (d : Bool) → k < length ms → get_or ms k d ≡ is_mark ms k
mark_at [] k d h = absurd (omega (arith, h))
mark_at (m ∷ ms) zero d h = refl
mark_at (m ∷ ms) (suc k) d h = mark_at ms k d (omega (arith, h))

pub none_past : (ms : List Bool) (k : ℕ) → length ms ≤ k → is_mark ms k ≡ false
none_past [] k h = none_there k
none_past (m ∷ ms) zero h = absurd (omega (arith, h))
none_past (m ∷ ms) (suc k) h = none_past ms k (omega (arith, h))

-- where a mark stands for each entry that is none, these are the nodes without an entry
pub none_marked : (es : List (Option KeptLeast)) (ms : List Bool) → ms ≡ map is_none es → (p : ℕ) → is_among (marked ms) p ≡ is_none (table_of es p)
none_marked es ms is p = among_marked ms p ∙ ap (λ (xs : List Bool). is_mark xs p) is ∙ at es p
  where
    at : (xs : List (Option KeptLeast)) (k : ℕ) → is_mark (map is_none xs) k ≡ is_none (table_of xs k)
    at [] k = none_there k
    at (None ∷ xs) zero = refl
    at (Some x ∷ xs) zero = refl
    at (x ∷ xs) (suc k) = at xs k
