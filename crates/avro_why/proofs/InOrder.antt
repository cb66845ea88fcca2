-- Reasons in the order of a text, and one more.
use Rattle.std.proofs.Common.{◌≡◌, ◌+◌, ◌<◌, ◌≤◌, ℕ, List, [], ◌∷◌, ◌++◌, false, Option, Some, None, IfSome, IsSorted, Ordering, Less, Equal, Greater, nat_cmp, is_lt, length, get_or, min, refl, ap, arith}
use Rattle.std.specs.Ordering.{ordering_then}
use Rattle.std.specs.List.Sorted.{IsNonDecreasingBy}
use Rattle.std.proofs.lemmas.List.{get_or_default}
use Rattle.std.proofs.lemmas.List.Sorted.{IsNonDecreasingBy-from_sort}
use Rattle.avro_why.specs.Position.{IsPosition}
use Rattle.avro_why.specs.Placed.{ArePlaced, ArePlacedFrom}
use Rattle.avro_why.specs.declared.reasons.Reason.{Reason}

first-not-less : (o p : Ordering) → is_lt (ordering_then o p) ≡ false → is_lt o ≡ false
first-not-less Less p e = e
first-not-less Equal p e = refl
first-not-less Greater p e = refl

-- what a sort of pairs says of their first numbers
pub rising-by-first : (pairs : List (ℕ × ℕ)) → IsSorted (λ x y. ordering_then (nat_cmp x.0 y.0) (nat_cmp x.1 y.1)) pairs → IsNonDecreasingBy (λ x. x.0) pairs
rising-by-first pairs sorted = IsNonDecreasingBy-from_sort (λ x. x.0) pairs (λ k d low high. first-not-less _ _ (sorted k d low high))

for-any : {A : Type 0} (o : Option A) (P : Type 0) → P → IfSome o (λ _. P)
for-any None P p = tt
for-any (Some a) P p = p

-- a reason at an offset of a text
abbrev pub IsPlacedAt : List ℕ → ℕ → Reason → Type 0
IsPlacedAt text offset r = IfSome r.pointer (λ _. IsPosition text offset r.line r.column)

-- the same as `ArePlacedFrom`, and none stands after the second offset
abbrev ArePlacedWithin : List ℕ → ℕ → ℕ → List Reason → Type 0
ArePlacedWithin text from to [] = from ≤ to
ArePlacedWithin text from to (r ∷ rs) = (offset : ℕ) × (from ≤ offset) × IsPlacedAt text offset r × ArePlacedWithin text offset to rs

push-within : (text : List ℕ) (from to offset : ℕ) (rs : List Reason) (r : Reason) → to ≤ offset → IsPlacedAt text offset r → ArePlacedWithin text from to rs
    → ArePlacedWithin text from offset (rs ++ r ∷ [])
push-within text from to offset [] r later at within = let later' : from ≤ offset = omega arith in let last : offset ≤ offset = omega arith in (offset, later', at, last)
push-within text from to offset (q ∷ rs) r later at within = (within.0, within.1, within.2, push-within text within.0 to offset rs r later at within.3)

placed-from : (text : List ℕ) (from to : ℕ) (rs : List Reason) → ArePlacedWithin text from to rs → ArePlacedFrom text from rs
placed-from text from to [] within = tt
placed-from text from to (r ∷ rs) within = (within.0, within.1, within.2, placed-from text within.0 to rs within.3)

-- the reasons of the faults before an index, of which each has its offset: all stand before those of the later faults
pub record AreFirst (text : List ℕ) (faults : List (ℕ × ℕ)) (index : ℕ) (reasons : List Reason) : Type 0 where
  pub to : ℕ
  pub within : ArePlacedWithin text 0 to reasons
  pub ahead : (k : ℕ) (d : ℕ × ℕ) → index ≤ k → k < length faults → to ≤ min (get_or faults k d).0 (length text)

pub first-same : (text : List ℕ) (faults : List (ℕ × ℕ)) (index : ℕ) (reasons : List Reason) → AreFirst text faults index reasons → AreFirst text faults (index + 1) reasons
first-same text faults index reasons first = record { to = first.to; within = first.within; ahead = λ k d from below. first.ahead k d (omega arith) below }

pub first-more : (text : List ℕ) (faults : List (ℕ × ℕ)) (index : ℕ) (reasons : List Reason) (d : ℕ × ℕ) (r : Reason) → IsNonDecreasingBy (λ x. x.0) faults → index < length faults
    → IsPosition text (min (get_or faults index d).0 (length text)) r.line r.column → AreFirst text faults index reasons → AreFirst text faults (index + 1) (reasons ++ r ∷ [])
first-more text faults index reasons d r rising below at first =
    let here = min (get_or faults index d).0 (length text) in
    let later : first.to ≤ here = first.ahead index d (omega arith) below in
    record {
      to = here;
      within = push-within text 0 first.to here reasons r later (for-any r.pointer (IsPosition text here r.line r.column) at) first.within;
      ahead = λ k e from inside. omega (arith, ap (λ q. q.0) (get_or_default faults index d e below), rising index k e (omega arith) inside);
    }

pub placed-in-order : (text : List ℕ) (faults : List (ℕ × ℕ)) (index : ℕ) (reasons : List Reason) → AreFirst text faults index reasons → ArePlaced text reasons
placed-in-order text faults index reasons first = placed-from text 0 first.to reasons first.within
