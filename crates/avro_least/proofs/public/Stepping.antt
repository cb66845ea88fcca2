-- The numbers of the pairs that a pair takes.
use Rattle.std.proofs.Common.{◌≡◌, ℕ, suc, ◌+◌, ◌*◌, ◌/◌, ◌%◌, ◌<◌, ◌≤◌, Bool, true, false, cond, List, [], ◌∷◌, ◌++◌, Some, inl, inr, length, get_or, refl, sym, ◌∙◌, ap, subst, arith, slice_get, nat_lt, is_none}
use Rattle.std.proofs.lemmas.Bool.{false≢true, and_from, ltb-true, lt-ltb, cases_eq}
use Rattle.std.proofs.lemmas.List.{length-append}
use Rattle.std.proofs.lemmas.Option.{slice_get_within, slice_get-get_or}
use Rattle.std.proofs.Math.Nat.{mul-le-mul_right, one-le-mul, mod-lt, div-lt_iff_lt-mul}
use Rattle.std.specs.List.{list_all}
use Rattle.avro_schema.specs.Node.{Node, node_at}
use Rattle.avro_schema.specs.WellFormed.{is_schema}
use Rattle.avro_compare.specs.Children.{Pair, children_of, has_local_fault}
use Rattle.avro_compare.specs.Planned.{AreComparisons}
use Rattle.avro_compare.specs.declared.comparison.Comparison.{Comparison}
use Rattle.avro_least.specs.Tables.{LeastTable, pair_number}
use Rattle.avro_least.specs.Asks.{AreFound, IsFound}
use Rattle.avro_least.specs.Asked.{children_at, live_numbers, steps_at}
use Rattle.avro_certificate.proofs.public.Tests.{and_left, and_right}
use Rattle.avro_least.proofs.public.Keys.{get_kept, some_same}
use Rattle.avro_compare.proofs.public.Lists.{get_last}
use Rattle.avro_certificate.proofs.public.Within.{is_within, children_within, node_within}

pub some_nodes : (nodes : List Node) → is_schema nodes ≡ true → 1 ≤ length nodes
some_nodes [] h = absurd (false≢true h)
some_nodes (n ∷ ns) h = omega arith

pub some_pairs : (writer reader : List Node) → is_schema writer ≡ true → is_schema reader ≡ true → 0 < length writer * length reader
some_pairs writer reader h k = one-le-mul (some_nodes writer h) (some_nodes reader k)

-- the number of a pair of nodes is below the number of pairs
pub number_below : (n count w r : ℕ) → w < n → r < count → w * count + r < n * count
number_below n count w r h k =
    let step : suc w * count ≤ n * count = mul-le-mul_right {m = suc w} {n = n} count h in
    omega (arith, step, k)

module _ (writer reader : List Node) (table : LeastTable) where
  numbers_below : (cs : List Pair) → list_all (is_within writer reader) cs ≡ true
      → list_all (λ k. nat_lt k (length writer * length reader)) (live_numbers (length reader) table cs) ≡ true
  numbers_below [] h = refl
  numbers_below (c ∷ cs) h = chosen (is_none (table c.w)) (numbers_below cs (and_right (is_within writer reader c) (list_all (is_within writer reader) cs) h))
    where
      own : is_within writer reader c ≡ true
      own = and_left (is_within writer reader c) (list_all (is_within writer reader) cs) h

      chosen : (t : Bool) → list_all (λ k. nat_lt k (length writer * length reader)) (live_numbers (length reader) table cs) ≡ true
          → list_all (λ k. nat_lt k (length writer * length reader)) (cond t (live_numbers (length reader) table cs) (pair_number (length reader) c.w c.r ∷ live_numbers (length reader) table cs)) ≡ true
      chosen true rest = rest
      chosen false rest = and_from (nat_lt (c.w * length reader + c.r) (length writer * length reader)) _
          (lt-ltb (c.w * length reader + c.r) (length writer * length reader)
          (number_below (length writer) (length reader) c.w c.r (ltb-true c.w (length writer) (and_left (nat_lt c.w (length writer)) (nat_lt c.r (length reader)) own))
          (ltb-true c.r (length reader) (and_right (nat_lt c.w (length writer)) (nat_lt c.r (length reader)) own)))) rest

  pub within_of_key : (k : ℕ) → is_schema reader ≡ true → k < length writer * length reader → list_all (is_within writer reader) (record { w = k / length reader; r = k % length reader } ∷ []) ≡ true
  within_of_key k there h =
      and_from (is_within writer reader (record { w = k / length reader; r = k % length reader })) true
      (and_from (nat_lt (k / length reader) (length writer)) (nat_lt (k % length reader) (length reader))
      (lt-ltb (k / length reader) (length writer) ((div-lt_iff_lt-mul {k = length reader} {x = k} {y = length writer} (some_nodes reader there)).1 h))
      (lt-ltb (k % length reader) (length reader) (mod-lt k {m = length reader} (some_nodes reader there)))) refl

  unless_faulty : (t : Bool) (cs : List Pair) → list_all (is_within writer reader) cs ≡ true → list_all (is_within writer reader) (cond t [] cs) ≡ true
  unless_faulty true cs h = refl
  unless_faulty false cs h = h

  -- the pairs that a pair takes are pairs of nodes
  pub children_at_within : is_schema writer ≡ true → is_schema reader ≡ true → (k : ℕ) → k < length writer * length reader
      → list_all (is_within writer reader) (children_at writer reader k) ≡ true
  children_at_within formed there k h =
      let own = and_left (is_within writer reader (record { w = k / length reader; r = k % length reader })) true (within_of_key k there h) in
      let n : Node = node_at writer (k / length reader) in
      let q : Node = node_at reader (k % length reader) in
      unless_faulty (has_local_fault writer reader n q) (children_of writer reader (k / length reader) (k % length reader) n q)
      (children_within writer reader (k / length reader) (k % length reader) n q
      (and_left (nat_lt (k / length reader) (length writer)) (nat_lt (k % length reader) (length reader)) own)
      (and_right (nat_lt (k / length reader) (length writer)) (nat_lt (k % length reader) (length reader)) own)
      (node_within writer (k / length reader) formed) (node_within reader (k % length reader) there))

  pub steps_below : is_schema writer ≡ true → is_schema reader ≡ true → (k : ℕ) → k < length writer * length reader
      → list_all (λ x. nat_lt x (length writer * length reader)) (steps_at writer reader table k) ≡ true
  steps_below formed there k h = numbers_below (children_at writer reader k) (children_at_within formed there k h)

-- one more comparison
pub found_more : (writer reader : List Node) (ks rest : List ℕ) (found : List Comparison) (p : Comparison) (key : ℕ) → AreFound writer reader ks found → slice_get ks (length found) ≡ Some key
    → IsFound writer reader key p → AreFound writer reader (ks ++ rest) (found ++ p ∷ [])
found_more writer reader ks rest found p key before here own i k one there got = elim (cases_eq i (length found)) [
  | inl same ↦
      let it : Some k ≡ Some key = sym there ∙ get_kept ks rest i (omega (arith, same, slice_get_within ks (length found) key here)) ∙ ap (slice_get ks) same ∙ here in
      let mine : Some one ≡ Some p = sym got ∙ ap (slice_get (found ++ p ∷ [])) same ∙ get_last found p in
      subst (λ (n : ℕ). IsFound writer reader n one) (sym (some_same k key it))
      (subst (λ (x : Comparison). IsFound writer reader key x) (sym (some_same one p mine)) own)
  | inr apart ↦
      let low : i < length found = omega (arith, apart, slice_get_within (found ++ p ∷ []) i one got, length-append found (p ∷ [])) in
      before i k one (sym (get_kept ks rest i (omega (arith, low, slice_get_within ks (length found) key here))) ∙ there) (sym (get_kept found (p ∷ []) i low) ∙ got)
]

-- each is one of nodes of the two schemas
pub found_compared : (writer reader : List Node) (ks : List ℕ) (found : List Comparison) → AreFound writer reader ks found → length found ≤ length ks → AreComparisons writer reader found
found_compared writer reader ks found all as_many i p got =
    (all i (get_or ks i 0) p (slice_get-get_or ks i 0 (omega (arith, slice_get_within found i p got, as_many))) got).comparison
