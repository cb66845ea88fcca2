-- What a pair comes to by a part that doesn't improve its entry, and the place of a pair's number.
use Rattle.std.proofs.Common.{◌≡◌, ◌<◌, ℕ, ◌/◌, ◌%◌, false, List, Option, Some, None, inl, inr, length, get_or, refl, sym, ◌∙◌, ap, subst, arith, slice_get, unwrap_or, position, ◌==◌, nat_eq, eqb-true}
use Rattle.std.proofs.lemmas.Bool.{false≢true, true≢false, eq-eqb, cases_eq, cases_lt}
use Rattle.std.proofs.lemmas.Iterator.Adapters.{position_from-zero}
use Rattle.std.proofs.lemmas.List.Quantifiers.{position-Some}
use Rattle.std.proofs.lemmas.Map.Keys.{apart_from_distinct}
use Rattle.std.proofs.lemmas.Option.{get_or_from_slice_get, slice_get_within}
use Rattle.std.specs.List.{IsDistinct}
use Rattle.avro_schema.specs.Node.{Node, node_at}
use Rattle.avro_compare.specs.Children.{Pair}
use Rattle.avro_least.specs.Tables.{Least, LeastTable, AtMost, no_parts, erring_of}
use Rattle.avro_least.specs.SeenLeast.{seen, seen_all, given_entry, improves}
use Rattle.avro_least.specs.declared.kept.Least.{Least as KeptLeast}
use Rattle.avro_least.specs.declared.pairs.asking.Ask.{Ask}
use Rattle.avro_least.specs.Asked.{asked_at, IsLowAtIndex}
use Rattle.avro_least.specs.Asks.{IsKept, kept_count, kept_part, nth_part}
use Rattle.avro_least.specs.inside.Parts.{value_alone, value_by_part}
use Rattle.avro_least.specs.inside.Leading.{IsTaken, IsTakenAlone}
use Rattle.avro_least.proofs.AskedValue.{value_is}
use Rattle.avro_least.proofs.AtMostParts.{at_most_parts}
use Rattle.avro_least.proofs.KeptParts.{kept_is, nth_found}
use Rattle.avro_least.proofs.PairSteps.{given_is, no_position}
use Rattle.avro_least.proofs.Rounds.{improves_low}
use Rattle.avro_least.proofs.Starting.{around_none, by_part_is}
use Rattle.avro_least.proofs.public.Keys.{some_same, key_at}

-- what doesn't improve an entry is no less
stays_low : (es : List (Option KeptLeast)) (i : ℕ) (found : Option KeptLeast) (s d : ℕ) → improves (seen found) (given_entry (slice_get es i)) ≡ false → AtMost (seen found) s d
    → AtMost (unwrap_or (slice_get (seen_all es) i) (Some no_parts)) s d
stays_low es i found s d worse m = subst (λ (e : Option Least). AtMost e s d) (sym (given_is es i)) (improves_low (seen found) (given_entry (slice_get es i)) s d worse m)

module _ (writer reader : List Node) (limit : ℕ) (table : LeastTable) (keys : List ℕ) where
  -- what the pair of a number comes to by one of its parts
  abbrev pub value_in : List (Option Least) → ℕ → ℕ → Option Least
  value_in entries own k =
      value_by_part limit table (erring_of (length reader) table keys entries) (own / length reader) (own % length reader) (asked_at writer reader own) k

  module _ (es : List (Option KeptLeast)) (i key : ℕ) (found : Option KeptLeast) (here : slice_get keys i ≡ Some key)
      (worse : improves (seen found) (given_entry (slice_get es i)) ≡ false) where
    pub worse_taken : (k : ℕ) → seen found ≡ value_in (seen_all es) key k → IsTaken writer reader limit table keys (seen_all es) i k
    worse_taken k is own s d there m = stays_low es i found s d worse (subst (λ (e : Option Least). AtMost e s d) (sym is)
        (subst (λ (n : ℕ). AtMost (value_in (seen_all es) n k) s d) (some_same own key (sym there ∙ here)) m))

    pub worse_alone : seen found ≡ value_alone table (key / length reader) (asked_at writer reader key) → IsTakenAlone writer reader table keys (seen_all es) i
    worse_alone is own s d there m = stays_low es i found s d worse (subst (λ (e : Option Least). AtMost e s d) (sym is)
        (subst (λ (n : ℕ). AtMost (value_alone table (n / length reader) (asked_at writer reader n)) s d) (some_same own key (sym there ∙ here)) m))

  -- a pair that has taken each of its parts that there are has taken each
  pub all_taken : (entries : List (Option Least)) (i key w r : ℕ) (ask : Ask) → slice_get keys i ≡ Some key → IsKept ask (asked_at writer reader key)
      → w ≡ key / length reader → r ≡ key % length reader
      → ((n k : ℕ) (c : Pair) → n < kept_count ask → nth_part w r ask n ≡ Some (k, c) → IsTaken writer reader limit table keys entries i k)
      → (k : ℕ) → IsTaken writer reader limit table keys entries i k
  all_taken entries i key w r ask here own_ask first second each k = by (kept_part w r ask k) refl
    where
      by : (o : Option Pair) → kept_part w r ask k ≡ o → IsTaken writer reader limit table keys entries i k
      by (Some c) is = let found = nth_found w r ask k c is in each found.0 k c found.1 found.2
      by None is = λ own s d there m. absurd (subst (λ (e : Option Least). AtMost e s d)
          (sym (by_part_is limit table (erring_of (length reader) table keys entries) w r (key / length reader) (key % length reader) k (asked_at writer reader key) (asked_at writer reader key)
          None None None first second refl (sym is ∙ kept_is w r ask (asked_at writer reader key) k own_ask) refl (sym (around_none limit table (asked_at writer reader key) k))))
          (subst (λ (n : ℕ). AtMost (value_in entries n k) s d) (some_same own key (sym there ∙ here)) m))

  -- and where it is no more than by none either, no step lowers it
  pub index_low : (entries : List (Option Least)) (i : ℕ) → IsTakenAlone writer reader table keys entries i → ((k : ℕ) → IsTaken writer reader limit table keys entries i k)
      → IsLowAtIndex writer reader limit table keys entries i
  index_low entries i alone all k here s d m =
      elim (at_most_parts limit table (erring_of (length reader) table keys entries) (k / length reader) (k % length reader) (asked_at writer reader k) s d
      (subst (λ (e : Option Least). AtMost e s d)
      (sym (value_is limit table (erring_of (length reader) table keys entries) writer reader (k / length reader) (k % length reader) (node_at writer (k / length reader)) (node_at reader (k % length reader)))) m)) [
        | inl without ↦ alone k s d here without
        | inr part ↦ all part.0 k s d here part.1
      ]

-- the first place of a key of some that differ
pub position_is : (ks : List ℕ) (j k : ℕ) → IsDistinct nat_eq ks → slice_get ks j ≡ Some k → position (λ q. k == q) ks ≡ Some j
position_is ks j k distinct there = by_place (position (λ q. k == q) ks) refl
  where
    mine : get_or ks j 0 ≡ k
    mine = get_or_from_slice_get ks j k 0 there

    differ : (a b : ℕ) → a < b → b < length ks → get_or ks a 0 ≡ get_or ks b 0 → ⊥
    differ a b less within same = true≢false (sym (eq-eqb (get_or ks a 0) (get_or ks b 0) same) ∙ apart_from_distinct nat_eq ks a b 0 distinct less within)

    by_place : (o : Option ℕ) → position (λ q. k == q) ks ≡ o → o ≡ Some j
    by_place None e = absurd (false≢true (sym (no_position (λ q. k == q) 0 ks (sym (position_from-zero (λ q. k == q) ks) ∙ e)) ∙ key_at ks j k there))
    by_place (Some p) e =
        let at = position-Some (λ q. k == q) ks p 0 e in
        let same : get_or ks p 0 ≡ get_or ks j 0 = sym (eqb-true k (get_or ks p 0) at.1) ∙ sym mine in
        elim (cases_lt p j) [
          | inl before ↦ absurd (differ p j before (slice_get_within ks j k there) same)
          | inr later ↦ elim (cases_eq p j) [
            | inl it ↦ ap Some it
            | inr apart ↦ absurd (differ j p (omega (arith, later, apart)) at.0 (sym same))
          ]
        ]
