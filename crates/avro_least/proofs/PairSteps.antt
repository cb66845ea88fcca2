-- A step over a table of pairs.
use Rattle.std.proofs.Common.{◌≡◌, ℕ, ◌+◌, ◌*◌, ◌/◌, ◌%◌, ◌<◌, Bool, true, false, cond, ◌&&◌, ◌||◌, List, [], ◌∷◌, Option, Some, None, inl, inr, ◌⊎◌, length, get_or, refl, sym, ◌∙◌, ap, subst, arith, slice_get, unwrap_or, option_map, position, nat_lt, ◌==◌, is_some, is_none, set, replicate}
use Rattle.std.proofs.lemmas.Bool.{false≢true, and_from, ltb-true, eqb-true, cases_eq}
use Rattle.std.proofs.lemmas.Nat.{div-mul-add, mod-mul-add}
use Rattle.std.proofs.lemmas.Option.{slice_get-get_or, slice_get-map}
use Rattle.std.proofs.lemmas.Iterator.Adapters.{position_from-zero}
use Rattle.std.proofs.lemmas.List.Quantifiers.{position-Some}
use Rattle.std.specs.List.{list_all, list_any, position_from}
use Rattle.avro_schema.specs.Node.{Node, node_at}
use Rattle.avro_compare.specs.Children.{Pair}
use Rattle.avro_least.specs.Tables.{Least, LeastTable, ShowsError, no_parts, pair_number, reached_entry, erring_of}
use Rattle.avro_least.specs.SeenLeast.{seen, seen_all, given_entry}
use Rattle.avro_least.specs.declared.kept.Least.{Least as KeptLeast}
use Rattle.avro_least.specs.Reached.{is_key}
use Rattle.avro_least.specs.Asked.{live_numbers, is_known, ArePairsShown}
use Rattle.avro_certificate.proofs.public.Tests.{all_at, and_left, and_right, or_from_left, or_from_right}
use Rattle.avro_least.proofs.Rounds.{set_here, set_other, slice_get-replicate}
use Rattle.avro_least.proofs.public.Keys.{some_same}
use Rattle.avro_certificate.proofs.public.Within.{is_within}

-- what has no position is not there
pub no_position : (test : ℕ → Bool) (n : ℕ) (ks : List ℕ) → position_from test n ks ≡ None → list_any test ks ≡ false
no_position test n [] e = refl
no_position test n (k ∷ ks) e = chosen (test k) e (no_position test (n + 1) ks)
  where
    chosen : (t : Bool) → cond t (Some n) (position_from test (n + 1) ks) ≡ None → (position_from test (n + 1) ks ≡ None → list_any test ks ≡ false) → (t || list_any test ks) ≡ false
    chosen true e rest = absurd (grind arith)
    chosen false e rest = rest e

-- the children that are followed are known
module _ (writer reader : List Node) (table : LeastTable) (keys : List ℕ) where
  pub followed_known : (cs : List Pair) → list_all (is_within writer reader) cs ≡ true → list_all (is_key keys) (live_numbers (length reader) table cs) ≡ true
      → list_all (is_known (length reader) table keys) cs ≡ true
  followed_known [] h k = refl
  followed_known (c ∷ cs) h k = chosen (is_none (table c.w)) refl k (followed_known cs (and_right (is_within writer reader c) (list_all (is_within writer reader) cs) h))
    where
      chosen : (t : Bool) → is_none (table c.w) ≡ t
          → list_all (is_key keys) (cond t (live_numbers (length reader) table cs) (pair_number (length reader) c.w c.r ∷ live_numbers (length reader) table cs)) ≡ true
          → (list_all (is_key keys) (live_numbers (length reader) table cs) ≡ true → list_all (is_known (length reader) table keys) cs ≡ true)
          → list_all (is_known (length reader) table keys) (c ∷ cs) ≡ true
      chosen true e m later = and_from (is_known (length reader) table keys c) (list_all (is_known (length reader) table keys) cs)
          (or_from_left (is_none (table c.w)) (nat_lt c.r (length reader) && is_key keys (pair_number (length reader) c.w c.r)) e) (later m)
      chosen false e m later = and_from (is_known (length reader) table keys c) (list_all (is_known (length reader) table keys) cs)
          (or_from_right (is_none (table c.w)) (nat_lt c.r (length reader) && is_key keys (pair_number (length reader) c.w c.r))
          (and_from (nat_lt c.r (length reader)) (is_key keys (pair_number (length reader) c.w c.r))
          (and_right (nat_lt c.w (length writer)) (nat_lt c.r (length reader)) (and_left (is_within writer reader c) (list_all (is_within writer reader) cs) h))
          (and_left (is_key keys (pair_number (length reader) c.w c.r)) (list_all (is_key keys) (live_numbers (length reader) table cs)) m)))
          (later (and_right (is_key keys (pair_number (length reader) c.w c.r)) (list_all (is_key keys) (live_numbers (length reader) table cs)) m))

-- the key at an index is below the bound of all keys
pub below_at : (n : ℕ) (ks : List ℕ) (i k : ℕ) → list_all (λ x. nat_lt x n) ks ≡ true → slice_get ks i ≡ Some k → k < n
below_at n ks i k all here = ltb-true k n (all_at (λ x. nat_lt x n) ks i k all here)

-- an entry by its index
pub given_is : (es : List (Option KeptLeast)) (i : ℕ) → unwrap_or (slice_get (seen_all es) i) (Some no_parts) ≡ given_entry (slice_get es i)
given_is es i = ap (λ (o : Option (Option Least)). unwrap_or o (Some no_parts)) (slice_get-map seen es i) ∙ by_entry (slice_get es i)
  where
    by_entry : (o : Option (Option KeptLeast)) → unwrap_or (option_map seen o) (Some no_parts) ≡ given_entry o
    by_entry None = refl
    by_entry (Some e) = refl

-- the entry of a pair, by the three things that it depends on
module _ (count : ℕ) (table : LeastTable) (keys : List ℕ) (entries : List (Option Least)) (w r : ℕ) where
  pub erring_none : table w ≡ None → erring_of count table keys entries w r ≡ None
  erring_none e = rw e refl

  erring_past : (x : Least) → table w ≡ Some x → nat_lt r count ≡ false → erring_of count table keys entries w r ≡ Some no_parts
  erring_past x e m = rw e (rw m refl)

  erring_at : (x : Least) (o : Option ℕ) → table w ≡ Some x → nat_lt r count ≡ true → position (λ k. pair_number count w r == k) keys ≡ o
      → erring_of count table keys entries w r ≡ reached_entry entries o
  erring_at x o e m p = rw e (rw m (ap (reached_entry entries) p))

-- an entry that is set
module _ (count : ℕ) (table : LeastTable) (keys : List ℕ) (es : List (Option KeptLeast)) (i k : ℕ) (found : Option KeptLeast)
    (within : i < length es) (here : slice_get keys i ≡ Some k) where
  abbrev pub IsSetAt : ℕ → ℕ → Type 0
  IsSetAt w r = (w * count + r ≡ k) × (r < count) × (erring_of count table keys (seen_all (set es i found)) w r ≡ seen found)

  pub erring_set : (w r : ℕ) → (erring_of count table keys (seen_all (set es i found)) w r ≡ erring_of count table keys (seen_all es) w r) ⊎ IsSetAt w r
  erring_set w r = by_node (table w) refl
    where
      by_index : (x : Least) → table w ≡ Some x → nat_lt r count ≡ true → (o : Option ℕ) → position (λ q. pair_number count w r == q) keys ≡ o
          → (erring_of count table keys (seen_all (set es i found)) w r ≡ erring_of count table keys (seen_all es) w r) ⊎ IsSetAt w r
      by_index x e m None p = inl (erring_at count table keys (seen_all (set es i found)) w r x None e m p ∙ sym (erring_at count table keys (seen_all es) w r x None e m p))
      by_index x e m (Some j) p = elim (cases_eq j i) [
        | inl same ↦
            let at = position-Some (λ q. pair_number count w r == q) keys j 0 p in
            let there : slice_get keys j ≡ Some (w * count + r) = slice_get-get_or keys j 0 at.0 ∙ ap Some (sym (eqb-true (w * count + r) (get_or keys j 0) at.1)) in
            inr (
              some_same (w * count + r) k (sym there ∙ ap (slice_get keys) same ∙ here),
              ltb-true r count m,
              erring_at count table keys (seen_all (set es i found)) w r x (Some j) e m p ∙ given_is (set es i found) j
                  ∙ ap (λ (n : ℕ). given_entry (slice_get (set es i found) n)) same ∙ ap given_entry (set_here es i found within),
            )
        | inr apart ↦ inl (erring_at count table keys (seen_all (set es i found)) w r x (Some j) e m p ∙ given_is (set es i found) j
            ∙ ap given_entry (set_other es i j found apart) ∙ sym (given_is es j) ∙ sym (erring_at count table keys (seen_all es) w r x (Some j) e m p))
      ]

      by_test : (x : Least) → table w ≡ Some x → (t : Bool) → nat_lt r count ≡ t
          → (erring_of count table keys (seen_all (set es i found)) w r ≡ erring_of count table keys (seen_all es) w r) ⊎ IsSetAt w r
      by_test x e true m = by_index x e m (position (λ q. pair_number count w r == q) keys) refl
      by_test x e false m = inl (erring_past count table keys (seen_all (set es i found)) w r x e m ∙ sym (erring_past count table keys (seen_all es) w r x e m))

      by_node : (o : Option Least) → table w ≡ o
          → (erring_of count table keys (seen_all (set es i found)) w r ≡ erring_of count table keys (seen_all es) w r) ⊎ IsSetAt w r
      by_node None e = inl (erring_none count table keys (seen_all (set es i found)) w r e ∙ sym (erring_none count table keys (seen_all es) w r e))
      by_node (Some x) e = by_test x e (nat_lt r count) refl

pub pair_set_shown : (writer reader : List Node) (limit : ℕ) (table : LeastTable) (keys : List ℕ) (es : List (Option KeptLeast)) (i k : ℕ) (found : Option KeptLeast)
    → i < length es → slice_get keys i ≡ Some k → ArePairsShown writer reader limit table keys (seen_all es)
    → (is_some (seen found) ≡ true → ShowsError writer reader limit (node_at writer (k / length reader)) (node_at reader (k % length reader)) (seen found))
    → ArePairsShown writer reader limit table keys (seen_all (set es i found))
pair_set_shown writer reader limit table keys es i k found within here shown own w r known some = elim (erring_set (length reader) table keys es i k found within here w r) [
  | inl same ↦ subst (λ (o : Option Least). ShowsError writer reader limit (node_at writer w) (node_at reader r) o) (sym same)
      (shown w r known (subst (λ (o : Option Least). is_some o ≡ true) same some))
  | inr new ↦
      let theirs : k / length reader ≡ w = ap (λ (n : ℕ). n / length reader) (sym new.0) ∙ div-mul-add w (length reader) r new.1 in
      let ours : k % length reader ≡ r = ap (λ (n : ℕ). n % length reader) (sym new.0) ∙ mod-mul-add w (length reader) r new.1 in
      subst (λ (o : Option Least). ShowsError writer reader limit (node_at writer w) (node_at reader r) o) (sym new.2)
      (subst (λ (x : ℕ). ShowsError writer reader limit (node_at writer x) (node_at reader r) (seen found)) theirs
      (subst (λ (y : ℕ). ShowsError writer reader limit (node_at writer (k / length reader)) (node_at reader y) (seen found)) ours
      (own (subst (λ (o : Option Least). is_some o ≡ true) new.2 some))))
]

-- where no entry is known, no pair that was reached has one
module _ (count n : ℕ) (table : LeastTable) (keys : List ℕ) (same : n ≡ length keys) (w r : ℕ) (known : is_known count table keys (record { w = w; r = r }) ≡ true) where
  at : (x : Least) → table w ≡ Some x → nat_lt r count ≡ true → is_key keys (pair_number count w r) ≡ true
      → (o : Option ℕ) → position (λ q. pair_number count w r == q) keys ≡ o
      → erring_of count table keys (seen_all (replicate {A = Option KeptLeast} n None)) w r ≡ None
  at x e m there None p = absurd (false≢true (sym (no_position (λ q. pair_number count w r == q) 0 keys
      (sym (position_from-zero (λ q. pair_number count w r == q) keys) ∙ p)) ∙ there))
  at x e m there (Some j) p =
      erring_at count table keys (seen_all (replicate {A = Option KeptLeast} n None)) w r x (Some j) e m p
      ∙ given_is (replicate {A = Option KeptLeast} n None) j
      ∙ ap given_entry (slice_get-replicate n j (omega (arith, same, (position-Some (λ q. pair_number count w r == q) keys j 0 p).0)))

  by_node : (o : Option Least) → table w ≡ o → erring_of count table keys (seen_all (replicate {A = Option KeptLeast} n None)) w r ≡ None
  by_node None e = erring_none count table keys (seen_all (replicate {A = Option KeptLeast} n None)) w r e
  by_node (Some x) e =
      let live : (nat_lt r count && is_key keys (pair_number count w r)) ≡ true =
      subst (λ (o : Option Least). (is_none o || (nat_lt r count && is_key keys (pair_number count w r))) ≡ true) e known in
      at x e (and_left (nat_lt r count) (is_key keys (pair_number count w r)) live)
      (and_right (nat_lt r count) (is_key keys (pair_number count w r)) live)
      (position (λ q. pair_number count w r == q) keys) refl

  pub unknown_none : erring_of count table keys (seen_all (replicate {A = Option KeptLeast} n None)) w r ≡ None
  unknown_none = by_node (table w) refl

-- so each of them is shown
pub start_pairs : (writer reader : List Node) (limit n : ℕ) (table : LeastTable) (keys : List ℕ) → n ≡ length keys
    → ArePairsShown writer reader limit table keys (seen_all (replicate {A = Option KeptLeast} n None))
start_pairs writer reader limit n table keys same w r known some =
    absurd (false≢true (subst (λ (o : Option Least). is_some o ≡ true) (unknown_none (length reader) n table keys same w r known) some))
