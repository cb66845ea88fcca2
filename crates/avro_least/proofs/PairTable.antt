-- The table of the pairs that were reached is low where each of its entries is.
use Rattle.std.proofs.Common.{◌≡◌, ℕ, ◌+◌, ◌*◌, ◌%◌, ◌<◌, Bool, true, false, cond, List, Option, Some, None, length, get_or, refl, sym, ◌∙◌, ap, subst, arith, slice_get, unwrap_or, position, nat_lt, ◌==◌, ltb-true, eqb-true}
use Rattle.std.proofs.lemmas.Nat.{div-mul-add, mod-mul-add}
use Rattle.std.proofs.lemmas.Option.{slice_get-get_or}
use Rattle.std.proofs.lemmas.List.Quantifiers.{position-Some}
use Rattle.avro_schema.specs.Node.{Node, node_at}
use Rattle.avro_least.specs.Tables.{Least, LeastTable, ErringTable, AtMost, IsLowForData, AreLow, no_parts, pair_number, reached_entry, erring_of, err_of, IsLowPair}

-- the least of all
under_none : (s d : ℕ) → AtMost (Some no_parts) s d
under_none s d = record { fewer = omega arith; shallower = λ k. omega arith }

module _ (writer reader : List Node) (limit : ℕ) (table : LeastTable) (keys : List ℕ) (entries : List (Option Least)) where
  erring : ErringTable
  erring = erring_of (length reader) table keys entries

  pub pairs_low : IsLowForData writer limit table
      → ((i k : ℕ) → slice_get keys i ≡ Some k → IsLowPair writer reader limit table (erring_of (length reader) table keys entries) k (unwrap_or (slice_get entries i) (Some no_parts)))
      → AreLow writer reader limit table (erring_of (length reader) table keys entries)
  pairs_low low each = record { for_data = low; for_errors = λ w r s d own step. by_node w r s d (table w) refl own step }
    where
      found : (w r s d : ℕ) → r < length reader
          → AtMost (err_of writer reader limit table (erring_of (length reader) table keys entries) w r (node_at writer w) (node_at reader r)) s d
          → (o : Option ℕ) → position (λ k. pair_number (length reader) w r == k) keys ≡ o → AtMost (reached_entry entries o) s d
      found w r s d within step None e = under_none s d
      found w r s d within step (Some i) e =
          let at = position-Some (λ k. pair_number (length reader) w r == k) keys i 0 e in
          let here : slice_get keys i ≡ Some (w * length reader + r) = slice_get-get_or keys i 0 at.0 ∙ ap Some (sym (eqb-true (w * length reader + r) (get_or keys i 0) at.1)) in
          each i (w * length reader + r) here s d
          (subst (λ (x : ℕ). AtMost (err_of writer reader limit table (erring_of (length reader) table keys entries) x ((w * length reader + r) % length reader)
          (node_at writer x) (node_at reader ((w * length reader + r) % length reader))) s d) (sym (div-mul-add w (length reader) r within))
          (subst (λ (y : ℕ). AtMost (err_of writer reader limit table (erring_of (length reader) table keys entries) w y
          (node_at writer w) (node_at reader y)) s d) (sym (mod-mul-add w (length reader) r within)) step))

      by_node : (w r s d : ℕ) (o : Option Least) → table w ≡ o → AtMost (table w) s d
          → AtMost (err_of writer reader limit table (erring_of (length reader) table keys entries) w r (node_at writer w) (node_at reader r)) s d
          → AtMost (erring_of (length reader) table keys entries w r) s d
      by_node w r s d None e own step = absurd (subst (λ (x : Option Least). AtMost x s d) e own)
      by_node w r s d (Some x) e own step = rw e (chosen (nat_lt r (length reader)) refl)
        where
          chosen : (t : Bool) → nat_lt r (length reader) ≡ t
              → AtMost (cond t (reached_entry entries (position (λ k. pair_number (length reader) w r == k) keys)) (Some no_parts)) s d
          chosen true m = found w r s d (ltb-true r (length reader) m) step (position (λ k. pair_number (length reader) w r == k) keys) refl
          chosen false m = under_none s d
