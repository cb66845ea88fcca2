-- Within the limit each entry of a pair that was reached is what the pair asks for.
use Rattle.std.proofs.Common.{◌≡◌, ℕ, ◌+◌, ◌*◌, ◌/◌, ◌%◌, ◌≤◌, ◌<◌, true, ◌&&◌, ◌||◌, List, Option, Some, None, length, refl, sym, ◌∙◌, ap, subst, arith, slice_get, is_some, is_none, nat_lt, ◌==◌}
use Rattle.std.proofs.lemmas.Nat.{div-mul-add, mod-mul-add}
use Rattle.std.proofs.lemmas.Bool.{ltb-true, lt-ltb, eqb-true, false≢true}
use Rattle.std.specs.List.{list_all}
use Rattle.avro_schema.specs.Value.{size, depth}
use Rattle.avro_schema.specs.Node.{Node, node_at}
use Rattle.avro_schema.specs.WellFormed.{is_schema}
use Rattle.avro_least.specs.Asked.{asked, asked_value, is_known, steps_at, open_children}
use Rattle.avro_least.specs.BuiltErrors.{AreExact}
use Rattle.avro_least.specs.FoundTables.{AreTables}
use Rattle.avro_least.specs.Tables.{Least, LeastTable, IsUnder, AtMost, IsWithin, count_of, ShowsError, err_of, erring_of, pair_number}
use Rattle.avro_least.specs.Reached.{is_key}
use Rattle.avro_certificate.proofs.public.Tests.{and_left, and_right, or_not, all_at}
use Rattle.avro_least.proofs.AskedValue.{value_is}
use Rattle.avro_least.proofs.public.Stepping.{children_at_within}
use Rattle.avro_least.proofs.PairSteps.{followed_known}
use Rattle.avro_least.proofs.Fixed.{same_least, exact_errors}
use Rattle.avro_least.proofs.LeastData.{at_most_data}
use Rattle.avro_schema.proofs.public.Parts.{size-positive}
use Rattle.avro_least.proofs.AskedParts.{parts_pass}
use Rattle.avro_least.proofs.public.ShownParts.{asked_shown}
use Rattle.avro_certificate.proofs.public.FaultyResults.{any_at}

module _ (writer reader : List Node) (limit : ℕ) (table : LeastTable) (keys : List ℕ) (entries : List (Option Least))
    (formed : is_schema writer ≡ true) (theirs : is_schema reader ≡ true) (tables : AreTables writer reader limit table keys entries) where
  -- what a pair asks for comes to
  abbrev step : ℕ → ℕ → Option Least
  step w r = asked_value limit (table) (erring_of (length reader) table keys entries) w r (asked writer reader (node_at writer w) (node_at reader r))

  -- an entry within the limit is that of a pair that was reached
  record IsReached (w r : ℕ) : Type 0 where
    within : r < length reader
    below : w * length reader + r < length writer * length reader
    followed : list_all (is_key keys) (steps_at writer reader table (w * length reader + r)) ≡ true

  by_key : (w r k : ℕ) → w * length reader + r ≡ k → r < length reader → is_key keys k ≡ true → IsReached w r
  by_key w r k is within there =
      let found = any_at (λ x. k == x) keys there in
      let same : k ≡ found.1.0 = eqb-true k found.1.0 found.1.2 in
      let here : slice_get keys found.0 ≡ Some (w * length reader + r) = found.1.1 ∙ ap Some (sym same ∙ sym is) in
      record {
        within = within;
        below = ltb-true (w * length reader + r) (length writer * length reader) (all_at (λ x. nat_lt x (length writer * length reader)) keys found.0 (w * length reader + r) tables.below here);
        followed = tables.closed found.0 (w * length reader + r) here (lt-ltb found.0 (length keys) found.1.3);
      }

  reached : (w r : ℕ) → is_known (length reader) table keys (record { w = w; r = r }) ≡ true → IsWithin limit (erring_of (length reader) table keys entries w r) → IsReached w r
  reached w r kn within = by_node (table w) refl within kn
    where
      by_node : (o : Option Least) → table w ≡ o → IsWithin limit (erring_of (length reader) table keys entries w r)
          → (is_none (table w) || (nat_lt r (length reader) && is_key keys (pair_number (length reader) w r))) ≡ true → IsReached w r
      by_node None e h k = absurd (rw e at h)
      by_node (Some x) e h k =
          let both = or_not (is_none (table w)) (nat_lt r (length reader) && is_key keys (pair_number (length reader) w r)) k (λ m. false≢true (sym (ap is_none e) ∙ m)) in
          by_key w r (pair_number (length reader) w r) refl
          (ltb-true r (length reader) (and_left (nat_lt r (length reader)) (is_key keys (pair_number (length reader) w r)) both))
          (and_right (nat_lt r (length reader)) (is_key keys (pair_number (length reader) w r)) both)

  -- at the two nodes of a number
  at_nodes : (P : ℕ → ℕ → Type 0) (w r : ℕ) → r < length reader → P ((w * length reader + r) / length reader) ((w * length reader + r) % length reader) → P w r
  at_nodes P w r within h =
      subst (λ (x : ℕ). P x r) (div-mul-add w (length reader) r within)
      (subst (λ (y : ℕ). P ((w * length reader + r) / length reader) y) (mod-mul-add w (length reader) r within) h)

  children_known : (w r : ℕ) → IsReached w r → list_all (is_known (length reader) table keys) (open_children writer reader w r (node_at writer w) (node_at reader r)) ≡ true
  children_known w r at = at_nodes (λ x y. list_all (is_known (length reader) table keys) (open_children writer reader x y (node_at writer x) (node_at reader y)) ≡ true) w r at.within
      (followed_known writer reader table keys _ (children_at_within writer reader table formed theirs (w * length reader + r) at.below) at.followed)

  step_shown : (w r : ℕ) → IsReached w r → is_some (step w r) ≡ true → ShowsError writer reader limit (node_at writer w) (node_at reader r) (step w r)
  step_shown w r at = asked_shown writer reader limit table (erring_of (length reader) table keys entries) (is_known (length reader) table keys) theirs tables.has_data tables.shown w r
      (asked writer reader (node_at writer w) (node_at reader r)) refl (parts_pass writer reader (is_known (length reader) table keys) w r (node_at writer w) (node_at reader r) (children_known w r at))

  -- what a key's pair leads to is known
  pub known_children : (w r : ℕ) → r < length reader → is_key keys (w * length reader + r) ≡ true
      → list_all (is_known (length reader) table keys) (open_children writer reader w r (node_at writer w) (node_at reader r)) ≡ true
  known_children w r within there = children_known w r (by_key w r (w * length reader + r) refl within there)

  -- an entry within the limit
  record IsEntry (w r : ℕ) : Type 0 where
    e : Least
    is : erring_of (length reader) table keys entries w r ≡ Some e
    few : e.nodes ≤ limit
    shown : ShowsError writer reader limit (node_at writer w) (node_at reader r) (Some e)

  entry : (w r : ℕ) → is_known (length reader) table keys (record { w = w; r = r }) ≡ true → IsWithin limit (erring_of (length reader) table keys entries w r) → IsEntry w r
  entry w r kn within = by (erring_of (length reader) table keys entries w r) refl within
    where
      by : (o : Option Least) → erring_of (length reader) table keys entries w r ≡ o → IsWithin limit o → IsEntry w r
      by None is h = absurd h
      by (Some e) is h = record {
        e = e;
        is = is;
        few = h;
        shown = subst (λ (o : Option Least). ShowsError writer reader limit (node_at writer w) (node_at reader r) o) is
            (tables.shown w r kn (subst (λ (o : Option Least). is_some o ≡ true) (sym is) refl));
      }

  -- the step is the entry
  same_step : (w r : ℕ) → IsReached w r → (own : IsEntry w r) → step w r ≡ Some own.e
  same_step w r at own = by (step w r) refl (step_shown w r at)
      (subst (λ (o : Option Least). AtMost o own.e.nodes own.e.depth) (sym value)
      (exact_errors writer reader limit table (erring_of (length reader) table keys entries) tables.low theirs w r own.e own.is own.few own.shown))
    where
      value : step w r ≡ err_of writer reader limit table (erring_of (length reader) table keys entries) w r (node_at writer w) (node_at reader r)
      value = value_is limit table (erring_of (length reader) table keys entries) writer reader w r (node_at writer w) (node_at reader r)

      by : (o : Option Least) → step w r ≡ o → (is_some (step w r) ≡ true → ShowsError writer reader limit (node_at writer w) (node_at reader r) (step w r))
          → AtMost (step w r) own.e.nodes own.e.depth → step w r ≡ Some own.e
      by None is shows h = absurd (subst (λ (o : Option Least). AtMost o own.e.nodes own.e.depth) is h)
      by (Some x) is shows h =
          let under : IsUnder x own.e.nodes own.e.depth = subst (λ (o : Option Least). AtMost o own.e.nodes own.e.depth) is h in
          let datum = subst (λ (o : Option Least). ShowsError writer reader limit (node_at writer w) (node_at reader r) o) is
          (shows (subst (λ (o : Option Least). is_some o ≡ true) (sym is) refl)) in
          let numbers = datum.exact (omega (arith, under.fewer, own.few)) in
          let bound = at_most_data writer limit table tables.low.for_data datum.datum w datum.fitting in
          let stepped : AtMost (err_of writer reader limit table (erring_of (length reader) table keys entries) w r (node_at writer w) (node_at reader r)) (size datum.datum) (depth datum.datum) =
          subst (λ (o : Option Least). AtMost o (size datum.datum) (depth datum.datum)) (sym is ∙ value)
          (record { fewer = omega (arith, numbers.0); shallower = λ k. omega (arith, numbers.1) }) in
          let back : IsUnder own.e (size datum.datum) (depth datum.datum) = subst (λ (o : Option Least). AtMost o (size datum.datum) (depth datum.datum)) own.is
          (tables.low.for_errors w r (size datum.datum) (depth datum.datum) bound stepped) in
          is ∙ ap Some (same_least x own.e under
          (record { fewer = omega (arith, back.fewer, numbers.0); shallower = λ k. omega (arith, back.shallower (omega (arith, k, numbers.0)), numbers.1) }))

  some_nodes : (w r : ℕ) → (own : IsEntry w r) → 1 ≤ count_of (erring_of (length reader) table keys entries w r)
  some_nodes w r own = subst (λ (o : Option Least). 1 ≤ count_of o) (sym own.is)
      (omega (arith, size-positive own.shown.datum, (own.shown.exact own.few).0))

  pub tables_exact : AreExact writer reader limit table (erring_of (length reader) table keys entries) (is_known (length reader) table keys)
  tables_exact = record {
    formed = formed;
    theirs = theirs;
    low = tables.low.for_data;
    shown = tables.has_data;
    exact = λ w r kn within. let own = entry w r kn within in same_step w r (reached w r kn within) own ∙ sym own.is;
    some = λ w r kn within. some_nodes w r (entry w r kn within);
    closed = λ w r kn within. parts_pass writer reader (is_known (length reader) table keys) w r (node_at writer w) (node_at reader r) (children_known w r (reached w r kn within));
  }
