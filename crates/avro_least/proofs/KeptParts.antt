-- The parts of a pair, by the view of what it asks for.
use Rattle.std.proofs.Common.{◌≡◌, ◌∙◌, ◌<◌, ◌+◌, ℕ, zero, suc, List, [], ◌∷◌, Option, Some, None, inl, inr, length, get_or, refl, sym, ap, arith, slice_get, option_map, unwrap_or, map}
use Rattle.std.proofs.lemmas.Bool.{cases_lt}
use Rattle.std.proofs.lemmas.List.{length-map}
use Rattle.std.proofs.lemmas.Option.{slice_get-get_or}
use Rattle.avro_schema.specs.Node.{Node, FieldNode, field_ids}
use Rattle.avro_schema.specs.Seen.{ids_of}
use Rattle.avro_schema.specs.declared.schema.NodeId.{NodeId}
use Rattle.avro_compare.specs.Children.{Pair}
use Rattle.avro_compare.specs.Entries.{entry_at}
use Rattle.avro_compare.specs.Pairs.{field_for, part_to}
use Rattle.avro_compare.specs.Planned.{AreFor, part_or_none}
use Rattle.avro_compare.specs.Resolve.{fields_at}
use Rattle.avro_compare.specs.Source.{reader_field}
use Rattle.avro_compare.specs.declared.comparison.At.{At}
use Rattle.avro_compare.proofs.public.Sources.{past_all}
use Rattle.avro_least.specs.Asked.{Row, Asked, rows_from}
use Rattle.avro_least.specs.SeenAsk.{rows_by}
use Rattle.avro_least.specs.Asks.{AreOrdered, AreTaken, IsKept, indexed, kept_count, kept_part, nth_part, pair_for, seen_part, view_of, with_index}
use Rattle.avro_least.specs.inside.Parts.{nodes_of, part_at, parts_of, row_part}
use Rattle.avro_least.specs.declared.pairs.asking.Ask.{Ask}
use Rattle.avro_least.proofs.AskedLed.{rows_same}
use Rattle.avro_least.proofs.Entries.{entry_place}
use Rattle.avro_least.proofs.public.Keys.{some_same}
use Rattle.avro_least.proofs.Others.{against, part_within}

-- the part at an index is the one that is asked for
pub kept_is : (w r : ℕ) (ask : Ask) (a : Asked) (k : ℕ) → IsKept ask a → kept_part w r ask k ≡ part_at w r a k
kept_is w r (Ask.Fields parts) a k h = h.same k ∙ sym (ap (λ (x : Asked). part_at w r x k) h.is)
kept_is w r ask a k h = sym (ap (λ (x : Asked). part_at w r x k) h)

pub kept_ordered : (ask : Ask) (a : Asked) → IsKept ask a → AreOrdered ask
kept_ordered (Ask.Fields parts) a h = h.ascends
kept_ordered ask a h = tt

-- the ids of a part with its index
pub part_given : (o : Option (ℕ × NodeId × NodeId)) (k a b : ℕ) → seen_part o ≡ Some (k, record { w = a; r = b })
    → (x : NodeId) × ((y : NodeId) × ((o ≡ Some (k, x, y)) × (x.0 ≡ a) × (y.0 ≡ b)))
part_given None k a b e = absurd cc
part_given (Some c) k a b e =
    let same : (c.0, record { w = c.1.0; r = c.2.0 }) ≡ (k, record { w = a; r = b }) = some_same (c.0, record { w = c.1.0; r = c.2.0 }) (k, record { w = a; r = b }) e in
    (c.1, (c.2, (ap (λ (i : ℕ). Some (i, c.1, c.2)) (ap (λ (q : ℕ × Pair). q.0) same), ap (λ (q : ℕ × Pair). q.1.w) same, ap (λ (q : ℕ × Pair). q.1.r) same)))

-- each part is one of the parts by their order
pub nth_found : (w r : ℕ) (ask : Ask) (k : ℕ) (c : Pair) → kept_part w r ask k ≡ Some c → (n : ℕ) × (n < kept_count ask) × (nth_part w r ask n ≡ Some (k, c))
nth_found w r (Ask.Same q) k c is = (k, omega (arith, part_within w r (Asked.same q.0) k c is), ap (with_index k) is)
nth_found w r (Ask.Part a b) k c is = (k, omega (arith, part_within w r (Asked.part a.0 b.0) k c is), ap (with_index k) is)
nth_found w r (Ask.Branches ids) k c is =
    let count : length (parts_of w r (Asked.branches (ids_of ids.now))) ≡ length ids.now = length-map (ids_of ids.now) (against r) ∙ length-map ids.now (λ (id : NodeId). id.0) in
    (k, omega (arith, part_within w r (Asked.branches (ids_of ids.now)) k c is, count), ap (with_index k) is)
nth_found w r (Ask.Fields parts) k c is = by (entry_at parts.now k) refl is
  where
    by : (o : Option At) → entry_at parts.now k ≡ o → pair_for o ≡ Some c → (n : ℕ) × (n < length parts.now) × (indexed (slice_get parts.now n) ≡ Some (k, c))
    by None e got = absurd cc
    by (Some at) e got =
        let found = entry_place parts.now k at e in
        (found.0, found.1, ap indexed found.2 ∙ ap (with_index k) got)
nth_found w r _ k c is = absurd cc

-- the pair that a field of a node leads to
abbrev row_for : Option ℕ → Option FieldNode → Option Pair
row_for None f = None
row_for (Some p) f = row_part (record { node = p; theirs = option_map (λ g. g.node) f })

module _ (ws rs : List FieldNode) where
  rows_at : (n : ℕ) (ps : List ℕ) (k : ℕ) → unwrap_or (slice_get (map row_part (rows_from ws rs n ps)) k) None ≡ row_for (slice_get ps k) (reader_field ws rs (n + k))
  rows_at n [] k = refl
  rows_at n (p ∷ ps) zero = let same : n ≡ n + 0 = omega arith in ap (λ (j : ℕ). row_for (Some p) (reader_field ws rs j)) same
  rows_at n (p ∷ ps) (suc k) =
      let same : suc n + k ≡ n + suc k = omega arith in
      rows_at (suc n) ps k ∙ ap (λ (j : ℕ). row_for (slice_get ps k) (reader_field ws rs j)) same

  none_past : (k : ℕ) → slice_get (field_ids ws) k ≡ None → reader_field ws rs k ≡ None
  none_past k e = elim (cases_lt k (length ws)) [
    | inl low ↦
        let both : None ≡ Some (get_or (field_ids ws) k 0) = sym e ∙ slice_get-get_or (field_ids ws) k 0 (omega (arith, low, length-map ws (λ f. f.node))) in
        absurd cc
    | inr high ↦ past_all ws rs k high
  ]

  field_pair : (k : ℕ) → pair_for (Some (field_for ws rs k)) ≡ row_for (slice_get (field_ids ws) k) (reader_field ws rs k)
  field_pair k = by (slice_get (field_ids ws) k) (reader_field ws rs k) (none_past k)
    where
      by : (o : Option ℕ) (f : Option FieldNode) → (o ≡ None → f ≡ None) → pair_for (Some (part_to (unwrap_or o 0) f)) ≡ row_for o f
      by None None h = refl
      by (Some p) None h = refl
      by None (Some f) h = let both : Some f ≡ None = h refl in absurd cc
      by (Some p) (Some f) h = refl

  -- the pair of each field
  same_rows : (parts : List (ℕ × At)) → AreFor ws rs parts → (k : ℕ)
      → pair_for (entry_at parts k) ≡ unwrap_or (slice_get (map row_part (rows_by parts 0 (field_ids ws))) k) None
  same_rows parts h k =
      let same : 0 + k ≡ k = omega arith in
      shown (entry_at parts k) ∙ ap (λ (at : At). pair_for (Some at)) (h.1 k (omega arith)) ∙ field_pair k
      ∙ sym (rows_at 0 (field_ids ws) k ∙ ap (λ (j : ℕ). row_for (slice_get (field_ids ws) k) (reader_field ws rs j)) same)
      ∙ sym (ap (λ (rows : List Row). unwrap_or (slice_get (map row_part rows) k) None) (rows_same ws rs parts h))
    where
      shown : (o : Option At) → pair_for o ≡ pair_for (Some (part_or_none o))
      shown None = refl
      shown (Some at) = refl

-- a view is what its pair asks for
pub kept_of_view : (n q : Node) (ask : Ask) (a : Asked) → view_of (nodes_of n) ask ≡ a → AreTaken n q ask → IsKept ask a
kept_of_view n q (Ask.Fields parts) a e h = record {
  rows = rows_by parts.now 0 (nodes_of n);
  is = sym e;
  ascends = h.0;
  same = same_rows (fields_at n) (fields_at q) parts.now h;
}
kept_of_view n q ask a e h = sym e
