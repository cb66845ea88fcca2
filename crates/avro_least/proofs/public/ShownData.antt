-- A step over entries that have data has a datum.
use Rattle.std.proofs.Common.{◌≡◌, ℕ, suc, ◌+◌, ◌≤◌, Bool, true, false, cond, List, [], ◌∷◌, Option, Some, None, ◌⊎◌, inl, inr, length, refl, sym, ◌∙◌, subst, arith, max, slice_get, is_some, nat_le, ◌==◌, replicate}
use Rattle.std.proofs.lemmas.Bool.{false≢true, eq-eqb, and_from}
use Rattle.std.proofs.lemmas.List.{length-replicate}
use Rattle.avro_schema.specs.Value.{Value, Values, no_values, value, size, depth, values_size, values_depth}
use Rattle.avro_schema.specs.Node.{Node, node_at, branches_of, fields_of, field_ids}
use Rattle.avro_schema.specs.Fits.{fits, fields_fit, are_bytes}
use Rattle.avro_schema.specs.WellFormed.{meets_its_rules}
use Rattle.avro_least.specs.inside.Leaf.{leaf_value}
use Rattle.avro_least.specs.Tables.{Least, LeastTable, Exactly, ShowsData, AreDataShown, capped, around, together, lesser, precedes, best_of, all_of, least_datum}
use Rattle.avro_certificate.proofs.public.Tests.{and_left}
use Rattle.avro_certificate.proofs.public.LeafData.{empty_text, zeros_fit}

-- above the limit nothing is claimed
pub exact_capped : (limit : ℕ) (e : Least) (s d : ℕ) → (e.nodes ≤ limit → (s ≡ e.nodes) × (d ≡ e.depth)) → Exactly limit (Some (capped limit e)) s d
exact_capped limit e s d h = chosen (nat_le e.nodes limit) refl
  where
    chosen : (t : Bool) → nat_le e.nodes limit ≡ t → Exactly limit (Some (cond t e (record { nodes = suc limit; depth = 0 }))) s d
    chosen true m = h
    chosen false m = λ k. absurd (omega (arith, k))

-- a node around
pub exact_around : (limit : ℕ) (e : Option Least) (s d : ℕ) → Exactly limit e s d → Exactly limit (around limit e) (suc s) (suc d)
exact_around limit None s d h = h
exact_around limit (Some e) s d h = exact_capped limit _ (suc s) (suc d)
    (λ k. let x = h (omega (arith, k)) in (omega (arith, x.0), omega (arith, x.1)))

-- one beside the other
pub exact_together : (limit : ℕ) (a b : Option Least) (s d t e : ℕ) → Exactly limit a s d → Exactly limit b t e
    → Exactly limit (together limit a b) (s + t) (max d e)
exact_together limit None b s d t e h k = h
exact_together limit (Some a) None s d t e h k = k
exact_together limit (Some a) (Some b) s d t e h k = exact_capped limit _ (s + t) (max d e)
    (λ m. let x = h (omega (arith, m)) in let y = k (omega (arith, m)) in (omega (arith, x.0, y.0), omega (arith, x.1, y.1)))

-- what stands around an entry
pub around_some : (limit : ℕ) (e : Option Least) → is_some (around limit e) ≡ true → is_some e ≡ true
around_some limit None h = h
around_some limit (Some e) h = refl

-- two entries stand side by side
pub together_some : (limit : ℕ) (a b : Option Least) → is_some (together limit a b) ≡ true → (is_some a ≡ true) × (is_some b ≡ true)
together_some limit None b h = absurd (false≢true h)
together_some limit (Some a) None h = absurd (false≢true h)
together_some limit (Some a) (Some b) h = (refl, refl)

-- the lesser is one of the two
pub lesser_either : (a b : Option Least) → is_some (lesser a b) ≡ true
    → ((is_some a ≡ true) × (lesser a b ≡ a)) ⊎ ((is_some b ≡ true) × (lesser a b ≡ b))
lesser_either None b h = inr (h, refl)
lesser_either (Some a) None h = inl (refl, refl)
lesser_either (Some a) (Some b) h = chosen (precedes b a)
  where
    chosen : (t : Bool) → ((is_some (Some a) ≡ true) × (cond t (Some b) (Some a) ≡ Some a)) ⊎ ((is_some (Some b) ≡ true) × (cond t (Some b) (Some a) ≡ Some b))
    chosen true = inr (refl, refl)
    chosen false = inl (refl, refl)

-- a best entry is that of one of the ids
pub record IsBest (table : LeastTable) (ids : List ℕ) : Type 0 where
  pub branch : ℕ
  pub id : ℕ
  pub here : slice_get ids branch ≡ Some id
  pub is : best_of table ids ≡ table id

pub best_is : (table : LeastTable) (ids : List ℕ) → is_some (best_of table ids) ≡ true → IsBest table ids
best_is table [] h = absurd (false≢true h)
best_is table (p ∷ ps) h = elim (lesser_either (table p) (best_of table ps) h) [
  | inl first ↦ record { branch = 0; id = p; here = refl; is = first.1 }
  | inr later ↦ (let found = best_is table ps later.0 in record { branch = suc found.branch; id = found.id; here = found.here; is = later.1 ∙ found.is })
]

-- the datum of a node without parts
pub leaf_fits : (nodes : List Node) (n : Node) → branches_of n ≡ None → fields_of n ≡ None → meets_its_rules nodes n ≡ true → fits nodes n (leaf_value n) ≡ true
leaf_fits nodes (Node.union ids) plain flat rules = absurd (grind arith)
leaf_fits nodes (Node.record_of name aliases fields) plain flat rules = absurd (grind arith)
leaf_fits nodes Node.string plain flat rules = empty_text
leaf_fits nodes (Node.enum name aliases symbols default) plain flat rules = and_left _ _ (and_left _ _ (and_left _ _ (and_left _ _ rules)))
leaf_fits nodes (Node.fixed name aliases count) plain flat rules =
    and_from (are_bytes (replicate count 0)) (length (replicate count 0) == count) (zeros_fit count rules) (eq-eqb (length (replicate count 0)) count (length-replicate {A = ℕ} count 0))
leaf_fits nodes _ plain flat rules = refl

-- values for some ids
pub record ShowsFields (writer : List Node) (limit : ℕ) (ids : List ℕ) (e : Option Least) : Type 0 where
  pub values : Values
  pub fitting : fields_fit writer ids values ≡ true
  pub exact : Exactly limit e (values_size values) (values_depth values)

module _ (writer : List Node) (limit : ℕ) (table : LeastTable) (shown : AreDataShown writer limit table) where
  pub shown_fields : (ps : List ℕ) → is_some (all_of limit table ps) ≡ true → ShowsFields writer limit ps (all_of limit table ps)
  shown_fields [] h = record { values = no_values; fitting = refl; exact = λ k. (refl, refl) }
  shown_fields (p ∷ ps) h =
      let both = together_some limit (table p) (all_of limit table ps) h in
      let first = shown p both.0 in
      let others = shown_fields ps both.1 in
      record {
        values = value first.datum others.values;
        fitting = and_from (fits writer (node_at writer p) first.datum) (fields_fit writer ps others.values) first.fitting others.fitting;
        exact = exact_together limit (table p) (all_of limit table ps) (size first.datum) (depth first.datum) (values_size others.values) (values_depth others.values)
            first.exact others.exact;
      }

  union_shown : (ids : List ℕ) → IsBest table ids → is_some (best_of table ids) ≡ true
      → ShowsData writer limit (Node.union ids) (around limit (best_of table ids))
  union_shown ids best h =
      let part = shown best.id (subst (λ (e : Option Least). is_some e ≡ true) best.is h) in
      record {
        datum = Value.union best.branch part.datum;
        fitting = rw best.here part.fitting;
        exact = exact_around limit (best_of table ids) (size part.datum) (depth part.datum)
            (subst (λ (e : Option Least). Exactly limit e (size part.datum) (depth part.datum)) (sym best.is) part.exact);
      }

  -- a step of the table
  pub step_shown : (n : Node) → meets_its_rules writer n ≡ true → is_some (least_datum limit table n) ≡ true
      → ShowsData writer limit n (least_datum limit table n)
  step_shown (Node.union ids) rules h =
      let some = around_some limit (best_of table ids) h in
      union_shown ids (best_is table ids some) some
  step_shown (Node.record_of name aliases fields) rules h =
      let parts = shown_fields (field_ids fields) (around_some limit (all_of limit table (field_ids fields)) h) in
      record {
        datum = Value.record_of parts.values;
        fitting = parts.fitting;
        exact = exact_around limit (all_of limit table (field_ids fields)) (values_size parts.values) (values_depth parts.values) parts.exact;
      }
  step_shown n rules h = record { datum = leaf_value n; fitting = leaf_fits writer n refl refl rules; exact = λ k. (refl, refl) }
