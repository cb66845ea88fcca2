-- No datum of a node is below its entry.
use Rattle.std.proofs.Common.{◌≡◌, ℕ, Bool, true, false, List, [], ◌∷◌, Option, Some, None, refl, arith, slice_get, option_and_then}
use Rattle.std.proofs.lemmas.Bool.{false≢true}
use Rattle.avro_name.specs.Name.{Name}
use Rattle.avro_schema.specs.Value.{Value, Values, no_values, value, size, depth, values_size, values_depth, values_count}
use Rattle.avro_schema.specs.Node.{Node, FieldNode, node_at, branches_of, fields_of, field_ids}
use Rattle.avro_schema.specs.Fits.{fits, fields_fit, is_some_and, is_count, are_bytes}
use Rattle.avro_least.specs.Tables.{LeastTable, AtMost, IsLowForData, least_datum, all_of}
use Rattle.avro_certificate.proofs.public.Tests.{and_left, and_right}
use Rattle.avro_least.proofs.LeastOrder.{under_around, under_together, under_best}
use Rattle.avro_schema.proofs.public.Parts.{size-positive, depth-positive}

-- a datum that is no union's and no record's
abbrev pub is_whole : Value → Bool
is_whole (Value.union k v) = false
is_whole (Value.record_of vs) = false
is_whole _ = true

-- does not fit a union or a record
whole_refused : (nodes : List Node) (ids : List ℕ) (v : Value) → is_whole v ≡ true → fits nodes (Node.union ids) v ≡ true → ⊥
whole_refused nodes ids (Value.union k v) whole h = false≢true whole
whole_refused nodes ids (Value.array vs) whole h = false≢true (and_right (is_count (values_count vs)) false h)
whole_refused nodes ids (Value.map_of es) whole h = false≢true (and_right _ false h)
whole_refused nodes ids (Value.fixed b) whole h = false≢true (and_right (are_bytes b) false h)
whole_refused nodes ids _ whole h = false≢true h

no_record_whole : (nodes : List Node) (name : Name) (aliases : List Name) (fields : List FieldNode) (v : Value) → is_whole v ≡ true → fits nodes (Node.record_of name aliases fields) v ≡ true → ⊥
no_record_whole nodes name aliases fields (Value.record_of vs) whole h = false≢true whole
no_record_whole nodes name aliases fields (Value.array vs) whole h = false≢true (and_right (is_count (values_count vs)) false h)
no_record_whole nodes name aliases fields (Value.map_of es) whole h = false≢true (and_right _ false h)
no_record_whole nodes name aliases fields (Value.fixed b) whole h = false≢true (and_right (are_bytes b) false h)
no_record_whole nodes name aliases fields _ whole h = false≢true h

-- the least of its node has one node
whole_step : (nodes : List Node) (limit : ℕ) (table : LeastTable) (n : Node) (v : Value) → is_whole v ≡ true → fits nodes n v ≡ true
    → AtMost (least_datum limit table n) (size v) (depth v)
whole_step nodes limit table (Node.union ids) v whole h = absurd (whole_refused nodes ids v whole h)
whole_step nodes limit table (Node.record_of name aliases fields) v whole h = absurd (no_record_whole nodes name aliases fields v whole h)
whole_step nodes limit table _ v whole h = record { fewer = size-positive v; shallower = λ k. depth-positive v }

-- a union's is no more than its branch's
union_step : (nodes : List Node) (limit : ℕ) (table : LeastTable) (n : Node) (k : ℕ) (v : Value)
    → is_some_and (λ id. fits nodes (node_at nodes id) v) (option_and_then (λ ids. slice_get ids k) (branches_of n)) ≡ true
    → ((p : ℕ) → fits nodes (node_at nodes p) v ≡ true → AtMost (table p) (size v) (depth v))
    → AtMost (least_datum limit table n) (size (Value.union k v)) (depth (Value.union k v))
union_step nodes limit table (Node.union ids) k v h below = taken (slice_get ids k) refl h
  where
    taken : (branch : Option ℕ) → slice_get ids k ≡ branch → is_some_and (λ id. fits nodes (node_at nodes id) v) branch ≡ true
        → AtMost (least_datum limit table (Node.union ids)) (size (Value.union k v)) (depth (Value.union k v))
    taken None here passes = absurd (false≢true passes)
    taken (Some p) here passes = under_around limit _ (size v) (depth v) (under_best table ids k p (size v) (depth v) here (below p passes))
union_step nodes limit table _ k v h below = absurd (false≢true h)

-- a record's is no more than its fields'
record_step : (nodes : List Node) (limit : ℕ) (table : LeastTable) (n : Node) (vs : Values)
    → is_some_and (λ fields. fields_fit nodes (field_ids fields) vs) (fields_of n) ≡ true
    → ((ps : List ℕ) → fields_fit nodes ps vs ≡ true → AtMost (all_of limit table ps) (values_size vs) (values_depth vs))
    → AtMost (least_datum limit table n) (size (Value.record_of vs)) (depth (Value.record_of vs))
record_step nodes limit table (Node.record_of name aliases fields) vs h below =
    under_around limit _ (values_size vs) (values_depth vs) (below (field_ids fields) h)
record_step nodes limit table _ vs h below = absurd (false≢true h)

module _ (nodes : List Node) (limit : ℕ) (table : LeastTable) (low : IsLowForData nodes limit table) where
  -- by induction on the datum: nor is any below a step
  mutual
    pub step_data : (v : Value) (p : ℕ) → fits nodes (node_at nodes p) v ≡ true → AtMost (least_datum limit table (node_at nodes p)) (size v) (depth v)
    step_data (Value.union k v) p h = union_step nodes limit table (node_at nodes p) k v h (λ q f. low q (size v) (depth v) (step_data v q f))
    step_data (Value.record_of vs) p h = record_step nodes limit table (node_at nodes p) vs h (λ ps. at_most_fields vs ps)
    step_data v p h = whole_step nodes limit table (node_at nodes p) v refl h

    pub at_most_fields : (vs : Values) (ps : List ℕ) → fields_fit nodes ps vs ≡ true → AtMost (all_of limit table ps) (values_size vs) (values_depth vs)
    at_most_fields no_values [] h = record { fewer = omega arith; shallower = λ k. omega arith }
    at_most_fields no_values (p ∷ ps) h = absurd (false≢true h)
    at_most_fields (value v vs) [] h = absurd (false≢true h)
    at_most_fields (value v vs) (p ∷ ps) h =
        under_together limit (table p) (all_of limit table ps) (size v) (depth v) (values_size vs) (values_depth vs)
        (low p (size v) (depth v) (step_data v p (and_left (fits nodes (node_at nodes p) v) (fields_fit nodes ps vs) h)))
        (at_most_fields vs ps (and_right (fits nodes (node_at nodes p) v) (fields_fit nodes ps vs) h))

  pub at_most_data : (v : Value) (p : ℕ) → fits nodes (node_at nodes p) v ≡ true → AtMost (table p) (size v) (depth v)
  at_most_data v p h = low p (size v) (depth v) (step_data v p h)
