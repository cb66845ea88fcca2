-- No datum fits a node of a dead set.
use Rattle.std.proofs.Common.{arith, ◌≡◌, ◌==◌, ℕ, Bool, true, false, List, [], ◌∷◌, inl, inr, refl}
use Rattle.std.proofs.lemmas.Bool.{false≢true}
use Rattle.std.specs.Prelude.{length, slice_get, option_and_then}
use Rattle.std.specs.List.{list_any}
use Rattle.avro_schema.specs.Value.{Value, Values, no_values, value, values_count}
use Rattle.avro_name.specs.Name.{Name}
use Rattle.avro_schema.specs.Node.{Node, FieldNode, node_at, branches_of, items_node, values_node, fields_of, fixed_length, field_ids}
use Rattle.avro_schema.specs.Fits.{fits, each_fits, entries_fit, fields_fit, is_some_and, is_count, are_bytes}
use Rattle.avro_certificate.specs.Closed.{is_among, is_dead, is_dead_node}
use Rattle.avro_certificate.proofs.public.Tests.{and_left, and_right, or_cases, all_among, all_at}

-- each node of a dead set is a dead node
pub dead_at : (writer : List Node) (dead : List ℕ) (p : ℕ) → is_dead writer dead ≡ true → is_among dead p ≡ true
    → is_dead_node dead (node_at writer p) ≡ true
dead_at writer dead p all among = grind (arith, all_among, and_right)

-- what passes a test that no union and no record passes is not dead
lives : (dead : List ℕ) (test : Node → Bool) → ((ids : List ℕ) → test (Node.union ids) ≡ false)
    → ((name : Name) (aliases : List Name) (fields : List FieldNode) → test (Node.record_of name aliases fields) ≡ false)
    → (n : Node) → test n ≡ true → is_dead_node dead n ≡ true → ⊥
lives dead test no_union no_record n h d = grind arith

-- the branch that a datum takes of a dead union is in the set
branch_is_dead : (dead : List ℕ) (test : ℕ → Bool) (n : Node) (k : ℕ)
    → is_some_and test (option_and_then (λ ids. slice_get ids k) (branches_of n)) ≡ true → is_dead_node dead n ≡ true
    → (id : ℕ) × (is_among dead id ≡ true) × (test id ≡ true)
branch_is_dead dead test n k h d = grind (arith, all_at)

-- a field of a dead record is in the set
fields_are_dead : (writer : List Node) (dead : List ℕ) (vs : Values) (n : Node)
    → is_some_and (λ fields. fields_fit writer (field_ids fields) vs) (fields_of n) ≡ true → is_dead_node dead n ≡ true
    → (ids : List ℕ) × (list_any (is_among dead) ids ≡ true) × (fields_fit writer ids vs ≡ true)
fields_are_dead writer dead vs n h d = grind arith

-- by induction on the datum: none fits a node of the set
mutual
  pub no_dead_datum : (writer : List Node) (dead : List ℕ) → is_dead writer dead ≡ true → (v : Value) (p : ℕ)
      → is_among dead p ≡ true → fits writer (node_at writer p) v ≡ true → ⊥
  no_dead_datum writer dead all (Value.union k v) p among h =
      let taken = branch_is_dead dead (λ id. fits writer (node_at writer id) v) (node_at writer p) k h (dead_at writer dead p all among) in
      no_dead_datum writer dead all v taken.0 taken.1 taken.2
  no_dead_datum writer dead all (Value.record_of vs) p among h =
      let found = fields_are_dead writer dead vs (node_at writer p) h (dead_at writer dead p all among) in
      no_dead_fields writer dead all vs found.0 found.1 found.2
  no_dead_datum writer dead all (Value.array vs) p among h =
      lives dead (λ n. is_some_and (λ id. each_fits writer (node_at writer id) vs) (items_node n)) (λ ids. refl) (λ name aliases fields. refl) (node_at writer p)
      (and_right (is_count (values_count vs)) _ h) (dead_at writer dead p all among)
  no_dead_datum writer dead all (Value.map_of es) p among h =
      lives dead (λ n. is_some_and (λ id. entries_fit writer (node_at writer id) es) (values_node n)) (λ ids. refl) (λ name aliases fields. refl) (node_at writer p)
      (and_right _ _ h) (dead_at writer dead p all among)
  no_dead_datum writer dead all (Value.fixed b) p among h =
      lives dead (λ n. is_some_and (λ count. length b == count) (fixed_length n)) (λ ids. refl) (λ name aliases fields. refl) (node_at writer p)
      (and_right (are_bytes b) _ h) (dead_at writer dead p all among)
  no_dead_datum writer dead all v p among h =
      lives dead (λ n. fits writer n v) (λ ids. refl) (λ name aliases fields. refl) (node_at writer p) h (dead_at writer dead p all among)

  -- nor do values fit nodes of which one is in the set
  pub no_dead_fields : (writer : List Node) (dead : List ℕ) → is_dead writer dead ≡ true → (vs : Values) (ids : List ℕ)
      → list_any (is_among dead) ids ≡ true → fields_fit writer ids vs ≡ true → ⊥
  no_dead_fields writer dead all no_values [] among h = false≢true among
  no_dead_fields writer dead all no_values (id ∷ ids) among h = false≢true h
  no_dead_fields writer dead all (value v vs) [] among h = false≢true among
  no_dead_fields writer dead all (value v vs) (id ∷ ids) among h =
      elim (or_cases (is_among dead id) (list_any (is_among dead) ids) among) [
        | inl first ↦ no_dead_datum writer dead all v id first (and_left (fits writer (node_at writer id) v) (fields_fit writer ids vs) h)
        | inr later ↦ no_dead_fields writer dead all vs ids later (and_right (fits writer (node_at writer id) v) (fields_fit writer ids vs) h)
      ]
