-- An object is a default only of records that have as many fields as it has members.
use Rattle.avro_schema_json.proofs.Words.{arith, ◌≡◌, ℕ, zero, suc, Bool, true, ◌||◌, List, [], ◌∷◌, length, map, Option, Some, option_and_then, refl, sym, ap, subst, ◌∙◌, Ordering, list_any, IsEquivalence, both_ways, slice_cmp, or-true, and_parts, false≢true, is_eq-slice_cmp, bytes_eq-Decides, none-some, Members, no_members, member, get_member, value, Node, FieldNode, node_at, default_of, default_under, fields_default, member_keys, names_only, default_of_fields}
use Rattle.std.specs.Prelude.{is_some, slice_get, bytes_eq}
use Rattle.std.specs.List.{IsDistinct}
use Rattle.std.specs.Ordering.{nat_cmp, is_eq}
use Rattle.std.proofs.lemmas.Map.Made.{length-from_same_keys}
use Rattle.avro_schema_json.proofs.CoversSeen.{both, mapped, kept, some-field}
use Rattle.avro_schema_json.proofs.DeclarationLaws.{default_under-found}

texts_equal : IsEquivalence bytes_eq
texts_equal = record {
  refl = λ x. (bytes_eq-Decides x x).1 refl;
  symm = λ x y. both_ways (bytes_eq x y) (bytes_eq y x)
      (λ h. (bytes_eq-Decides y x).1 (sym ((bytes_eq-Decides x y).0 h)))
      (λ h. (bytes_eq-Decides x y).1 (sym ((bytes_eq-Decides y x).0 h)));
  congr = λ x y z h. ap (λ t. bytes_eq t z) ((bytes_eq-Decides x y).0 h);
}

abbrev pub names_of : List FieldNode → List (List ℕ)
names_of fields = map (λ f. f.name) fields

any-name : (q : List ℕ) (fields : List FieldNode) → list_any (bytes_eq q) (names_of fields) ≡ list_any (λ f. bytes_eq q f.name) fields
any-name q [] = refl
any-name q (f ∷ fields) = ap (λ b. bytes_eq q f.name || b) (any-name q fields)

-- a key of a member is among the keys
is-key : (q : List ℕ) (ms : Members) → is_some (get_member q ms) ≡ true → list_any (bytes_eq q) (member_keys ms) ≡ true
is-key q no_members h = absurd (false≢true h)
is-key q (member k d ms) h = by_order (slice_cmp nat_cmp q k) refl (λ r. is-key q ms r)
  where
    by_order : (o : Ordering) → slice_cmp nat_cmp q k ≡ o → (is_some (get_member q ms) ≡ true → list_any (bytes_eq q) (member_keys ms) ≡ true)
        → list_any (bytes_eq q) (k ∷ member_keys ms) ≡ true
    by_order Ordering.Equal is others = let w : bytes_eq q k ≡ true = sym (is_eq-slice_cmp q k) ∙ ap is_eq is in rw w refl
    by_order _ is others = let w = others (rw is at h) in rw w (or-true (bytes_eq q k))

-- a member is found where something is read under its key
under-member : (nodes : List Node) (key : List ℕ) (ms : Members) → is_some (default_under nodes key ms) ≡ true → is_some (get_member key ms) ≡ true
under-member nodes key ms h = sym (mapped (default_of nodes) (get_member key ms)) ∙ ap is_some (sym (default_under-found nodes key ms)) ∙ h

read-under : {A B : Type 0} (o : Option A) (f : A → Option B) → is_some (option_and_then f o) ≡ true → is_some o ≡ true
read-under o f h = grind arith

-- each field has a member
field-member : (nodes : List Node) (ms : Members) (fields : List FieldNode) (i : ℕ) (f : FieldNode) → slice_get fields i ≡ Some f
    → is_some (fields_default nodes (λ key. default_under nodes key ms) fields) ≡ true → is_some (get_member f.name ms) ≡ true
field-member nodes ms [] i f at h = absurd (none-some f at)
field-member nodes ms (g ∷ fields) zero f at h =
    let same : g ≡ f = cc in
    let first = (both (option_and_then (λ read. read (node_at nodes g.node)) (default_under nodes g.name ms)) (fields_default nodes (λ key. default_under nodes key ms) fields) value h).0 in
    let under = read-under (default_under nodes g.name ms) (λ read. read (node_at nodes g.node)) first in
    subst (λ (x : FieldNode). is_some (get_member x.name ms) ≡ true) same (under-member nodes g.name ms under)
field-member nodes ms (g ∷ fields) (suc i) f at h =
    field-member nodes ms fields i f at
    (both (option_and_then (λ read. read (node_at nodes g.node)) (default_under nodes g.name ms)) (fields_default nodes (λ key. default_under nodes key ms) fields) value h).1

-- the keys of an object are names where it names only fields
key-name : (q : List ℕ) (keys : List (List ℕ)) (fields : List FieldNode) → names_only keys fields ≡ true → list_any (bytes_eq q) keys ≡ true
    → list_any (λ f. bytes_eq q f.name) fields ≡ true
key-name q [] fields h k = absurd (false≢true k)
key-name q (key ∷ keys) fields h k = by (bytes_eq q key) refl (λ r s. key-name q keys fields r s)
  where
    two : (list_any (λ f. bytes_eq key f.name) fields ≡ true) × (names_only keys fields ≡ true)
    two = and_parts (list_any (λ f. bytes_eq key f.name) fields) (names_only keys fields) h

    by : (b : Bool) → bytes_eq q key ≡ b → (names_only keys fields ≡ true → list_any (bytes_eq q) keys ≡ true → list_any (λ f. bytes_eq q f.name) fields ≡ true)
        → list_any (λ f. bytes_eq q f.name) fields ≡ true
    by b e others = grind (arith, bytes_eq-Decides)

pub as-many : (nodes : List Node) (ms : Members) (fields : List FieldNode) → IsDistinct bytes_eq (names_of fields) → IsDistinct bytes_eq (member_keys ms)
    → is_some (default_of_fields nodes ms fields) ≡ true → length (names_of fields) ≡ length (member_keys ms)
as-many nodes ms fields names keys h =
    length-from_same_keys texts_equal (names_of fields) (member_keys ms) names keys (λ q.
    both_ways (list_any (bytes_eq q) (names_of fields)) (list_any (bytes_eq q) (member_keys ms))
    (λ here. let f = some-field q fields (sym (any-name q fields) ∙ here) in
    is-key q ms (subst (λ (x : List ℕ). is_some (get_member x ms) ≡ true) f.3 (field-member nodes ms fields f.0 f.1 f.2 all.0)))
    (λ here. any-name q fields ∙ key-name q (member_keys ms) fields all.1 here))
  where
    all : (is_some (fields_default nodes (λ k. default_under nodes k ms) fields) ≡ true) × (names_only (member_keys ms) fields ≡ true)
    all = kept (fields_default nodes (λ k. default_under nodes k ms) fields) (names_only (member_keys ms) fields) h
