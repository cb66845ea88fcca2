-- The form of a node of a schema is well made.
use Rattle.std.proofs.Common.{arith, ◌≡◌, ℕ, Bool, true, false, not, ◌&&◌, List, [], ◌∷◌, ◌++◌, Option, Some, None, refl, sym, ◌∙◌, ap, map, flat_map, filter_map}
use Rattle.std.specs.List.{list_all, list_any}
use Rattle.std.proofs.lemmas.Bool.{and_parts, and_from, or_parts, not-true, not_from_false}
use Rattle.std.proofs.lemmas.List.{length-map}
use Rattle.std.proofs.lemmas.List.Folds.{list_all-append, list_any-append, list_all-map}
use Rattle.avro_name.specs.Name.{Name, is_full_name}
use Rattle.avro_schema.specs.Node.{Node, FieldNode, node_at, node_name}
use Rattle.avro_schema.specs.Distinct.{are_distinct}
use Rattle.avro_schema.specs.WellFormed.{is_schema, has_good_names, BranchKind, named, branch_kind, is_union, is_enum, are_fields, field_names}
use Rattle.avro_schema.proofs.public.GoodNodes.{IsGood, good_at}
use Rattle.avro_canonical.specs.Form.{Form, Forms, FieldForms}
use Rattle.avro_canonical.specs.Canonical.{IsForm, AreForms, AreFieldForms, primitive_word, no_branch, branch, no_field, next_field}
use Rattle.avro_canonical.specs.inside.WellMade.{node_of_word, form_kind, form_kinds, are_branches, names_of, are_names, WellMade, AreWellMade, FieldsWellMade}
use Rattle.avro_canonical.proofs.Words.{by_word, by_name}

-- a word is that of its node alone
pub word_node : (n : Node) (word : List ℕ) → primitive_word n ≡ Some word → node_of_word word ≡ n
word_node = by_word (λ n word. node_of_word word ≡ n) refl refl refl refl refl refl

pub named_kind : (n : Node) (name : Name) → node_name n ≡ Some name → branch_kind n ≡ Some (named name)
named_kind = by_name (λ n name. branch_kind n ≡ Some (named name)) (λ name aliases xs. refl) (λ name aliases symbols default. refl) (λ name aliases count. refl)

pub kind_same : {nodes : List Node} {written : List Name} {n : Node} {f : Form} → IsForm nodes written n f → branch_kind n ≡ form_kind f
kind_same {n = n} (IsForm.primitive {word = word} h) = sym (ap branch_kind (word_node n word h))
kind_same {n = n} (IsForm.again {name = name} h old) = named_kind n name h
kind_same _ = refl

abbrev pub kinds_at : List Node → List ℕ → List (Option BranchKind)
kinds_at nodes ids = map (λ id. branch_kind (node_at nodes id)) ids

pub kinds_same : {nodes : List Node} {written : List Name} {ids : List ℕ} {fs : Forms} → AreForms nodes written ids fs → kinds_at nodes ids ≡ form_kinds fs
kinds_same no_branch = refl
kinds_same {nodes = nodes} (branch {ids = ids} {f = f} d ds) = ap (λ kind. kind ∷ kinds_at nodes ids) (kind_same d) ∙ ap (λ kinds. form_kind f ∷ kinds) (kinds_same ds)

filter_seen : {A B : Type 0} (f : A → Option B) (xs : List A) → filter_map f xs ≡ filter_map (λ o. o) (map f xs)
filter_seen f [] = refl
filter_seen f (x ∷ xs) = rw (filter_seen f xs) refl

-- whether ids are the branches of a union is said by their kinds
pub union_seen : (nodes : List Node) (ids : List ℕ) → is_union nodes ids ≡ are_branches (kinds_at nodes ids)
union_seen nodes ids = grind (arith, filter_seen, length-map, list_all-map)

-- the names of fields, without their aliases
all_names : (p : List ℕ → Bool) (xs : List FieldNode) → list_all p (flat_map field_names xs) ≡ true → list_all p (map (λ x. x.name) xs) ≡ true
all_names p [] h = refl
all_names p (x ∷ xs) h =
    let cut = sym (list_all-append p (field_names x) (flat_map field_names xs)) ∙ h in
    let both = and_parts (list_all p (field_names x)) (list_all p (flat_map field_names xs)) cut in
    and_from (p x.name) (list_all p (map (λ y. y.name) xs)) (and_parts (p x.name) (list_all p x.aliases) both.0).0 (all_names p xs both.1)

no_names : (p : List ℕ → Bool) (xs : List FieldNode) → list_any p (flat_map field_names xs) ≡ false → list_any p (map (λ x. x.name) xs) ≡ false
no_names p [] h = refl
no_names p (x ∷ xs) h =
    let cut = sym (list_any-append p (field_names x) (flat_map field_names xs)) ∙ h in
    let both = or_parts (list_any p (field_names x)) (list_any p (flat_map field_names xs)) cut in
    rw (or_parts (p x.name) (list_any p x.aliases) both.0).0 (no_names p xs both.1)

distinct_behind : {A : Type 0} (e : A → A → Bool) (xs ys : List A) → are_distinct e (xs ++ ys) ≡ true → are_distinct e ys ≡ true
distinct_behind e [] ys h = h
distinct_behind e (x ∷ xs) ys h = distinct_behind e xs ys (and_parts (not (list_any (e x) (xs ++ ys))) (are_distinct e (xs ++ ys)) h).1

distinct_names : (e : List ℕ → List ℕ → Bool) (xs : List FieldNode) → are_distinct e (flat_map field_names xs) ≡ true → are_distinct e (map (λ x. x.name) xs) ≡ true
distinct_names e [] h = refl
distinct_names e (x ∷ xs) h =
    let others = x.aliases ++ flat_map field_names xs in
    let both = and_parts (not (list_any (e x.name) others)) (are_distinct e others) h in
    let none = or_parts (list_any (e x.name) x.aliases) (list_any (e x.name) (flat_map field_names xs))
    (sym (list_any-append (e x.name) x.aliases (flat_map field_names xs)) ∙ not-true _ both.0) in
    and_from _ _ (not_from_false _ (no_names (e x.name) xs none.1)) (distinct_names e xs (distinct_behind e x.aliases (flat_map field_names xs) both.1))

names_seen : {nodes : List Node} {written : List Name} {xs : List FieldNode} {fs : FieldForms} → AreFieldForms nodes written xs fs → map (λ x. x.name) xs ≡ names_of fs
names_seen no_field = refl
names_seen (next_field {x = x} d ds) = ap (λ names. x.name ∷ names) (names_seen ds)

good_names : (nodes : List Node) (xs : List FieldNode) → are_fields nodes xs ≡ true → are_names (map (λ x. x.name) xs) ≡ true
good_names nodes xs h = grind (arith, all_names, and_from, and_parts, distinct_names)

full_of : (name : Name) (others : Bool) → (is_full_name name && others) ≡ true → is_full_name name ≡ true
full_of name others h = (and_parts (is_full_name name) others h).0

full_named : (n : Node) (name : Name) → node_name n ≡ Some name → has_good_names n ≡ true → is_full_name name ≡ true
full_named = grind (arith, full_of)

without_default : (symbols : List (List ℕ)) (default : Option ℕ) → is_enum symbols default ≡ true → is_enum symbols None ≡ true
without_default symbols default h = grind (arith, and_from, and_parts)

mutual
  pub well_made : {nodes : List Node} {written : List Name} {id : ℕ} {n : Node} {f : Form} → is_schema nodes ≡ true → IsGood nodes id n → IsForm nodes written n f → WellMade written f
  well_made {n = n} formed good (IsForm.primitive {word = word} h) = ap primitive_word (word_node n word h) ∙ h
  well_made {nodes = nodes} formed good (IsForm.array {id = id} d) = well_made formed (good_at nodes formed id) d
  well_made {nodes = nodes} formed good (IsForm.map_of {id = id} d) = well_made formed (good_at nodes formed id) d
  well_made {nodes = nodes} formed good (IsForm.union {ids = ids} ds) =
      (ap are_branches (sym (kinds_same ds)) ∙ sym (union_seen nodes ids) ∙ good.ruled, all_well_made formed ds)
  well_made {nodes = nodes} formed good (IsForm.record_of {name = name} {aliases = aliases} {fields = xs} new ds) =
      (new, full_of name (list_all is_full_name aliases) good.named, ap are_names (sym (names_seen ds)) ∙ good_names nodes xs good.ruled, fields_well_made formed ds)
  well_made formed good (IsForm.enum {name = name} {aliases = aliases} {symbols = symbols} {default = default} new) =
      (new, full_of name (list_all is_full_name aliases) good.named, without_default symbols default good.ruled)
  well_made formed good (IsForm.fixed {name = name} {aliases = aliases} new) = (new, full_of name (list_all is_full_name aliases) good.named, good.ruled)
  well_made {n = n} formed good (IsForm.again {name = name} h old) = (old, full_named n name h good.named)

  all_well_made : {nodes : List Node} {written : List Name} {ids : List ℕ} {fs : Forms} → is_schema nodes ≡ true → AreForms nodes written ids fs → AreWellMade written fs
  all_well_made formed no_branch = tt
  all_well_made {nodes = nodes} formed (branch {id = id} d ds) = (well_made formed (good_at nodes formed id) d, all_well_made formed ds)

  fields_well_made : {nodes : List Node} {written : List Name} {xs : List FieldNode} {fs : FieldForms} → is_schema nodes ≡ true → AreFieldForms nodes written xs fs → FieldsWellMade written fs
  fields_well_made formed no_field = tt
  fields_well_made {nodes = nodes} formed (next_field {x = x} d ds) = (well_made formed (good_at nodes formed x.node) d, fields_well_made formed ds)
