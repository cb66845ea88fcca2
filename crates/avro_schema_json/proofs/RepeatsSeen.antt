-- A union in which a branch occurs twice, and a record that has two fields of one name, is a fault of the nodes with their defaults.
use Rattle.avro_schema_json.proofs.Words.{◌≡◌, ℕ, zero, suc, ◌+◌, ◌<◌, ◌≤◌, Bool, true, false, not, ◌&&◌, cond, List, [], ◌∷◌, ◌++◌, length, map, drop, add-one, filter_map, Option, Some, None, get_or, ◌⊎◌, refl, sym, ap, subst, ◌∙◌, arith, nat_lt, slice_get, is_some, bytes_eq, flat_map, nat_cmp, BTreeSet, Numbered, list_all, list_any, AllByRecursion, and_parts, or_parts, false≢true, not-true, false_from_ne_true, length-map, list_any-append, bytes_eq-Decides, Name, same_name-self, are_distinct, invalid_union, duplicate_field, breaks, has_fields_rule, IsThere, Node, FieldNode, node_at, node_name, ids_of, field_names, is_edge, is_union, BranchKind, branch_kind, same_kind, broken-there, RawField, RawNode, field_without_default, node_without_defaults, completed_field, completed_node, without_defaults, all_without_defaults, KeptNode, kind_code, code_by, Repeats, SomeRepeats, RepeatsName, RecordRepeatsName, SomeRepeatsName, AreFieldsDistinct, or-true, label_of, NodeId}
use Rattle.std.specs.BTreeSet.{contains}
use Rattle.avro_schema.specs.Node.{branches_of}
use Rattle.avro_schema.specs.SeenKind.{kind_at, has_kind}
use Rattle.std.specs.List.{IsDistinct}
use Rattle.avro_schema_json.proofs.DefaultSteps.{drop_at}
use Rattle.avro_schema_json.proofs.DefaultsSeen.{drop_past}
use Rattle.avro_schema_json.proofs.EachSeen.{mapped-get, put-all, exact-texts}
use Rattle.avro_schema_json.proofs.NodesSeen.{node_here, as_many}

-- ---- one code, one kind

same_kind-self : (k : BranchKind) → same_kind k k ≡ true
same_kind-self k = grind (arith, same_name-self)

same_code : (x y : ℕ) (k j : BranchKind) → (x ≡ y → k ≡ j) → kind_code x (Some k) ≡ kind_code y (Some j) → k ≡ j
same_code x y k j alike h = grind arith

has_some : {A : Type 0} (o : Option A) → is_some o ≡ true → (x : A) × (o ≡ Some x)
has_some o h = grind arith

module _ (nodes : List Node) where
  kinds_alike : (x y : ℕ) (k j : BranchKind) → kind_at nodes x ≡ Some k → kind_at nodes y ≡ Some j → code_by nodes x ≡ code_by nodes y → same_kind k j ≡ true
  kinds_alike x y k j e f h = grind (arith, same_code, same_kind-self)

  -- the first of branches that have kinds
  first_kind : (z : ℕ) (zs : List ℕ) → list_all (has_kind nodes) (z ∷ zs) ≡ true
      → (k : BranchKind) × (kind_at nodes z ≡ Some k) × (list_all (has_kind nodes) zs ≡ true) × (filter_map (kind_at nodes) (z ∷ zs) ≡ k ∷ filter_map (kind_at nodes) zs)
  first_kind z zs some = grind (arith, and_parts, has_some)

  -- no later branch is of the kind of one
  none_later : (y x : ℕ) (k : BranchKind) (xs : List ℕ) (i : ℕ) → kind_at nodes y ≡ Some k → list_all (has_kind nodes) xs ≡ true
      → list_any (same_kind k) (filter_map (kind_at nodes) xs) ≡ false → slice_get xs i ≡ Some x → code_by nodes x ≡ code_by nodes y → ⊥
  none_later y x k [] i e some none at h = absurd cc
  none_later y x k (z ∷ zs) i e some none at h =
      let first = first_kind z zs some in
      let both = or_parts (same_kind k first.0) (list_any (same_kind k) (filter_map (kind_at nodes) zs)) (ap (list_any (same_kind k)) (sym first.3) ∙ none) in
      by i at first.0 first.1 both.0 (λ m there. none_later y x k zs m e first.2 both.1 there h)
    where
      by : (i : ℕ) → slice_get (z ∷ zs) i ≡ Some x → (j : BranchKind) → kind_at nodes z ≡ Some j → same_kind k j ≡ false → ((m : ℕ) → slice_get zs m ≡ Some x → ⊥) → ⊥
      by zero here j is other later = let same : x ≡ z = cc in false≢true (sym other ∙ kinds_alike y z k j e is (sym h ∙ ap (code_by nodes) same))
      by (suc m) here j is other later = later m here

  distinct_codes : (xs : List ℕ) (i j x y : ℕ) → list_all (has_kind nodes) xs ≡ true → are_distinct same_kind (filter_map (kind_at nodes) xs) ≡ true
      → j < i → slice_get xs i ≡ Some x → slice_get xs j ≡ Some y → code_by nodes x ≡ code_by nodes y → ⊥
  distinct_codes [] i j x y some h below at_x at_y same = absurd cc
  distinct_codes (z ∷ zs) zero j x y some h below at_x at_y same = absurd (omega (arith, below))
  distinct_codes (z ∷ zs) (suc i) j x y some h below at_x at_y same =
      let first = first_kind z zs some in
      let rest = filter_map (kind_at nodes) zs in
      let both = and_parts (not (list_any (same_kind first.0) rest)) (are_distinct same_kind rest) (ap (are_distinct same_kind) (sym first.3) ∙ h) in
      by j below at_y first.0 first.1 first.2 (not-true (list_any (same_kind first.0) rest) both.0)
      (λ m less there. distinct_codes zs i m x y first.2 both.1 less at_x there same)
    where
      by : (j : ℕ) → j < suc i → slice_get (z ∷ zs) j ≡ Some y → (k : BranchKind) → kind_at nodes z ≡ Some k → list_all (has_kind nodes) zs ≡ true
          → list_any (same_kind k) (filter_map (kind_at nodes) zs) ≡ false → ((m : ℕ) → m < i → slice_get zs m ≡ Some y → ⊥) → ⊥
      by zero less here k is all none later = let first : y ≡ z = cc in none_later z x k zs i is all none at_x (same ∙ ap (code_by nodes) first)
      by (suc m) less here k is all none later = later m (omega (arith, less)) here

  -- where a branch occurs twice there is no union
  repeated_branch : (ids : List ℕ) → Repeats nodes ids → is_union nodes ids ≡ false
  repeated_branch ids r =
      false_from_ne_true (is_union nodes ids) (λ h.
      let all = and_parts (nat_lt 0 (length ids) && list_all (has_kind nodes) ids) (are_distinct same_kind (filter_map (kind_at nodes) ids)) h in
      let some = and_parts (nat_lt 0 (length ids)) (list_all (has_kind nodes) ids) all.0 in
      distinct_codes ids r.0 r.1 r.2 r.3 some.1 all.1 r.4 r.5 r.6 r.7)

-- ---- from the nodes without their defaults to those with them

-- what is asked of a node, but for its fields, is the same of the completed one
completed_at : {A : Type 0} (f : Node → A) → ((name : Name) (aliases : List Name) (gs hs : List FieldNode) → f (Node.record_of name aliases gs) ≡ f (Node.record_of name aliases hs))
    → (nodes : List Node) (raws : List RawNode) (m : ℕ) → f (node_at (map (completed_node nodes) raws) m) ≡ f (node_at (map node_without_defaults raws) m)
completed_at f alike nodes [] m = refl
completed_at f alike nodes (RawNode.plain n ∷ raws) zero = refl
completed_at f alike nodes (RawNode.record_of name aliases fields ∷ raws) zero = alike name aliases (map (completed_field nodes) fields) (map field_without_default fields)
completed_at f alike nodes (_ ∷ raws) (suc m) = completed_at f alike nodes raws m

completed_edge : (nodes : List Node) (raws : List RawNode) (m p : ℕ) → is_edge (map (completed_node nodes) raws) m p ≡ is_edge (map node_without_defaults raws) m p
completed_edge nodes raws m p =
    let count : length (map (completed_node nodes) raws) ≡ length (map node_without_defaults raws) = simp length-map in
    rw (count, completed_at node_name (λ name aliases gs hs. refl) nodes raws p) refl

completed_edges : (nodes : List Node) (raws : List RawNode) (m : ℕ) (ids : List ℕ)
    → list_all (is_edge (map (completed_node nodes) raws) m) ids ≡ list_all (is_edge (map node_without_defaults raws) m) ids
completed_edges nodes raws m [] = refl
completed_edges nodes raws m (p ∷ ids) = rw (completed_edge nodes raws m p, completed_edges nodes raws m ids) refl

no_union : (nodes : List Node) (id : ℕ) (n : Node) (ids : List ℕ) → branches_of n ≡ Some ids → list_all (is_edge nodes id) ids ≡ true
    → is_union nodes ids ≡ false → breaks invalid_union nodes id n ≡ true
no_union nodes id n ids is edges h = grind arith

pub repeated-there : (nodes : List Node) (raws : List RawNode) → SomeRepeats (map node_without_defaults raws) → IsThere invalid_union (map (completed_node nodes) raws)
repeated-there nodes raws some =
    let r = some.5 in
    let completed = map (completed_node nodes) raws in
    let code : (p : ℕ) → code_by completed p ≡ code_by (map node_without_defaults raws) p = λ p. ap (kind_code p) (completed_at branch_kind (λ name aliases gs hs. refl) nodes raws p) in
    let count : length completed ≡ length (map node_without_defaults raws) = simp length-map in
    let broken = repeated_branch completed some.1 (r.0, r.1, r.2, r.3, r.4, r.5, r.6, code r.2 ∙ r.7 ∙ sym (code r.3)) in
    broken-there invalid_union completed some.0 (rw count some.2)
    (no_union completed some.0 (node_at completed some.0) some.1 (completed_at branches_of (λ name aliases gs hs. refl) nodes raws some.0 ∙ some.3) (completed_edges nodes raws some.0 some.1 ∙ some.4) broken)

-- ---- as they are looked for

-- each code is that of a branch before this one
abbrev pub AreCodes : List Node → List NodeId → BTreeSet ℕ → ℕ → Type 0
AreCodes nodes ids codes i = (m : ℕ) → contains nat_cmp codes m ≡ true
    → (j : ℕ) × (y : ℕ) × (j < i) × (slice_get (ids_of ids) j ≡ Some y) × (code_by nodes y ≡ m)

id_at : (ids : List NodeId) (i : ℕ) (id : NodeId) → i < length ids → slice_get (ids_of ids) i ≡ Some (get_or ids i id).0
id_at = mapped-get (λ (id : NodeId). id.0)

pub repeat-found : (nodes : List Node) (ids : List NodeId) (codes : BTreeSet ℕ) (i : ℕ) (id : NodeId) (code : ℕ) → i < length ids
    → code ≡ code_by nodes (get_or ids i id).0 → contains nat_cmp codes code ≡ true → AreCodes nodes ids codes i → Repeats nodes (ids_of ids)
repeat-found nodes ids codes i id code below is there are = grind (arith, id_at)

pub repeat-next : (nodes : List Node) (ids : List NodeId) (old new : BTreeSet ℕ) (i : ℕ) (id : NodeId) (code : ℕ) → i < length ids
    → code ≡ code_by nodes (get_or ids i id).0 → ((m : ℕ) → contains nat_cmp new m ≡ true → (contains nat_cmp old m ≡ true) ⊎ (m ≡ code))
    → AreCodes nodes ids old i → AreCodes nodes ids new (i + 1)
repeat-next nodes ids old new i id code below is added are = grind (arith, id_at)

pub some-repeats : (raws : List KeptNode) (i : ℕ) (raw : KeptNode) (ids : List ℕ) → i < length raws → raw ≡ get_or raws i raw
    → Some ids ≡ branches_of (without_defaults raw) → list_all (is_edge (all_without_defaults raws) i) ids ≡ true → Repeats (all_without_defaults raws) ids
    → SomeRepeats (all_without_defaults raws)
some-repeats raws i raw ids below at are edges repeats = grind (arith, as_many, node_here)

-- ---- names of fields

any_behind : {A : Type 0} (p : A → Bool) (xs ys : List A) → list_any p ys ≡ true → list_any p (xs ++ ys) ≡ true
any_behind p xs ys h = rw (list_any-append p xs ys, h) (or-true (list_any p xs))

distinct_behind : {A : Type 0} (equal : A → A → Bool) (xs ys : List A) → are_distinct equal ys ≡ false → are_distinct equal (xs ++ ys) ≡ false
distinct_behind equal [] ys h = h
distinct_behind equal (x ∷ xs) ys h = false_from_ne_true _ (λ all.
    false≢true (sym (distinct_behind equal xs ys h) ∙ (and_parts (not (list_any (equal x) (xs ++ ys))) (are_distinct equal (xs ++ ys)) all).1))

name_among : (fields : List FieldNode) (i : ℕ) (f : FieldNode) (name : List ℕ) → slice_get fields i ≡ Some f → name ≡ f.name
    → list_any (bytes_eq name) (flat_map field_names fields) ≡ true
name_among [] i f name at same = cc
name_among (g ∷ fields) zero f name at same =
    let here : g ≡ f = cc in
    let equal : bytes_eq name g.name ≡ true = (bytes_eq-Decides name g.name).1 (same ∙ ap (λ (h : FieldNode). h.name) (sym here)) in
    rw equal refl
name_among (g ∷ fields) (suc i) f name at same =
    any_behind (bytes_eq name) (field_names g) (flat_map field_names fields) (name_among fields i f name at same)

name_twice : (fields : List FieldNode) (i j : ℕ) (f g : FieldNode) → j < i → slice_get fields i ≡ Some f → slice_get fields j ≡ Some g → f.name ≡ g.name
    → are_distinct bytes_eq (flat_map field_names fields) ≡ false
name_twice [] i j f g below here before same = cc
name_twice (h ∷ fields) zero j f g below here before same = absurd (omega (arith, below))
name_twice (h ∷ fields) (suc i) zero f g below here before same =
    let first : h ≡ g = cc in
    let there : list_any (bytes_eq h.name) (h.aliases ++ flat_map field_names fields) ≡ true =
    any_behind (bytes_eq h.name) h.aliases (flat_map field_names fields)
    (name_among fields i f h.name here (ap (λ (k : FieldNode). k.name) first ∙ sym same)) in
    rw there refl
name_twice (h ∷ fields) (suc i) (suc j) f g below here before same =
    distinct_behind bytes_eq (field_names h) (flat_map field_names fields) (name_twice fields i j f g (omega (arith, below)) here before same)

completed_names : (nodes : List Node) (fields : List RawField)
    → flat_map field_names (map (completed_field nodes) fields) ≡ flat_map field_names (map field_without_default fields)
completed_names nodes [] = refl
completed_names nodes (f ∷ fields) = rw (completed_names nodes fields) refl

node_breaks : (n : Node) → RecordRepeatsName n → has_fields_rule n ≡ false
node_breaks n r = grind (arith, name_twice)

names_break : (nodes : List Node) (raws : List RawNode) (m : ℕ) → RecordRepeatsName (node_at (map node_without_defaults raws) m)
    → has_fields_rule (node_at (map (completed_node nodes) raws) m) ≡ false
names_break nodes [] m r = absurd r
names_break nodes (RawNode.plain n ∷ raws) zero r = node_breaks n r
names_break nodes (RawNode.record_of name aliases fields ∷ raws) zero r =
    rw (completed_names nodes fields) (name_twice (map field_without_default fields) r.0 r.1 r.2 r.3 r.4 r.5 r.6 r.7)
names_break nodes (_ ∷ raws) (suc m) r = names_break nodes raws m r

pub repeated_field-there : (nodes : List Node) (raws : List RawNode) → SomeRepeatsName (map node_without_defaults raws) → IsThere duplicate_field (map (completed_node nodes) raws)
repeated_field-there nodes raws some =
    let completed = map (completed_node nodes) raws in
    let count : length completed ≡ length (map node_without_defaults raws) = simp length-map in
    broken-there duplicate_field completed some.0 (rw count some.1) (ap not (names_break nodes raws some.0 some.2))

-- each name is that of a field before this one
abbrev pub AreFieldNames : List FieldNode → Numbered → ℕ → Type 0
AreFieldNames fields names i =
    (word : List ℕ) (j : ℕ) → label_of names word ≡ Some j → (f : FieldNode) × (j < i) × (slice_get fields j ≡ Some f) × (word ≡ f.name)

pub names-next : (fields : List FieldNode) (old new : Numbered) (i : ℕ) (f : FieldNode) (name : List ℕ) → slice_get fields i ≡ Some f → name ≡ f.name
    → ((word : List ℕ) → label_of new word ≡ cond (bytes_eq name word) (Some i) (label_of old word)) → AreFieldNames fields old i → AreFieldNames fields new (i + 1)
names-next fields old new i f name at is put are =
    put-all bytes_eq exact-texts (λ word j. (g : FieldNode) × (j < i + 1) × (slice_get fields j ≡ Some g) × (word ≡ g.name)) (label_of old) (label_of new) name i put
    (λ word j found. let was = are word j found in (was.0, omega (arith, was.1), was.2, was.3)) (f, omega arith, at, is)

pub name-found : (fields : List FieldNode) (names : Numbered) (i : ℕ) (f : FieldNode) (word : List ℕ) → slice_get fields i ≡ Some f → word ≡ f.name
    → is_some (label_of names word) ≡ true → AreFieldNames fields names i → RepeatsName fields
name-found fields names i f word at is there are = grind arith

-- the fields that are left have different names, none of which was kept
abbrev pub AreNew : Numbered → List FieldNode → Type 0
AreNew names fields = AreFieldsDistinct fields × AllByRecursion (λ word. label_of names word ≡ None) (map (λ (f : FieldNode). f.name) fields)

apart : (old new : Numbered) (name : List ℕ) (i : ℕ) → ((word : List ℕ) → label_of new word ≡ cond (bytes_eq name word) (Some i) (label_of old word))
    → (words : List (List ℕ)) → AllByRecursion (λ word. label_of new word ≡ None) words
    → AllByRecursion (λ word. bytes_eq name word ≡ false) words × AllByRecursion (λ word. label_of old word ≡ None) words
apart old new name i put [] fresh = (tt, tt)
apart old new name i put (word ∷ words) fresh =
    let first = by (bytes_eq name word) refl in
    let rest = apart old new name i put words fresh.1 in
    ((first.0, rest.0), (first.1, rest.1))
  where
    by : (b : Bool) → bytes_eq name word ≡ b → (bytes_eq name word ≡ false) × (label_of old word ≡ None)
    by b e = grind arith

pub new-next : (fields : List FieldNode) (old new : Numbered) (i : ℕ) (f : FieldNode) (name : List ℕ) → slice_get fields i ≡ Some f → name ≡ f.name
    → label_of old name ≡ None → ((word : List ℕ) → label_of new word ≡ cond (bytes_eq name word) (Some i) (label_of old word))
    → AreNew new (drop (i + 1) fields) → AreNew old (drop i fields)
unfolding IsDistinct
new-next fields old new i f name at is fresh put left =
    let here : drop i fields ≡ f ∷ drop (i + 1) fields = rw add-one (drop_at fields i f at) in
    let others = apart old new f.name i (subst (λ (n : List ℕ). (word : List ℕ) → label_of new word ≡ cond (bytes_eq n word) (Some i) (label_of old word)) is put) _ left.1 in
    rw here ((others.0, left.0), (subst (λ (n : List ℕ). label_of old n ≡ None) is fresh, others.1))

pub none-left : (fields : List FieldNode) (names : Numbered) (i : ℕ) → length fields ≤ i → AreNew names (drop i fields)
unfolding IsDistinct
none-left fields names i past = rw (drop_past fields i past) (tt, tt)

pub some-names : (raws : List KeptNode) (i : ℕ) (raw : KeptNode) → i < length raws → raw ≡ get_or raws i raw → RecordRepeatsName (without_defaults raw)
    → SomeRepeatsName (all_without_defaults raws)
some-names raws i raw below at repeats = grind (arith, as_many, node_here)
