-- A row of the parents of what an item or a member fits covers the array or the object.
use Rattle.avro_schema_json.proofs.Words.{◌≡◌, ℕ, zero, suc, Bool, true, false, List, [], ◌∷◌, Option, Some, None, option_map, option_and_then, refl, sym, ap, subst, ◌∙◌, arith, Ordering, list_any, slice_cmp, and_parts, false≢true, is_eq-slice_cmp, bytes_eq-Decides, none-some, Data, Items, no_items, item, Members, no_members, member, get_item, get_member, Value, Values, value, entry, Node, FieldNode, node_at, items_node, values_node, default_of, each_default, entries_default, fields_default, default_under, object_default, member_keys, names_only, first_fit, only_if, own_default, place_of, owns, fits, Covers, own_ids, Label, HasField, IsPart, IsStep, has_place}
use Rattle.std.specs.Prelude.{is_some, slice_get, Contains, bytes_eq}
use Rattle.std.specs.Ordering.{nat_cmp, is_eq}
use Rattle.avro_schema.specs.Node.{branches_of}
use Rattle.avro_schema_json.proofs.DeclarationLaws.{default_under-found}
use Rattle.avro_schema_json.proofs.DefaultsSeen.{default-no_union, default-union}

-- ---- options

pub both : {A B C : Type 0} (first : Option A) (rest : Option B) (f : A → B → C) → is_some (option_and_then (λ v. option_map (f v) rest) first) ≡ true
    → (is_some first ≡ true) × (is_some rest ≡ true)
both first rest f h = grind arith

pub mapped : {A B : Type 0} (f : A → B) (o : Option A) → is_some (option_map f o) ≡ is_some o
mapped f o = grind arith

-- ---- branches

-- a default of a union is one of a branch
first-owns : (nodes : List Node) (d : Data) (k : ℕ) (ids : List ℕ) → is_some (first_fit nodes (own_default nodes d) k ids) ≡ true
    → (y : ℕ) × Contains ids y × (owns nodes d y ≡ true)
first-owns nodes d k [] h = absurd (false≢true h)
first-owns nodes d k (id ∷ ids) h = by (own_default nodes d (node_at nodes id)) refl (λ r. first-owns nodes d (suc k) ids r)
  where
    by : (o : Option Value) → own_default nodes d (node_at nodes id) ≡ o
        → (is_some (first_fit nodes (own_default nodes d) (suc k) ids) ≡ true → (y : ℕ) × Contains ids y × (owns nodes d y ≡ true))
        → (y : ℕ) × Contains (id ∷ ids) y × (owns nodes d y ≡ true)
    by (Some v) e others = (id, (0, omega arith, refl), ap is_some e)
    by None e others =
        let rest = others (rw e at h) in
        (rest.0, (suc rest.1.0, omega (arith, rest.1.1), rest.1.2), rest.2)

pub fits-owns : (nodes : List Node) (d : Data) (t : ℕ) → fits nodes d t ≡ true → (y : ℕ) × Contains (own_ids nodes t) y × (owns nodes d y ≡ true)
fits-owns nodes d t h = by (branches_of (node_at nodes t)) refl
  where
    by : (o : Option (List ℕ)) → branches_of (node_at nodes t) ≡ o → (y : ℕ) × Contains (own_ids nodes t) y × (owns nodes d y ≡ true)
    by None e = rw e (t, (0, omega arith, refl), ap is_some (sym (default-no_union nodes d (node_at nodes t) e)) ∙ h)
    by (Some ids) e = rw e (first-owns nodes d 0 ids (ap is_some (sym (default-union nodes d (node_at nodes t) ids e)) ∙ h))

-- the parents of what a part fits have what holds it
stepped : (nodes : List Node) (last : ℕ) (label : Label) (e : Data) (row parents : List ℕ) (m t : ℕ) → Covers nodes last e row
    → IsStep nodes last label row parents → IsPart label (node_at nodes m) t → fits nodes e t ≡ true → has_place parents (place_of last m) ≡ true
stepped nodes last label e row parents m t covers step part h = grind (arith, fits-owns)

-- ---- items

each-fits : (nodes : List Node) (ds : Items) (j : ℕ) (e : Data) (n : Node) → get_item j ds ≡ Some e → is_some (each_default nodes ds n) ≡ true
    → is_some (default_of nodes e n) ≡ true
each-fits nodes no_items j e n at h = absurd (none-some e at)
each-fits nodes (item d ds) zero e n at h =
    let same : d ≡ e = cc in
    subst (λ (x : Data). is_some (default_of nodes x n) ≡ true) same (both (default_of nodes d n) (each_default nodes ds n) value h).0
each-fits nodes (item d ds) (suc j) e n at h = each-fits nodes ds j e n at (both (default_of nodes d n) (each_default nodes ds n) value h).1

pub array-covered : (nodes : List Node) (last : ℕ) (ds : Items) (j : ℕ) (e : Data) (row parents : List ℕ) → get_item j ds ≡ Some e
    → Covers nodes last e row → IsStep nodes last Label.items row parents → Covers nodes last (Data.array ds) parents
array-covered nodes last ds j e row parents at covers step m h = by (items_node (node_at nodes m)) refl
  where
    by : (o : Option ℕ) → items_node (node_at nodes m) ≡ o → has_place parents (place_of last m) ≡ true
    by None is = absurd (false≢true (rw is at h))
    by (Some t) is =
        let each : is_some (each_default nodes ds (node_at nodes t)) ≡ true = sym (mapped Value.array (each_default nodes ds (node_at nodes t))) ∙ rw is at h in
        stepped nodes last Label.items e row parents m t covers step is (each-fits nodes ds j e (node_at nodes t) at each)

-- ---- members

entry-fits : (nodes : List Node) (ms : Members) (key : List ℕ) (e : Data) (n : Node) → get_member key ms ≡ Some e → is_some (entries_default nodes ms n) ≡ true
    → is_some (default_of nodes e n) ≡ true
entry-fits nodes no_members key e n at h = absurd (none-some e at)
entry-fits nodes (member k d ms) key e n at h = by_order (slice_cmp nat_cmp key k) refl (λ r. entry-fits nodes ms key e n r)
  where
    two : (is_some (default_of nodes d n) ≡ true) × (is_some (entries_default nodes ms n) ≡ true)
    two = both (default_of nodes d n) (entries_default nodes ms n) (entry k) h

    by_order : (o : Ordering) → slice_cmp nat_cmp key k ≡ o
        → (get_member key ms ≡ Some e → is_some (entries_default nodes ms n) ≡ true → is_some (default_of nodes e n) ≡ true)
        → is_some (default_of nodes e n) ≡ true
    by_order o is others = grind arith

field-fits : (nodes : List Node) (ms : Members) (fields : List FieldNode) (i : ℕ) (f : FieldNode) (e : Data) → slice_get fields i ≡ Some f
    → get_member f.name ms ≡ Some e → is_some (fields_default nodes (λ key. default_under nodes key ms) fields) ≡ true
    → is_some (default_of nodes e (node_at nodes f.node)) ≡ true
field-fits nodes ms [] i f e at here h = absurd (none-some f at)
field-fits nodes ms (g ∷ fields) zero f e at here h =
    let same : g ≡ f = cc in
    let first = (both (option_and_then (λ read. read (node_at nodes g.node)) (default_under nodes g.name ms)) (fields_default nodes (λ key. default_under nodes key ms) fields) value h).0 in
    let under : default_under nodes f.name ms ≡ Some (default_of nodes e) = default_under-found nodes f.name ms ∙ ap (option_map (default_of nodes)) here in
    rw (same, under) at first
field-fits nodes ms (g ∷ fields) (suc i) f e at here h =
    field-fits nodes ms fields i f e at here
    (both (option_and_then (λ read. read (node_at nodes g.node)) (default_under nodes g.name ms)) (fields_default nodes (λ key. default_under nodes key ms) fields) value h).1

-- ---- names of fields

pub some-field : (key : List ℕ) (fields : List FieldNode) → list_any (λ f. bytes_eq key f.name) fields ≡ true
    → (i : ℕ) × (f : FieldNode) × (slice_get fields i ≡ Some f) × (f.name ≡ key)
some-field key [] h = absurd (false≢true h)
some-field key (f ∷ fields) h = by (bytes_eq key f.name) refl (λ r. some-field key fields r)
  where
    by : (b : Bool) → bytes_eq key f.name ≡ b
        → (list_any (λ g. bytes_eq key g.name) fields ≡ true → (i : ℕ) × (g : FieldNode) × (slice_get fields i ≡ Some g) × (g.name ≡ key))
        → (i : ℕ) × (g : FieldNode) × (slice_get (f ∷ fields) i ≡ Some g) × (g.name ≡ key)
    by true e others = (0, f, refl, sym ((bytes_eq-Decides key f.name).0 e))
    by false e others = let rest = others (rw e at h) in (suc rest.0, rest.1, rest.2, rest.3)

pub named-field : (ms : Members) (fields : List FieldNode) (key : List ℕ) (e : Data) → names_only (member_keys ms) fields ≡ true → get_member key ms ≡ Some e
    → (i : ℕ) × (f : FieldNode) × (slice_get fields i ≡ Some f) × (f.name ≡ key)
named-field no_members fields key e h at = absurd (none-some e at)
named-field (member k d ms) fields key e h at = by_order (slice_cmp nat_cmp key k) refl (λ r q. named-field ms fields key e r q)
  where
    two : (list_any (λ f. bytes_eq k f.name) fields ≡ true) × (names_only (member_keys ms) fields ≡ true)
    two = and_parts (list_any (λ f. bytes_eq k f.name) fields) (names_only (member_keys ms) fields) h

    by_order : (o : Ordering) → slice_cmp nat_cmp key k ≡ o
        → (names_only (member_keys ms) fields ≡ true → get_member key ms ≡ Some e → (i : ℕ) × (f : FieldNode) × (slice_get fields i ≡ Some f) × (f.name ≡ key))
        → (i : ℕ) × (f : FieldNode) × (slice_get fields i ≡ Some f) × (f.name ≡ key)
    by_order Ordering.Equal is others =
        let same : key ≡ k = (bytes_eq-Decides key k).0 (sym (is_eq-slice_cmp key k) ∙ ap is_eq is) in
        let found = some-field k fields two.0 in
        (found.0, found.1, found.2, found.3 ∙ sym same)
    by_order _ is others = others two.1 (rw is at at)

pub only : {A : Type 0} (b : Bool) (x : A) → is_some (only_if b x) ≡ true → b ≡ true
only b x h = grind arith

pub kept : (all : Option Values) (b : Bool) → is_some (option_and_then (λ vs. only_if b (Value.record_of vs)) all) ≡ true → (is_some all ≡ true) × (b ≡ true)
kept all b h = grind (arith, only)

pub object-covered : (nodes : List Node) (last : ℕ) (ms : Members) (key : List ℕ) (e : Data) (row parents : List ℕ) → get_member key ms ≡ Some e
    → Covers nodes last e row → IsStep nodes last Label.values row parents → IsStep nodes last (Label.named key) row parents
    → Covers nodes last (Data.object ms) parents
object-covered nodes last ms key e row parents at covers values named m = by (node_at nodes m) refl
  where
    by : (n : Node) → node_at nodes m ≡ n
        → is_some (object_default nodes (λ x. entries_default nodes ms x) (λ k. default_under nodes k ms) (member_keys ms) n) ≡ true → has_place parents (place_of last m) ≡ true
    by (Node.map_of t) is h =
        let each : is_some (entries_default nodes ms (node_at nodes t)) ≡ true = sym (mapped Value.map_of (entries_default nodes ms (node_at nodes t))) ∙ h in
        stepped nodes last Label.values e row parents m t covers values (ap values_node is) (entry-fits nodes ms key e (node_at nodes t) at each)
    by (Node.record_of name aliases fields) is h =
        let all = kept (fields_default nodes (λ k. default_under nodes k ms) fields) (names_only (member_keys ms) fields) h in
        let f = named-field ms fields key e all.1 at in
        let field : HasField fields key f.1.node = record { field = f.1; at = f.0; there = f.2; named_so = f.3; node_is = refl } in
        let here : get_member f.1.name ms ≡ Some e = rw f.3 at in
        stepped nodes last (Label.named key) e row parents m f.1.node covers named (subst (λ (n : Node). IsPart (Label.named key) n f.1.node) (sym is) field)
        (field-fits nodes ms fields f.0 f.1 e f.2 here all.0)
    by _ is h = absurd (false≢true h)
