-- Each datum of a node in a closed set resolves.
use Rattle.std.proofs.Common.{◌≡◌, ℕ, zero, suc, true, false, ◌&&◌, List, [], ◌∷◌, Option, Some, None, Ok, length, drop, refl, sym, subst, arith}
use Rattle.std.proofs.lemmas.Bool.{false≢true}
use Rattle.std.proofs.lemmas.List.Folds.{list_all-map}
use Rattle.std.specs.Prelude.{slice_get, unwrap_or, option_and_then, nat_lt}
use Rattle.std.specs.List.{list_all}
use Rattle.avro_schema.specs.Value.{Value, Values, Entries, no_values, value, no_entries, entry, values_count}
use Rattle.avro_schema.specs.Node.{Node, FieldNode, node_at, branches_of, items_node, values_node, fields_of, symbols_of, field_ids}
use Rattle.avro_schema.specs.Fits.{fits, each_fits, entries_fit, fields_fit, is_some_and, is_count, are_bytes, is_bytes_node}
use Rattle.avro_schema.specs.WellFormed.{is_schema}
use Rattle.avro_compare.specs.Match.{match_within}
use Rattle.avro_compare.specs.Source.{reader_field, missing_field}
use Rattle.avro_compare.specs.Resolve.{inside, result_map, through, int_as, bytes_as, string_as, enum_as, part_at, symbol_at, fields_at, branch_node, record_or_missing, resolve, resolve_items, resolve_entries, resolve_sources}
use Rattle.avro_compare.specs.Children.{Pair, has_fault_of_kind, children_of, field_children}
use Rattle.avro_certificate.specs.Closed.{is_dead, is_closed, is_closed_at}
use Rattle.avro_certificate.specs.Compatible.{AreCompatible}
use Rattle.avro_certificate.proofs.public.Tests.{and_left, and_right, all_at}
use Rattle.avro_compare.proofs.public.NodeKinds.{is_plain_value, plain_node}
use Rattle.avro_certificate.proofs.public.Successes.{Succeeds, succeeds_inside, succeeds_map, succeeds_both, succeeds_int, succeeds_bytes, succeeds_string, succeeds_enum, succeeds_record, succeeds_sourced}
use Rattle.avro_certificate.proofs.public.SoundPairs.{stands, Reaches, sound, reach, source_child}

-- an array's items, in a reader's plain node that matches
array_into : (writer reader : List Node) (dead : List ℕ) (pairs : List Pair) (vs : Values) (steps w r a : ℕ) (q : Node) → branches_of q ≡ None
    → match_within steps writer reader (Node.array a) q ≡ true → list_all (stands dead pairs) (children_of writer reader w r (Node.array a) q) ≡ true
    → ((b : ℕ) → stands dead pairs (record { w = a; r = b }) ≡ true → Succeeds (resolve_items writer reader (node_at writer a) (node_at reader b) 0 vs))
    → Succeeds (result_map Value.array (resolve_items writer reader (node_at writer a) (part_at reader (items_node q)) 0 vs))
array_into writer reader dead pairs vs steps w r a q plain m s each = grind (arith, and_left, succeeds_map)

-- the same for any pair of nodes
succeeds_array : (writer reader : List Node) (dead : List ℕ) (pairs : List Pair) (vs : Values) (w : ℕ) (n q : Node)
    → Reaches writer reader dead pairs w n q → is_some_and (λ id. each_fits writer (node_at writer id) vs) (items_node n) ≡ true
    → ((a b : ℕ) → stands dead pairs (record { w = a; r = b }) ≡ true → each_fits writer (node_at writer a) vs ≡ true
    → Succeeds (resolve_items writer reader (node_at writer a) (node_at reader b) 0 vs))
    → Succeeds (through writer reader n q
    (λ m. result_map Value.array (resolve_items writer reader (part_at writer (items_node n)) (part_at reader (items_node m)) 0 vs)))
succeeds_array writer reader dead pairs vs w n q way h each = grind (arith, array_into)

-- a map's entries
map_into : (writer reader : List Node) (dead : List ℕ) (pairs : List Pair) (es : Entries) (steps w r a : ℕ) (q : Node) → branches_of q ≡ None
    → match_within steps writer reader (Node.map_of a) q ≡ true → list_all (stands dead pairs) (children_of writer reader w r (Node.map_of a) q) ≡ true
    → ((b : ℕ) → stands dead pairs (record { w = a; r = b }) ≡ true → Succeeds (resolve_entries writer reader (node_at writer a) (node_at reader b) 0 es))
    → Succeeds (result_map Value.map_of (resolve_entries writer reader (node_at writer a) (part_at reader (values_node q)) 0 es))
map_into writer reader dead pairs es steps w r a q plain m s each = grind (arith, and_left, succeeds_map)

-- the same for any pair of nodes
succeeds_map_of : (writer reader : List Node) (dead : List ℕ) (pairs : List Pair) (es : Entries) (w : ℕ) (n q : Node)
    → Reaches writer reader dead pairs w n q → is_some_and (λ id. entries_fit writer (node_at writer id) es) (values_node n) ≡ true
    → ((a b : ℕ) → stands dead pairs (record { w = a; r = b }) ≡ true → entries_fit writer (node_at writer a) es ≡ true
    → Succeeds (resolve_entries writer reader (node_at writer a) (node_at reader b) 0 es))
    → Succeeds (through writer reader n q
    (λ m. result_map Value.map_of (resolve_entries writer reader (part_at writer (values_node n)) (part_at reader (values_node m)) 0 es)))
succeeds_map_of writer reader dead pairs es w n q way h each = grind (arith, map_into)

-- a symbol
enum_into : (writer reader : List Node) (steps : ℕ) (n q : Node) (k : ℕ) → is_some_and (λ symbols. nat_lt k (length symbols)) (symbols_of n) ≡ true
    → branches_of q ≡ None → match_within steps writer reader n q ≡ true → has_fault_of_kind n q ≡ false → Succeeds (enum_as (symbol_at n k) q)
enum_into writer reader steps (Node.enum a xs symbols x) (Node.union ids) k h plain m faultless = absurd (grind arith)
enum_into writer reader steps (Node.enum a xs symbols x) (Node.enum b ys theirs y) k h plain m faultless = succeeds_enum symbols theirs k y h faultless
enum_into writer reader zero (Node.enum a xs symbols x) _ k h plain m faultless = absurd (false≢true m)
enum_into writer reader (suc steps) (Node.enum a xs symbols x) _ k h plain m faultless = absurd (false≢true m)
enum_into writer reader steps _ q k h plain m faultless = absurd (false≢true h)

-- a record's fields
record_into : (writer reader : List Node) (dead : List ℕ) (pairs : List Pair) (vs : Values) (steps w r : ℕ) (n q : Node)
    → is_some_and (λ fields. fields_fit writer (field_ids fields) vs) (fields_of n) ≡ true
    → branches_of q ≡ None → match_within steps writer reader n q ≡ true → has_fault_of_kind n q ≡ false
    → list_all (stands dead pairs) (children_of writer reader w r n q) ≡ true
    → ((fields theirs : List FieldNode) → list_all (stands dead pairs) (field_children fields theirs) ≡ true
    → fields_fit writer (field_ids fields) vs ≡ true → Succeeds (resolve_sources writer reader fields theirs 0 vs))
    → Succeeds (record_or_missing (fields_at n) (fields_at q) (missing_field (fields_at n) (fields_at q))
    (resolve_sources writer reader (fields_at n) (fields_at q) 0 vs))
record_into writer reader dead pairs vs steps w r n q h plain m faultless s each = grind (arith, succeeds_record)

-- the branch that a datum takes of the writer's union, with the same reader's node
union_into : (writer reader : List Node) (dead : List ℕ) (pairs : List Pair) (v : Value) (k w r : ℕ) (n q : Node)
    → is_some_and (λ id. fits writer (node_at writer id) v) (option_and_then (λ ids. slice_get ids k) (branches_of n)) ≡ true
    → list_all (stands dead pairs) (children_of writer reader w r n q) ≡ true
    → ((id : ℕ) → stands dead pairs (record { w = id; r = r }) ≡ true → fits writer (node_at writer id) v ≡ true
    → Succeeds (resolve writer reader (node_at writer id) (node_at reader r) v))
    → Succeeds (inside 0 (resolve writer reader (branch_node writer (unwrap_or (branches_of n) []) k) (node_at reader r) v))
union_into writer reader dead pairs v k w r (Node.union ids) q h s each = taken (slice_get ids k) refl h
  where
    child : (id : ℕ) → slice_get ids k ≡ Some id → stands dead pairs (record { w = id; r = r }) ≡ true
    child id here = grind (arith, all_at, list_all-map, stands)

    taken : (o : Option ℕ) → slice_get ids k ≡ o → is_some_and (λ id. fits writer (node_at writer id) v) o ≡ true
        → Succeeds (inside 0 (resolve writer reader (branch_node writer ids k) (node_at reader r) v))
    taken None here passes = absurd (false≢true passes)
    taken (Some id) here passes = rw here (succeeds_inside 0 (resolve writer reader (node_at writer id) (node_at reader r) v)
        (each id (child id here) passes))
union_into writer reader dead pairs v k w r _ q h s each = absurd (false≢true h)

-- what stands at an index begins the rest from there on
pub slice_get_of_drop : {A : Type 0} (xs ys : List A) (n : ℕ) (x : A) → drop n xs ≡ x ∷ ys → slice_get xs n ≡ Some x
slice_get_of_drop [] ys zero x e = absurd (grind arith)
slice_get_of_drop [] ys _ x e = absurd (grind arith)
slice_get_of_drop (z ∷ zs) ys zero x e = grind arith
slice_get_of_drop (z ∷ zs) ys (suc n) x e = slice_get_of_drop zs ys n x e

-- and the others follow
pub drop_more : {A : Type 0} (xs ys : List A) (n : ℕ) (x : A) → drop n xs ≡ x ∷ ys → drop (suc n) xs ≡ ys
drop_more [] ys zero x e = absurd (grind arith)
drop_more [] ys (suc n) x e = absurd (grind arith)
drop_more (z ∷ zs) ys zero x e = grind arith
drop_more (z ∷ zs) ys (suc n) x e = drop_more zs ys n x e

module _ (writer reader : List Node) (dead : List ℕ) (pairs : List Pair) (dead_set : is_dead writer dead ≡ true)
    (closed : list_all (is_closed_at writer reader dead pairs) pairs ≡ true) (formed : is_schema reader ≡ true) where
  -- the way of a datum that is no union's
  way_of : (v : Value) (w r : ℕ) → is_plain_value v ≡ true → stands dead pairs (record { w = w; r = r }) ≡ true
      → fits writer (node_at writer w) v ≡ true → Reaches writer reader dead pairs w (node_at writer w) (node_at reader r)
  way_of v w r plain s h = reach writer reader dead pairs dead_set closed formed v w r s h (plain_node writer (node_at writer w) v plain h)

  -- by induction on the datum: it resolves
  mutual
    pub resolves : (v : Value) (w r : ℕ) → stands dead pairs (record { w = w; r = r }) ≡ true → fits writer (node_at writer w) v ≡ true
        → Succeeds (resolve writer reader (node_at writer w) (node_at reader r) v)
    resolves Value.null w r s h = (way_of Value.null w r refl s h).gives (λ q. Ok Value.null) tt
    resolves (Value.boolean b) w r s h = (way_of (Value.boolean b) w r refl s h).gives (λ q. Ok (Value.boolean b)) tt
    resolves (Value.int i) w r s h =
        let way = way_of (Value.int i) w r refl s h in
        way.gives (int_as i) (succeeds_int i (node_at reader way.id))
    resolves (Value.long i) w r s h = (way_of (Value.long i) w r refl s h).gives (λ q. Ok (Value.long i)) tt
    resolves (Value.bytes b) w r s h =
        let way = way_of (Value.bytes b) w r refl s h in
        way.gives (bytes_as b) (succeeds_bytes b (node_at writer w) (node_at reader way.id)
        (and_left (is_bytes_node (node_at writer w)) (are_bytes b) h) way.faultless)
    resolves (Value.string t) w r s h =
        let way = way_of (Value.string t) w r refl s h in
        way.gives (string_as t) (succeeds_string t (node_at reader way.id))
    resolves (Value.array vs) w r s h = succeeds_array writer reader dead pairs vs w (node_at writer w) (node_at reader r) (way_of (Value.array vs) w r refl s h)
        (and_right (is_count (values_count vs)) (is_some_and (λ id. each_fits writer (node_at writer id) vs) (items_node (node_at writer w))) h)
        (λ a b t f. resolves_items vs a b 0 t f)
    resolves (Value.map_of es) w r s h = succeeds_map_of writer reader dead pairs es w (node_at writer w) (node_at reader r) (way_of (Value.map_of es) w r refl s h)
        (and_right _ (is_some_and (λ id. entries_fit writer (node_at writer id) es) (values_node (node_at writer w))) h)
        (λ a b t f. resolves_entries es a b 0 t f)
    resolves (Value.union k v) w r s h = union_into writer reader dead pairs v k w r (node_at writer w) (node_at reader r) h
        (sound writer reader dead pairs dead_set closed (Value.union k v) w r s h).children (λ id t f. resolves v id r t f)
    resolves (Value.record_of vs) w r s h =
        let way = way_of (Value.record_of vs) w r refl s h in
        way.gives _ (record_into writer reader dead pairs vs (length writer) w way.id (node_at writer w) (node_at reader way.id) h
        way.plain way.matches way.faultless way.children
        (λ fields theirs t f. resolves_sources vs fields theirs 0 (field_ids fields) refl t f))
    resolves (Value.enum k) w r s h =
        let way = way_of (Value.enum k) w r refl s h in
        way.gives (enum_as (symbol_at (node_at writer w) k))
        (enum_into writer reader (length writer) (node_at writer w) (node_at reader way.id) k h way.plain way.matches way.faultless)
    resolves (Value.fixed b) w r s h = (way_of (Value.fixed b) w r refl s h).gives (λ q. Ok (Value.fixed b)) tt

    -- the items
    resolves_items : (vs : Values) (w r index : ℕ) → stands dead pairs (record { w = w; r = r }) ≡ true → each_fits writer (node_at writer w) vs ≡ true
        → Succeeds (resolve_items writer reader (node_at writer w) (node_at reader r) index vs)
    resolves_items no_values w r index s h = tt
    resolves_items (value v vs) w r index s h =
        succeeds_both value (inside index (resolve writer reader (node_at writer w) (node_at reader r) v))
        (resolve_items writer reader (node_at writer w) (node_at reader r) (suc index) vs)
        (succeeds_inside index (resolve writer reader (node_at writer w) (node_at reader r) v)
        (resolves v w r s (and_left (fits writer (node_at writer w) v) (each_fits writer (node_at writer w) vs) h)))
        (resolves_items vs w r (suc index) s (and_right (fits writer (node_at writer w) v) (each_fits writer (node_at writer w) vs) h))

    -- the entries
    resolves_entries : (es : Entries) (w r index : ℕ) → stands dead pairs (record { w = w; r = r }) ≡ true → entries_fit writer (node_at writer w) es ≡ true
        → Succeeds (resolve_entries writer reader (node_at writer w) (node_at reader r) index es)
    resolves_entries no_entries w r index s h = tt
    resolves_entries (entry k v es) w r index s h =
        succeeds_both (entry k) (inside index (resolve writer reader (node_at writer w) (node_at reader r) v))
        (resolve_entries writer reader (node_at writer w) (node_at reader r) (suc index) es)
        (succeeds_inside index (resolve writer reader (node_at writer w) (node_at reader r) v)
        (resolves v w r s (and_left (fits writer (node_at writer w) v) (entries_fit writer (node_at writer w) es) h)))
        (resolves_entries es w r (suc index) s (and_right (fits writer (node_at writer w) v) (entries_fit writer (node_at writer w) es) h))

    -- the writer's fields from an index on
    resolves_sources : (vs : Values) (fields theirs : List FieldNode) (index : ℕ) (ids : List ℕ) → drop index (field_ids fields) ≡ ids
        → list_all (stands dead pairs) (field_children fields theirs) ≡ true → fields_fit writer ids vs ≡ true
        → Succeeds (resolve_sources writer reader fields theirs index vs)
    resolves_sources no_values fields theirs index ids e s h = tt
    resolves_sources (value v vs) fields theirs index [] e s h = absurd (false≢true h)
    resolves_sources (value v vs) fields theirs index (p ∷ ps) e s h =
        succeeds_sourced (reader_field fields theirs index) index _ (resolve_sources writer reader fields theirs (suc index) vs)
        (λ f here. resolves v (unwrap_or (slice_get (field_ids fields) index) 0) f.node (source_child (stands dead pairs) fields theirs index f here s)
        (subst (λ (o : Option ℕ). fits writer (node_at writer (unwrap_or o 0)) v ≡ true) (sym (slice_get_of_drop (field_ids fields) ps index p e))
        (and_left (fits writer (node_at writer p) v) (fields_fit writer ps vs) h)))
        (resolves_sources vs fields theirs (suc index) ps (drop_more (field_ids fields) ps index p e) s
        (and_right (fits writer (node_at writer p) v) (fields_fit writer ps vs) h))

-- a closed set shows that each datum of the writer's is one of the reader's
pub closed_compatible : (writer reader : List Node) (dead : List ℕ) (pairs : List Pair) → is_schema reader ≡ true
    → is_closed writer reader dead pairs ≡ true → AreCompatible writer reader
closed_compatible writer reader dead pairs formed h v fault errs =
    subst Succeeds errs.faulty (resolves writer reader dead pairs dead_set closed formed v 0 0 root_stands errs.fitting)
  where
    front : (is_dead writer dead && stands dead pairs (record { w = 0; r = 0 })) ≡ true
    front = and_left (is_dead writer dead && stands dead pairs (record { w = 0; r = 0 })) (list_all (is_closed_at writer reader dead pairs) pairs) h

    closed : list_all (is_closed_at writer reader dead pairs) pairs ≡ true
    closed = and_right (is_dead writer dead && stands dead pairs (record { w = 0; r = 0 })) (list_all (is_closed_at writer reader dead pairs) pairs) h

    dead_set : is_dead writer dead ≡ true
    dead_set = and_left (is_dead writer dead) (stands dead pairs (record { w = 0; r = 0 })) front

    root_stands : stands dead pairs (record { w = 0; r = 0 }) ≡ true
    root_stands = and_right (is_dead writer dead) (stands dead pairs (record { w = 0; r = 0 })) front
