-- Data of nodes, as they are opened.
use Rattle.std.proofs.Common.{◌≡◌, ◌<◌, ◌≤◌, ℕ, zero, suc, List, [], ◌∷◌, get_or, length, map, take, Some, inl, inr, refl, sym, ap, subst, ◌∙◌, arith}
use Rattle.std.specs.List.{AllByRecursion}
use Rattle.std.specs.Prelude.{String, slice_get, string_bytes, option_map, unwrap_or}
use Rattle.std.specs.declared.alloc.Global.{Global}
use Rattle.std.specs.Global.{Box}
use Rattle.avro_schema.specs.Seen.{entries_of, seen_fields, value_of, values_of, view_step}
use Rattle.avro_schema.specs.declared.datum.Datum.TheOpen.{Datum-F}
use Rattle.avro_schema.specs.declared.datum.Datum.TheViews as view
use Rattle.avro_schema.specs.declared.datum.Datum.TheVariants as variants
use Rattle.avro_schema.specs.declared.datum.Datum.TheFolds.{fold-roll-Datum}
use Rattle.avro_schema.specs.declared.datum.Datum.{Datum}
use Rattle.avro_schema.specs.declared.schema.Field.{Field}
use Rattle.std.proofs.lemmas.List.{length-map, length-take-le}
use Rattle.std.proofs.lemmas.Option.{slice_get-map}
use Rattle.avro_schema.proofs.public.DatumViews.{value_of-Map}
use Rattle.avro_schema.specs.Node.{Node, node_at, items_node, values_node}
use Rattle.avro_schema.specs.Value.{Value, Values, depth, values_depth, entries_depth, no_values, value, Entries, values_count, entries_count, keys_of}
use Rattle.serde_json.specs.Data.{Data, Items, array, object, no_members}
use Rattle.serde_json.specs.Written.{compact_text}
use Rattle.avro_display.specs.Displayed.{EntriesAre, ItemsAre, item_at, items_count, object_text}
use Rattle.avro_display.specs.DisplayTree.{display_fields, display_items, display_tree, part_at, record_fields}
use Rattle.avro_display.specs.Order.{put_each}
use Rattle.avro_display.specs.Plain.{PlainPart, plain_entry, plain_item, plain_member, plain_node, plain_value}
use Rattle.avro_display.specs.Table.{AreMembers, entry_at, IsMember, entry_tree, field_id, field_tree, place_of, value_at}
use Rattle.avro_display.specs.declared.member.Member.{Member}
use Rattle.avro_display.proofs.public.Opened.{count_keys, value_of-Array, value_of-Record}
use Rattle.avro_display.proofs.public.Ordering.{all_entries, all_members, first_fields, name_of, ordered_fields}

pub value_of-Union : (k : ℕ) (b : Box Datum) → value_of (view.Union k b) ≡ Value.union k (value_of b.value)
value_of-Union k b = ap value_of (sym (variants.rolls-Union k b)) ∙ fold-roll-Datum Value view_step (Datum-F.Union k b)

module _ (nodes : List Node) (n : Node) where
  pub count_items : (vs : Values) → items_count (display_items nodes n vs) ≡ values_count vs
  count_items no_values = refl
  count_items (value v vs) = ap suc (count_items vs)

  pub each_item : (vs : Values) (i : ℕ) → i < values_count vs → item_at (display_items nodes n vs) i ≡ display_tree nodes n (value_at vs i)
  each_item no_values i within = absurd (omega (arith, within))
  each_item (value v vs) zero within = refl
  each_item (value v vs) (suc i) within = each_item vs i (omega (arith, within))

some_taken : {A : Type 0} (n : ℕ) (xs : List A) (i : ℕ) (x : A) → slice_get (take n xs) i ≡ Some x → (i < n) × (slice_get xs i ≡ Some x)
some_taken zero xs i x got = absurd (cc (got))
some_taken (suc n) [] i x got = absurd (cc (got))
some_taken (suc n) (y ∷ xs) zero x got = (omega arith, got)
some_taken (suc n) (y ∷ xs) (suc i) x got = let next = some_taken n xs i x got in (omega (arith, next.0), next.1)

all_map : {A : Type 0} (P Q : A → Type 0) → ((x : A) → P x → Q x) → (xs : List A) → AllByRecursion P xs → AllByRecursion Q xs
all_map P Q f [] all = tt
all_map P Q f (x ∷ xs) all = (f x all.0, all_map P Q f xs all.1)

module _ (nodes : List Node) (p : PlainPart) where
  pub opened_items : (vs : Values) (n : ℕ) (d : Data) → plain_value p ≡ Value.array vs → n ≡ values_count vs → d ≡ display_tree nodes (plain_node nodes p) (plain_value p)
      → (ds : Items) × (d ≡ array ds) × ItemsAre (plain_item nodes) p n ds
  opened_items vs n d is count shown =
      let item = part_at nodes (items_node (plain_node nodes p)) in (
        display_items nodes item vs,
        rw is at shown,
        (count_items nodes item vs ∙ sym count, λ i within. let here : i < values_count vs = omega arith in (vs, is, here, each_item nodes item vs i here)),
      )

  pub opened_entries : (es : Entries) (n : ℕ) (d : Data) → plain_value p ≡ Value.map_of es → n ≡ entries_count es → d ≡ display_tree nodes (plain_node nodes p) (plain_value p)
      → (keys : List (List ℕ)) × (tree : ℕ → Data) × (d ≡ object (put_each tree 0 keys no_members)) × EntriesAre (plain_entry nodes) p n keys tree
  opened_entries es n d is count shown =
      let item = part_at nodes (values_node (plain_node nodes p)) in (
        keys_of es,
        entry_tree nodes item es,
        rw all_entries (rw is at shown),
        (count_keys es ∙ sym count, λ i k got. inl (es, is, got, refl)),
      )

  pub opened_members : (vs : Values) (d : Data) (ms : List Member) → let fields = record_fields (plain_node nodes p) in plain_value p ≡ Value.record_of vs → length fields ≤ values_count vs
      → d ≡ object (display_fields nodes fields vs no_members) → AreMembers fields ms
      → (tree : ℕ → Data) × (compact_text d ≡ object_text tree ms) × AllByRecursion (λ m. plain_member nodes p m (tree m.field)) ms
  opened_members vs d ms is enough shown are =
      let fields = record_fields (plain_node nodes p) in
      let tree = field_tree nodes fields vs in (
        tree,
        ap compact_text (shown ∙ ap object (sym (ordered_fields nodes fields vs (map (place_of fields) ms) enough are.order))) ∙ all_members fields tree ms are.heads,
        all_map (IsMember fields) (λ m. plain_member nodes p m (tree m.field))
            (λ m good. (vs, is, omega (arith, good.0, enough), ap (λ (k : ℕ). display_tree nodes (node_at nodes k) (value_at vs m.field)) (sym good.1))) ms are.each,
      )

  pub opened_first : (vs : Values) (n : ℕ) (d : Data) → let fields = record_fields (plain_node nodes p) in plain_value p ≡ Value.record_of vs → n ≡ values_count vs → n ≤ length fields
      → d ≡ object (display_fields nodes fields vs no_members)
      → (keys : List (List ℕ)) × (tree : ℕ → Data) × (d ≡ object (put_each tree 0 keys no_members)) × EntriesAre (plain_entry nodes) p n keys tree
  opened_first vs n d is count few shown =
      let fields = record_fields (plain_node nodes p) in
      let names = map name_of fields in
      let all : n ≤ length names = subst (λ (m : ℕ). n ≤ m) (sym (length-map fields name_of)) few in (
        take n names,
        field_tree nodes fields vs,
        shown ∙ ap object (sym (ap (λ (m : ℕ). put_each (field_tree nodes fields vs) 0 (take m names) no_members) count ∙ first_fields nodes fields vs)),
        (
          length-take-le n names all,
          λ i k got. let there = some_taken n names i k got in inr (vs, is, subst (λ (m : ℕ). i < m) count there.0, there.1, refl),
        ),
      )

pub count_is : (ds : List Datum) → values_count (values_of ds) ≡ length ds
count_is [] = refl
count_is (d ∷ ds) = ap suc (count_is ds)

-- ---- one of many

keys_are : (es : List (String Global × Datum)) → keys_of (entries_of es) ≡ map (λ e. string_bytes e.0) es
keys_are [] = refl
keys_are (e ∷ es) = ap (λ ks. string_bytes e.0 ∷ ks) (keys_are es)

names_are : (fs : List Field) → map (λ f. f.name) (seen_fields fs) ≡ map (λ f. string_bytes f.name) fs
names_are [] = refl
names_are (f ∷ fs) = ap (λ ks. string_bytes f.name ∷ ks) (names_are fs)

pub key_at : (es : List (String Global × Datum)) (i : ℕ) → slice_get (keys_of (entries_of es)) i ≡ option_map (λ e. string_bytes e.0) (slice_get es i)
key_at es i = rw (keys_are es) (slice_get-map (λ e. string_bytes e.0) es i)

pub named_at : (fs : List Field) (i : ℕ) → slice_get (map (λ f. f.name) (seen_fields fs)) i ≡ option_map (λ f. string_bytes f.name) (slice_get fs i)
named_at fs i = rw (names_are fs) (slice_get-map (λ f. string_bytes f.name) fs i)

pub node_at_field : (fs : List Field) (i : ℕ) → field_id (seen_fields fs) i ≡ unwrap_or (option_map (λ f. f.node.0) (slice_get fs i)) 0
node_at_field [] i = refl
node_at_field (x ∷ fs) zero = refl
node_at_field (x ∷ fs) (suc i) = node_at_field fs i

pub item_here : (ds : List Datum) (i : ℕ) → value_at (values_of ds) i ≡ unwrap_or (option_map value_of (slice_get ds i)) Value.null
item_here [] i = refl
item_here (x ∷ ds) zero = refl
item_here (x ∷ ds) (suc i) = item_here ds i

pub entry_here : (es : List (String Global × Datum)) (i : ℕ) → entry_at (entries_of es) i ≡ unwrap_or (option_map (λ e. value_of e.1) (slice_get es i)) Value.null
entry_here [] i = refl
entry_here (x ∷ es) zero = refl
entry_here (x ∷ es) (suc i) = entry_here es i

pub item_depth : (ds : List Datum) (i : ℕ) (d : Datum) → i < length ds → depth (value_of (get_or ds i d)) ≤ values_depth (values_of ds)
item_depth [] i d within = absurd (omega (arith, within))
item_depth (x ∷ ds) zero d within = omega arith
item_depth (x ∷ ds) (suc i) d within = omega (arith, item_depth ds i d (omega (arith, within)))

pub entry_depth : (es : List (String Global × Datum)) (i : ℕ) (e : String Global × Datum) → i < length es → depth (value_of (get_or es i e).1) ≤ entries_depth (entries_of es)
entry_depth [] i e within = absurd (omega (arith, within))
entry_depth (x ∷ es) zero e within = omega arith
entry_depth (x ∷ es) (suc i) e within = omega (arith, entry_depth es i e (omega (arith, within)))

pub ruleset seen_values = (value_of-Array, value_of-Record, value_of-Union, value_of-Map)
