-- The parts of what is read, one more of them, and their whole.
use Rattle.std.proofs.Common.{◌≡◌, ℕ, zero, suc, ◌<◌, ◌≤◌, List, [], ◌∷◌, ◌++◌, length, Result, Ok, Err, true, Some, refl, sym, ap, subst, arith, Ordering, Less, Equal, Greater}
use Rattle.std.proofs.lemmas.Bool.{and_parts, false≢true}
use Rattle.std.specs.BTreeMap.{insert_entry}
use Rattle.std.specs.List.{AllByRecursion}
use Rattle.std.specs.String.{string_cmp}
use Rattle.std.specs.Ordering.{match_ordering}
use Rattle.std.specs.Prelude.{IfOk, String, slice_get, string_bytes}
use Rattle.std.specs.declared.alloc.Global.{Global}
use Rattle.avro_name.specs.Name.{Name}
use Rattle.avro_schema.specs.Fits.{fields_fit, fits}
use Rattle.avro_schema.specs.Node.{Node, FieldNode, field_ids, node_at}
use Rattle.avro_schema.specs.Seen.{entries_from, values_from}
use Rattle.avro_schema.specs.SeenSchema.{schema_nodes}
use Rattle.avro_schema.specs.Value.{Value, values_count}
use Rattle.avro_schema.specs.declared.schema.Schema.{Schema}
use Rattle.avro_binary.specs.Places.{alone}
use Rattle.serde_json.specs.Data.{Data, Members, no_members, put}
use Rattle.serde_json.specs.Written.{compact_text}
use Rattle.avro_display.specs.DisplayTree.{display_entries, display_items, display_text, display_tree}
use Rattle.avro_display.specs.Displayed.{object_text}
use Rattle.avro_display.specs.Table.{AreMembers, IsMember, field_id, field_tree, value_at}
use Rattle.avro_display.specs.declared.member.Member.{Member}
use Rattle.avro_show.specs.Spans.{AreFieldsAt, AreItemsAt, AreMembersAt, IsOf, IsSpanAt, StandsIn}
use Rattle.avro_show.specs.declared.spans.Span.{Span}
use Rattle.avro_show.proofs.Objects.{members_shown}

-- ---- One part more

module _ (text : List ℕ) (nodes : List Node) where
  pub items_push : (n : Node) (spans : List Span) (s : Span) (vs : List Value) (v : Value) → AreItemsAt text spans (display_items nodes n (values_from vs)) → StandsIn text s (display_text nodes n v)
      → AreItemsAt text (spans ++ s ∷ []) (display_items nodes n (values_from (vs ++ v ∷ [])))
  items_push n [] s [] v are here = (_, _, refl, here, refl)
  items_push n [] s (u ∷ us) v are here = absurd (cc (are))
  items_push n (x ∷ xs) s [] v (d, rest, is, stands, more) here = absurd (cc (is))
  items_push n (x ∷ xs) s (u ∷ us) v (d, rest, is, stands, more) here =
      let tree : d ≡ display_tree nodes n u = cc (is) in
      let left : rest ≡ display_items nodes n (values_from us) = cc (is) in
      (_, _, refl, rw tree at stands, items_push n xs s us v (rw left at more) here)

  pub fields_push : (fs : List FieldNode) (spans : List Span) (s : Span) (vs : List Value) (v : Value) (id : ℕ) → slice_get (field_ids fs) (length vs) ≡ Some id → AreFieldsAt nodes text fs spans vs
      → StandsIn text s (display_text nodes (node_at nodes id) v) → AreFieldsAt nodes text fs (spans ++ s ∷ []) (vs ++ v ∷ [])
  fields_push [] spans s vs v id at are here = absurd (cc (at))
  fields_push (f ∷ fs) [] s [] v id at are here = let same : f.node ≡ id = cc (at) in (rw same here, refl)
  fields_push (f ∷ fs) [] s (u ∷ us) v id at are here = absurd (cc (are))
  fields_push (f ∷ fs) (x ∷ xs) s [] v id at are here = absurd are
  fields_push (f ∷ fs) (x ∷ xs) s (u ∷ us) v id at are here = (are.0, fields_push fs xs s us v id at are.1 here)

-- ---- Which node a part is of

-- the place of a part by its node alone is a place of the node
pub part_of : (t : Schema) (nodes : List Node) (id : ℕ) → nodes ≡ schema_nodes t → IsOf t nodes (node_at nodes id) (alone id)
part_of t nodes id same = (same, ap (λ (ns : List Node). node_at ns id) same, λ e. refl)

-- ---- Fields that fit

module _ (nodes : List Node) (f : FieldNode) (fs : List FieldNode) (v : Value) (vs : List Value) (fit : fields_fit nodes (field_ids (f ∷ fs)) (values_from (v ∷ vs)) ≡ true) where
  first_fits : fits nodes (node_at nodes f.node) v ≡ true
  first_fits = (and_parts (fits nodes (node_at nodes f.node) v) (fields_fit nodes (field_ids fs) (values_from vs)) fit).0

  others_fit : fields_fit nodes (field_ids fs) (values_from vs) ≡ true
  others_fit = (and_parts (fits nodes (node_at nodes f.node) v) (fields_fit nodes (field_ids fs) (values_from vs)) fit).1

-- the value of the field at an index fits the field's node, and its display stands where its span says
field_there : (nodes : List Node) (text : List ℕ) (fs : List FieldNode) (spans : List Span) (vs : List Value) (k : ℕ) → k < length fs → fields_fit nodes (field_ids fs) (values_from vs) ≡ true
    → (slice_get vs k ≡ Some (value_at (values_from vs) k)) × (fits nodes (node_at nodes (field_id fs k)) (value_at (values_from vs) k) ≡ true)
    × (AreFieldsAt nodes text fs spans vs → IsSpanAt text spans k (compact_text (field_tree nodes fs (values_from vs) k)))
field_there nodes text [] spans vs k low fit = absurd (omega (arith, low))
field_there nodes text (f ∷ fs) spans [] k low fit = absurd (false≢true fit)
field_there nodes text (f ∷ fs) [] (v ∷ vs) zero low fit = (refl, first_fits nodes f fs v vs fit, λ are. absurd (cc (are)))
field_there nodes text (f ∷ fs) (s ∷ ss) (v ∷ vs) zero low fit = (refl, first_fits nodes f fs v vs fit, λ are. (s, refl, are.0))
field_there nodes text (f ∷ fs) [] (v ∷ vs) (suc k) low fit =
    let rest = field_there nodes text fs [] vs k (omega (arith, low)) (others_fit nodes f fs v vs fit) in
    (rest.0, rest.1, λ are. absurd (cc (are)))
field_there nodes text (f ∷ fs) (s ∷ ss) (v ∷ vs) (suc k) low fit =
    let rest = field_there nodes text fs ss vs k (omega (arith, low)) (others_fit nodes f fs v vs fit) in
    (rest.0, rest.1, λ are. rest.2 are.1)

pub fitting_count : (nodes : List Node) (fs : List FieldNode) (vs : List Value) → fields_fit nodes (field_ids fs) (values_from vs) ≡ true → length fs ≤ values_count (values_from vs)
fitting_count nodes [] vs fit = omega arith
fitting_count nodes (f ∷ fs) [] fit = absurd (false≢true fit)
fitting_count nodes (f ∷ fs) (v ∷ vs) fit =
    let rest = fitting_count nodes fs vs (others_fit nodes f fs v vs fit) in
    omega (arith, rest)

pub spans_there : (nodes : List Node) (text : List ℕ) (fs : List FieldNode) (spans : List Span) (vs : List Value) → fields_fit nodes (field_ids fs) (values_from vs) ≡ true → AreFieldsAt nodes text fs spans vs
    → (ms : List Member) → AllByRecursion (IsMember fs) ms → AllByRecursion (λ m. IsSpanAt text spans m.field (compact_text (field_tree nodes fs (values_from vs) m.field))) ms
spans_there nodes text fs spans vs fit are [] each = tt
spans_there nodes text fs spans vs fit are (m ∷ ms) each = ((field_there nodes text fs spans vs m.field each.0.0 fit).2 are, spans_there nodes text fs spans vs fit are ms each.1)

-- ---- The display of a record

pub record_shown : (nodes : List Node) (name : Name) (aliases : List Name) (fs : List FieldNode) (vs : List Value) (ms : List Member)
    → fields_fit nodes (field_ids fs) (values_from vs) ≡ true → AreMembers fs ms → object_text (field_tree nodes fs (values_from vs)) ms ≡ display_text nodes (Node.record_of name aliases fs) (Value.record_of (values_from vs))
record_shown nodes name aliases fs vs ms fit are = sym (members_shown nodes fs (values_from vs) ms (fitting_count nodes fs vs fit) are)

pub given : {A E X : Type 0} (P : A → Type 0) (r : Result A E) → (X → IfOk r P) → IfOk r (λ a. X → P a)
given P (Ok a) h = h
given P (Err e) h = tt

-- ---- One entry more

display_push : (nodes : List Node) (n : Node) (es : List (List ℕ × Value)) (k : List ℕ) (v : Value) (ms : Members)
    → display_entries nodes n (entries_from (es ++ (k, v) ∷ [])) ms ≡ put k (display_tree nodes n v) (display_entries nodes n (entries_from es) ms)
display_push nodes n [] k v ms = refl
display_push nodes n (e ∷ es) k v ms = display_push nodes n es k v (put e.0 (display_tree nodes n e.1) ms)

module _ (text : List ℕ) where
  members_match : (o : Ordering) (a b c : List (String Global × Span)) (x y z : Members) → AreMembersAt text a x → AreMembersAt text b y → AreMembersAt text c z
      → AreMembersAt text (match_ordering o a b c) (match_ordering o x y z)
  members_match Less a b c x y z less equal greater = less
  members_match Equal a b c x y z less equal greater = equal
  members_match Greater a b c x y z less equal greater = greater

  members_insert : (es : List (String Global × Span)) (k : String Global) (s : Span) (d : Data) (ms : Members) → AreMembersAt text es ms → StandsIn text s (compact_text d)
      → AreMembersAt text (insert_entry string_cmp es k s) (put (string_bytes k) d ms)
  members_insert [] k s d ms none here = (d, no_members, ap (put (string_bytes k) d) none, here, refl)
  members_insert (e ∷ es) k s d ms (d', rest, is, stands, more) here =
      subst (λ (x : Members). AreMembersAt text (insert_entry string_cmp (e ∷ es) k s) (put (string_bytes k) d x)) (sym is)
      (members_match (string_cmp k e.0) _ _ _ _ _ _ (d, _, refl, here, (d', rest, refl, stands, more)) (d, rest, refl, here, more) (d', _, refl, stands, members_insert es k s d rest more here))

  pub entry_push : (nodes : List Node) (n : Node) (spans new : List (String Global × Span)) (k : String Global) (s : Span) (key : List ℕ) (es : List (List ℕ × Value)) (v : Value) → string_bytes k ≡ key
      → new ≡ insert_entry string_cmp spans k s → AreMembersAt text spans (display_entries nodes n (entries_from es) no_members) → StandsIn text s (display_text nodes n v)
      → AreMembersAt text new (display_entries nodes n (entries_from (es ++ (key, v) ∷ [])) no_members)
  entry_push nodes n spans new k s key es v named inserted are here =
      rw (inserted, display_push nodes n es key v no_members, ← named) (members_insert spans k s (display_tree nodes n v) _ are here)
