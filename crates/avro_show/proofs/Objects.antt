-- The display of a reader's array, map or record, as its parts are displayed.
use Rattle.std.proofs.Common.{◌≡◌, ℕ, zero, suc, ◌+◌, ◌<◌, ◌≤◌, List, [], ◌∷◌, length, map, Some, refl, ap, arith}
use Rattle.std.specs.Prelude.{slice_get}
use Rattle.std.specs.List.{AllByRecursion}
use Rattle.avro_schema.specs.Node.{Node, FieldNode, node_at}
use Rattle.avro_schema.specs.Value.{Values, no_values, value, values_count}
use Rattle.serde_json.specs.Data.{Data, Members, object, no_members, put}
use Rattle.serde_json.specs.Written.{compact_text}
use Rattle.avro_display.specs.Displayed.{AreBelow, item_at, items_count, object_text}
use Rattle.avro_display.specs.DisplayTree.{display_fields, display_items, display_tree}
use Rattle.avro_display.specs.Order.{put_each}
use Rattle.avro_display.specs.Table.{AreMembers, IsMember, field_tree, place_of, value_at}
use Rattle.avro_display.specs.declared.displayed.Opened.{Opened}
use Rattle.avro_display.specs.declared.member.Member.{Member}
use Rattle.avro_display.proofs.public.Ordering.{all_members, ordered_fields}

-- ---- Levels

pub below_more : {P : Type 0} (levels : P → ℕ) (a b : ℕ) (o : Opened P) → a ≤ b → AreBelow levels a o → AreBelow levels b o
below_more levels a b o low below = grind arith

module _ (nodes : List Node) where
  -- ---- Items

  pub items_shown : (n : Node) (us : Values) → items_count (display_items nodes n us) ≡ values_count us
  items_shown n no_values = refl
  items_shown n (value u us) = ap suc (items_shown n us)

  pub item_shown : (n : Node) (us : Values) (i : ℕ) → i < values_count us → item_at (display_items nodes n us) i ≡ display_tree nodes n (value_at us i)
  item_shown n no_values i low = grind arith
  item_shown n (value u us) zero low = refl
  item_shown n (value u us) (suc i) low = grind (arith, item_shown n us i)

  -- ---- Fields that lack values

  -- the names of those that have one
  abbrev pub names_shown : List FieldNode → Values → List (List ℕ)
  names_shown fields no_values = []
  names_shown [] (value v vs) = []
  names_shown (f ∷ fields) (value v vs) = f.name ∷ names_shown fields vs

  put_fields : (tree : ℕ → Data) (i : ℕ) (fields : List FieldNode) (vs : Values) (ms : Members) → ((j : ℕ) → tree (i + j) ≡ field_tree nodes fields vs j)
      → put_each tree i (names_shown fields vs) ms ≡ display_fields nodes fields vs ms
  put_fields tree i fields no_values ms are = refl
  put_fields tree i [] (value v vs) ms are = refl
  put_fields tree i (f ∷ fields) (value v vs) ms are =
      let here : i + 0 ≡ i = omega arith in
      let first : tree i ≡ display_tree nodes (node_at nodes f.node) v = cc (here, are 0) in
      rw (← first) (put_fields tree (i + 1) fields vs (put f.name (tree i) ms) (λ j. let next : i + 1 + j ≡ i + suc j = omega arith in cc (next, are (suc j))))

  pub fields_shown : (fields : List FieldNode) (vs : Values) → put_each (field_tree nodes fields vs) 0 (names_shown fields vs) no_members ≡ display_fields nodes fields vs no_members
  fields_shown fields vs = put_fields (field_tree nodes fields vs) 0 fields vs no_members (λ j. let same : 0 + j ≡ j = omega arith in ap (field_tree nodes fields vs) same)

  pub names_counted : (fields : List FieldNode) (vs : Values) → values_count vs ≤ length fields → length (names_shown fields vs) ≡ values_count vs
  names_counted fields no_values low = refl
  names_counted [] (value v vs) low = grind arith
  names_counted (f ∷ fields) (value v vs) low = grind (arith, names_counted fields vs)

  pub name_of_field : (fields : List FieldNode) (vs : Values) (i : ℕ) (k : List ℕ) → slice_get (names_shown fields vs) i ≡ Some k → (f : FieldNode) × (slice_get fields i ≡ Some f) × (k ≡ f.name)
  name_of_field fields no_values i k e = absurd cc
  name_of_field [] (value v vs) i k e = absurd cc
  name_of_field (f ∷ fields) (value v vs) zero k e = (f, refl, cc)
  name_of_field (f ∷ fields) (value v vs) (suc i) k e = name_of_field fields vs i k e

  -- ---- Members

  pub members_shown : (fields : List FieldNode) (vs : Values) (ms : List Member) → length fields ≤ values_count vs → AreMembers fields ms
      → compact_text (object (display_fields nodes fields vs no_members)) ≡ object_text (field_tree nodes fields vs) ms
  members_shown fields vs ms enough are =
      rw (← ordered_fields nodes fields vs (map (place_of fields) ms) enough are.order) (all_members fields (field_tree nodes fields vs) ms are.heads)

  -- each is displayed as data of its node
  pub each_member : (fields : List FieldNode) (vs : Values) (P : Member → Data → Type 0) → ((m : Member) → P m (display_tree nodes (node_at nodes m.node.0) (value_at vs m.field)))
      → (ms : List Member) → AllByRecursion (IsMember fields) ms → AllByRecursion (λ m. P m (field_tree nodes fields vs m.field)) ms
  each_member fields vs P holds [] are = tt
  each_member fields vs P holds (m ∷ ms) are = (rw (← are.0.1) (holds m), each_member fields vs P holds ms are.1)
