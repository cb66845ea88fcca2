-- Members in an order of keys.
use Rattle.std.proofs.Common.{true, append_assoc, ◌++◌, ◌≡◌, ◌≤◌, ◌+◌, ℕ, suc, List, [], ◌∷◌, length, map, subst, take, refl, sym, ap, ◌∙◌, arith}
use Rattle.std.proofs.lemmas.List.{length-map, take_all}
use Rattle.avro_schema.specs.Value.{Values, no_values, value, values_count, Entries, no_entries, entry, keys_of}
use Rattle.avro_schema.specs.Node.{Node, FieldNode, node_at}
use Rattle.serde_json.specs.Data.{Data, Members, no_members, object, put}
use Rattle.avro_display.specs.DisplayTree.{display_tree, display_entries, display_fields}
use Rattle.avro_display.specs.Order.{put_each, in_order, IsOrder}
use Rattle.json.specs.Print.{quoted}
use Rattle.serde_json.specs.Written.{compact_text, members_text}
use Rattle.avro_display.specs.Displayed.{members_left, object_text}
use Rattle.avro_display.specs.Table.{AreHeads, entry_tree, field_name, field_tree, place_of}
use Rattle.avro_display.specs.declared.member.Member.{Member}

abbrev pub name_of : FieldNode → List ℕ
name_of f = f.name

-- ---- a record with a value for each field has the members of its table

module _ (nodes : List Node) where
  -- trees that are those of some fields from an index on
  put_fields : (tree : ℕ → Data) (i : ℕ) (fields : List FieldNode) (vs : Values) (ms : Members) → ((j : ℕ) → tree (i + j) ≡ field_tree nodes fields vs j)
      → put_each tree i (take (values_count vs) (map name_of fields)) ms ≡ display_fields nodes fields vs ms
  put_fields tree i [] no_values ms are = refl
  put_fields tree i [] (value v vs) ms are = refl
  put_fields tree i (f ∷ fields) no_values ms are = refl
  put_fields tree i (f ∷ fields) (value v vs) ms are =
      let here : i + 0 ≡ i = omega arith in
      let first : tree i ≡ display_tree nodes (node_at nodes f.node) v = rw here at (are 0) in
      rw (← first) (put_fields tree (i + 1) fields vs (put f.name (tree i) ms) (λ j. let next : i + 1 + j ≡ i + suc j = omega arith in rw next (are (suc j))))

  -- of fewer values than fields, those that there are
  pub first_fields : (fields : List FieldNode) (vs : Values)
      → put_each (field_tree nodes fields vs) 0 (take (values_count vs) (map name_of fields)) no_members ≡ display_fields nodes fields vs no_members
  first_fields fields vs = put_fields (field_tree nodes fields vs) 0 fields vs no_members (λ j. let same : 0 + j ≡ j = omega arith in ap (field_tree nodes fields vs) same)

  pub ordered_fields : (fields : List FieldNode) (vs : Values) (order : List (List ℕ × ℕ)) → length fields ≤ values_count vs → IsOrder (map name_of fields) order
      → in_order (field_tree nodes fields vs) order ≡ display_fields nodes fields vs no_members
  ordered_fields fields vs order enough is =
      let all : length (map name_of fields) ≤ values_count vs = subst (λ (n : ℕ). n ≤ values_count vs) (sym (length-map fields name_of)) enough in
      is (field_tree nodes fields vs)
      ∙ ap (λ (ks : List (List ℕ)). put_each (field_tree nodes fields vs) 0 ks no_members) (sym (take_all (values_count vs) (map name_of fields) all))
      ∙ first_fields fields vs

-- ---- the entries of a map

module _ (nodes : List Node) (n : Node) where
  put_entries : (tree : ℕ → Data) (i : ℕ) (es : Entries) (ms : Members) → ((j : ℕ) → tree (i + j) ≡ entry_tree nodes n es j)
      → put_each tree i (keys_of es) ms ≡ display_entries nodes n es ms
  put_entries tree i no_entries ms are = refl
  put_entries tree i (entry k v es) ms are =
      let here : i + 0 ≡ i = omega arith in
      let first : tree i ≡ display_tree nodes n v = rw here at (are 0) in
      rw (← first) (put_entries tree (i + 1) es (put k (tree i) ms) (λ j. let next : i + 1 + j ≡ i + suc j = omega arith in rw next (are (suc j))))

  pub all_entries : (es : Entries) → put_each (entry_tree nodes n es) 0 (keys_of es) no_members ≡ display_entries nodes n es no_members
  all_entries es = put_entries (entry_tree nodes n es) 0 es no_members (λ j. let same : 0 + j ≡ j = omega arith in ap (entry_tree nodes n es) same)

-- ---- the text of an object of members

head_at : (name : List ℕ) (opener : ℕ) (text left right : List ℕ) → left ≡ right → (opener ∷ (quoted name ++ 58 ∷ [])) ++ (text ++ left) ≡ opener ∷ (quoted name ++ 58 ∷ (text ++ right))
head_at name opener text left right same = ap (λ (l : List ℕ). opener ∷ l) (append_assoc (quoted name) (58 ∷ []) (text ++ left)) ∙ ap (λ (l : List ℕ). opener ∷ (quoted name ++ 58 ∷ (text ++ l))) same

later_members : (fields : List FieldNode) (tree : ℕ → Data) (ms : List Member) → AreHeads fields 44 ms → members_left tree ms ≡ members_text true (in_order tree (map (place_of fields) ms))
later_members fields tree [] heads = refl
later_members fields tree (m ∷ ms) heads = rw heads.0 (head_at (field_name fields m.field) 44 (compact_text (tree m.field)) _ _ (later_members fields tree ms heads.1))

pub all_members : (fields : List FieldNode) (tree : ℕ → Data) (ms : List Member) → AreHeads fields 123 ms → compact_text (object (in_order tree (map (place_of fields) ms))) ≡ object_text tree ms
all_members fields tree [] heads = refl
all_members fields tree (m ∷ ms) heads = rw heads.0 (sym (head_at (field_name fields m.field) 123 (compact_text (tree m.field)) _ _ (later_members fields tree ms heads.1)))
