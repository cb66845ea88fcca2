-- The nodes that are laid for a form are a schema.
use Rattle.std.proofs.Common.{◌≡◌, ◌<◌, ◌≤◌, ℕ, zero, suc, ◌+◌, true, List, [], ◌∷◌, ◌++◌, Some, refl, sym, ◌∙◌, ap, subst, arith, drop, flat_map, length, length-drop, is_some, nat_lt}
use Rattle.std.specs.List.{list_all}
use Rattle.std.proofs.lemmas.Bool.{and_parts, and_from, lt-ltb, or_right}
use Rattle.std.proofs.lemmas.Option.{slice_get_past}
use Rattle.avro_name.specs.Name.{Name, is_full_name}
use Rattle.avro_schema.specs.Node.{Node, node_at, node_name, field_ids}
use Rattle.avro_schema.specs.WellFormed.{is_good_node, are_good_nodes, is_edge, is_union, has_good_default, field_names}
use Rattle.avro_schema_json.specs.Declares.{Known, defining}
use Rattle.avro_canonical.specs.Form.{Form, Forms, FieldForms, no_forms, form, no_fields, field, written_after}
use Rattle.avro_canonical.specs.Canonical.{primitive_word}
use Rattle.avro_canonical.specs.CanonicalTree.{nodes_in}
use Rattle.avro_canonical.specs.inside.WellMade.{node_of_word, are_branches, names_of, are_names, WellMade, AreWellMade, FieldsWellMade}
use Rattle.avro_canonical.specs.inside.Laid.{known_after, laid_id, laid_ids, laid_fields, laid, laid_all, laid_in_fields}
use Rattle.avro_canonical.proofs.FormsWellMade.{kinds_same, union_seen}
use Rattle.avro_canonical.proofs.LaidRead.{IsKnown, known_more, known_then, laid_count}
use Rattle.avro_canonical.proofs.LaidForms.{Stand, stand_first, stand_cut, KnownStand, stand_defining, known_stand, named_there, laid_forms}
use Rattle.avro_canonical.proofs.Words.{by_word}

stand_within : (nodes : List Node) (p : ℕ) (n : Node) (rest : List Node) → drop p nodes ≡ n ∷ rest → p < length nodes
stand_within nodes p n rest e = omega (arith, length-drop p nodes, ap length e)

edge_later : (nodes : List Node) (from p : ℕ) → from < p → p < length nodes → is_edge nodes from p ≡ true
edge_later nodes from p after within = rw (lt-ltb p (length nodes) within, lt-ltb from p after) refl

edge_named : (nodes : List Node) (from p : ℕ) (name : Name) → node_name (node_at nodes p) ≡ Some name → is_edge nodes from p ≡ true
edge_named nodes from p name named =
    and_from (nat_lt p (length nodes)) _ (lt-ltb p (length nodes) (within p named)) (or_right (nat_lt from p) _ (ap is_some named))
  where
    below : (p n : ℕ) → (n ≤ p → ⊥) → p < n
    below p zero h = absurd (h (omega arith))
    below zero (suc n) h = omega arith
    below (suc p) (suc n) h = let r : p < n = below p n (λ le. h (omega (arith, le))) in omega (arith, r)

    within : (p : ℕ) → node_name (node_at nodes p) ≡ Some name → p < length nodes
    within p named = grind (arith, slice_get_past)

edge_laid : (nodes : List Node) (f : Form) (written : List Name) (known : Known) (next from : ℕ) (others : List Node) → from < next → WellMade written f → IsKnown written known
    → KnownStand nodes known → Stand nodes next (laid known next f) others → is_edge nodes from (laid_id known next f) ≡ true
edge_laid nodes (Form.reference name) written known next from others after good is stands e =
    edge_named nodes from (laid_id known next (Form.reference name)) name (named_there nodes written known name is stands good.0)
edge_laid nodes _ written known next from others after good is stands e = edge_later nodes from next after (stand_within nodes next _ _ e)

edges_laid : (nodes : List Node) (fs : Forms) (written : List Name) (known : Known) (next from : ℕ) (others : List Node) → from < next → AreWellMade written fs → IsKnown written known
    → KnownStand nodes known → Stand nodes next (laid_all known next fs) others → list_all (is_edge nodes from) (laid_ids known next fs) ≡ true
edges_laid nodes no_forms written known next from others after good is stands e = refl
edges_laid nodes (form f fs) written known next from others after good is stands e =
    let cut = stand_cut nodes next (laid known next f) (laid_all (known_after known next f) (next + nodes_in f) fs) others (nodes_in f) (laid_count known next f) e in
    and_from _ _ (edge_laid nodes f written known next from _ after good.0 is stands cut.0)
    (edges_laid nodes fs (written_after written f) (known_after known next f) (next + nodes_in f) from others (omega (arith, after)) good.1 (known_then written known next f is)
    (known_stand nodes f known next _ stands cut.0) cut.1)

field_edges_laid : (nodes : List Node) (fs : FieldForms) (written : List Name) (known : Known) (next from : ℕ) (others : List Node) → from < next → FieldsWellMade written fs → IsKnown written known
    → KnownStand nodes known → Stand nodes next (laid_in_fields known next fs) others → list_all (is_edge nodes from) (field_ids (laid_fields known next fs)) ≡ true
field_edges_laid nodes no_fields written known next from others after good is stands e = refl
field_edges_laid nodes (field name f fs) written known next from others after good is stands e =
    let cut = stand_cut nodes next (laid known next f) (laid_in_fields (known_after known next f) (next + nodes_in f) fs) others (nodes_in f) (laid_count known next f) e in
    and_from _ _ (edge_laid nodes f written known next from _ after good.0 is stands cut.0)
    (field_edges_laid nodes fs (written_after written f) (known_after known next f) (next + nodes_in f) from others (omega (arith, after)) good.1 (known_then written known next f is)
    (known_stand nodes f known next _ stands cut.0) cut.1)

-- a node that is laid is good, where its edges are
good_word : (nodes : List Node) (next : ℕ) (n : Node) (word : List ℕ) → primitive_word n ≡ Some word → is_good_node nodes next n ≡ true
good_word nodes next = by_word (λ n word. is_good_node nodes next n ≡ true) refl refl refl refl refl refl

laid_names : (known : Known) (next : ℕ) (fs : FieldForms) → flat_map field_names (laid_fields known next fs) ≡ names_of fs
laid_names known next no_fields = refl
laid_names known next (field name f fs) = ap (λ names. name ∷ names) (laid_names (known_after known next f) (next + nodes_in f) fs)

laid_defaults : (nodes : List Node) (known : Known) (next : ℕ) (fs : FieldForms) → list_all (has_good_default nodes) (laid_fields known next fs) ≡ true
laid_defaults nodes known next no_fields = refl
laid_defaults nodes known next (field name f fs) = laid_defaults nodes (known_after known next f) (next + nodes_in f) fs

good_record : (nodes : List Node) (known : Known) (at next : ℕ) (name : Name) (fs : FieldForms) → list_all (is_edge nodes at) (field_ids (laid_fields known next fs)) ≡ true
    → is_full_name name ≡ true → are_names (names_of fs) ≡ true → is_good_node nodes at (Node.record_of name [] (laid_fields known next fs)) ≡ true
good_record nodes known at next name fs edges full named = grind (arith, and_parts, laid_defaults, laid_names)

good_append : (nodes : List Node) (k : ℕ) (xs ys : List Node) → are_good_nodes nodes k xs ≡ true → are_good_nodes nodes (k + length xs) ys ≡ true → are_good_nodes nodes k (xs ++ ys) ≡ true
good_append nodes k [] ys first rest = let at : k + 0 ≡ k = omega arith in subst (λ j. are_good_nodes nodes j ys ≡ true) at rest
good_append nodes k (x ∷ xs) ys first rest =
    let both = and_parts (is_good_node nodes k x) (are_good_nodes nodes (suc k) xs) first in
    let at : k + suc (length xs) ≡ suc k + length xs = omega arith in
    and_from _ _ both.0 (good_append nodes (suc k) xs ys both.1 (subst (λ j. are_good_nodes nodes j ys ≡ true) at rest))

mutual
  pub good_laid : (nodes : List Node) (f : Form) (written : List Name) (known : Known) (next : ℕ) (others : List Node) → WellMade written f → IsKnown written known
      → KnownStand nodes known → Stand nodes next (laid known next f) others → are_good_nodes nodes next (laid known next f) ≡ true
  good_laid nodes (Form.primitive word) written known next others good is stands e = and_from _ _ (good_word nodes next (node_of_word word) word good) refl
  good_laid nodes (Form.array f) written known next others good is stands e =
      let here = stand_first nodes next _ _ e in
      let edge = edge_laid nodes f written known (suc next) next others (omega arith) good is stands here.1 in
      and_from _ _ (rw edge refl) (good_laid nodes f written known (suc next) others good is stands here.1)
  good_laid nodes (Form.map_of f) written known next others good is stands e =
      let here = stand_first nodes next _ _ e in
      let edge = edge_laid nodes f written known (suc next) next others (omega arith) good is stands here.1 in
      and_from _ _ (rw edge refl) (good_laid nodes f written known (suc next) others good is stands here.1)
  good_laid nodes (Form.union fs) written known next others good is stands e =
      let here = stand_first nodes next _ _ e in
      let edges = edges_laid nodes fs written known (suc next) next others (omega arith) good.1 is stands here.1 in
      let ruled : is_union nodes (laid_ids known (suc next) fs) ≡ true =
      union_seen nodes (laid_ids known (suc next) fs) ∙ ap are_branches (kinds_same (laid_forms nodes fs written known (suc next) others good.1 is stands here.1)) ∙ good.0 in
      and_from _ _ (rw (edges, ruled) refl) (good_laid_all nodes fs written known (suc next) others good.1 is stands here.1)
  good_laid nodes (Form.record_of name fs) written known next others good is stands e =
      let here = stand_first nodes next _ _ e in
      let more = known_more written known name next is in
      let there = stand_defining nodes known name next stands (ap node_name here.0) in
      and_from _ _ (good_record nodes (defining name next known) next (suc next) name fs
      (field_edges_laid nodes fs (name ∷ written) (defining name next known) (suc next) next others (omega arith) good.3 more there here.1) good.1 good.2)
      (good_laid_fields nodes fs (name ∷ written) (defining name next known) (suc next) others good.3 more there here.1)
  good_laid nodes (Form.enum name symbols) written known next others good is stands e = rw (good.1, good.2) refl
  good_laid nodes (Form.fixed name count) written known next others good is stands e = rw (good.1, good.2) refl
  good_laid nodes (Form.reference name) written known next others good is stands e = refl

  good_laid_all : (nodes : List Node) (fs : Forms) (written : List Name) (known : Known) (next : ℕ) (others : List Node) → AreWellMade written fs → IsKnown written known
      → KnownStand nodes known → Stand nodes next (laid_all known next fs) others → are_good_nodes nodes next (laid_all known next fs) ≡ true
  good_laid_all nodes no_forms written known next others good is stands e = refl
  good_laid_all nodes (form f fs) written known next others good is stands e =
      let later = laid_all (known_after known next f) (next + nodes_in f) fs in
      let cut = stand_cut nodes next (laid known next f) later others (nodes_in f) (laid_count known next f) e in
      good_append nodes next (laid known next f) later (good_laid nodes f written known next _ good.0 is stands cut.0)
      (subst (λ n. are_good_nodes nodes (next + n) later ≡ true) (sym (laid_count known next f))
      (good_laid_all nodes fs (written_after written f) (known_after known next f) (next + nodes_in f) others good.1 (known_then written known next f is)
      (known_stand nodes f known next _ stands cut.0) cut.1))

  good_laid_fields : (nodes : List Node) (fs : FieldForms) (written : List Name) (known : Known) (next : ℕ) (others : List Node) → FieldsWellMade written fs → IsKnown written known
      → KnownStand nodes known → Stand nodes next (laid_in_fields known next fs) others → are_good_nodes nodes next (laid_in_fields known next fs) ≡ true
  good_laid_fields nodes no_fields written known next others good is stands e = refl
  good_laid_fields nodes (field name f fs) written known next others good is stands e =
      let later = laid_in_fields (known_after known next f) (next + nodes_in f) fs in
      let cut = stand_cut nodes next (laid known next f) later others (nodes_in f) (laid_count known next f) e in
      good_append nodes next (laid known next f) later (good_laid nodes f written known next _ good.0 is stands cut.0)
      (subst (λ n. are_good_nodes nodes (next + n) later ≡ true) (sym (laid_count known next f))
      (good_laid_fields nodes fs (written_after written f) (known_after known next f) (next + nodes_in f) others good.1 (known_then written known next f is)
      (known_stand nodes f known next _ stands cut.0) cut.1))
