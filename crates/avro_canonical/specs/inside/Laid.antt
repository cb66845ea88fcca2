-- The nodes that the tree of a form declares: numbered in the order in which they begin, where some names are known.
use Rattle.std.specs.Prelude.{ℕ, suc, ◌+◌, List, [], ◌∷◌, ◌++◌, None, unwrap_or, map}
use Rattle.avro_schema.specs.Node.{Node, FieldNode}
use Rattle.avro_schema_json.specs.Declares.{Known, id_of, defining, RawNode, RawField}
use Rattle.avro_canonical.specs.Form.{Form, Forms, FieldForms, no_forms, form, no_fields, field}
use Rattle.avro_canonical.specs.CanonicalTree.{nodes_in}
use Rattle.avro_canonical.specs.inside.WellMade.{node_of_word}

-- the names that are known after a form whose first node has a number
abbrev mutual
  pub known_after : Known → ℕ → Form → Known
  known_after known next (Form.primitive word) = known
  known_after known next (Form.array f) = known_after known (suc next) f
  known_after known next (Form.map_of f) = known_after known (suc next) f
  known_after known next (Form.union fs) = known_after_all known (suc next) fs
  known_after known next (Form.record_of name fs) = known_after_fields (defining name next known) (suc next) fs
  known_after known next (Form.enum name symbols) = defining name next known
  known_after known next (Form.fixed name count) = defining name next known
  known_after known next (Form.reference name) = known

  pub known_after_all : Known → ℕ → Forms → Known
  known_after_all known next no_forms = known
  known_after_all known next (form f fs) = known_after_all (known_after known next f) (next + nodes_in f) fs

  pub known_after_fields : Known → ℕ → FieldForms → Known
  known_after_fields known next no_fields = known
  known_after_fields known next (field name f fs) = known_after_fields (known_after known next f) (next + nodes_in f) fs

-- the node that an edge to it goes to
abbrev pub laid_id : Known → ℕ → Form → ℕ
laid_id known next (Form.primitive word) = next
laid_id known next (Form.array f) = next
laid_id known next (Form.map_of f) = next
laid_id known next (Form.union fs) = next
laid_id known next (Form.record_of name fs) = next
laid_id known next (Form.enum name symbols) = next
laid_id known next (Form.fixed name count) = next
laid_id known next (Form.reference name) = unwrap_or (id_of name known) 0

abbrev pub laid_ids : Known → ℕ → Forms → List ℕ
laid_ids known next no_forms = []
laid_ids known next (form f fs) = laid_id known next f ∷ laid_ids (known_after known next f) (next + nodes_in f) fs

abbrev pub laid_fields : Known → ℕ → FieldForms → List FieldNode
laid_fields known next no_fields = []
laid_fields known next (field name f fs) =
    record { name = name; aliases = []; node = laid_id known next f; default = None } ∷ laid_fields (known_after known next f) (next + nodes_in f) fs

abbrev mutual
  pub laid : Known → ℕ → Form → List Node
  laid known next (Form.primitive word) = node_of_word word ∷ []
  laid known next (Form.array f) = Node.array (laid_id known (suc next) f) ∷ laid known (suc next) f
  laid known next (Form.map_of f) = Node.map_of (laid_id known (suc next) f) ∷ laid known (suc next) f
  laid known next (Form.union fs) = Node.union (laid_ids known (suc next) fs) ∷ laid_all known (suc next) fs
  laid known next (Form.record_of name fs) =
      Node.record_of name [] (laid_fields (defining name next known) (suc next) fs) ∷ laid_in_fields (defining name next known) (suc next) fs
  laid known next (Form.enum name symbols) = Node.enum name [] symbols None ∷ []
  laid known next (Form.fixed name count) = Node.fixed name [] count ∷ []
  laid known next (Form.reference name) = []

  pub laid_all : Known → ℕ → Forms → List Node
  laid_all known next no_forms = []
  laid_all known next (form f fs) = laid known next f ++ laid_all (known_after known next f) (next + nodes_in f) fs

  pub laid_in_fields : Known → ℕ → FieldForms → List Node
  laid_in_fields known next no_fields = []
  laid_in_fields known next (field name f fs) = laid known next f ++ laid_in_fields (known_after known next f) (next + nodes_in f) fs

-- the same as they are read, before defaults
abbrev pub raw_field : FieldNode → RawField
raw_field x = record { name = x.name; aliases = x.aliases; node = x.node; default = None }

abbrev pub raw_node : Node → RawNode
raw_node (Node.record_of name aliases xs) = RawNode.record_of name aliases (map raw_field xs)
raw_node n = RawNode.plain n

abbrev pub raw_nodes : List Node → List RawNode
raw_nodes nodes = map raw_node nodes
