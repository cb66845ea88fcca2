-- Places in schemas by names, and types. The forms are this project's own.
use Rattle.std.specs.Prelude.{ℕ, zero, suc, List, [], ◌∷◌, ◌++◌, Option, Some, None, codes, decimal, slice_get, option_map, option_and_then}
use Rattle.avro_schema.specs.Node.{Node, fields_of, branches_of, items_node, values_node}
use Rattle.avro_display.specs.DisplayTree.{name_text}
use Rattle.avro_explain.specs.declared.found.PathStep.{PathStep}

-- the word of a kind of type
abbrev pub type_word : Node → List ℕ
type_word Node.null = codes "null"
type_word Node.boolean = codes "boolean"
type_word Node.int = codes "int"
type_word Node.long = codes "long"
type_word Node.bytes = codes "bytes"
type_word Node.string = codes "string"
type_word (Node.array id) = codes "array"
type_word (Node.map_of id) = codes "map"
type_word (Node.union ids) = codes "union"
type_word (Node.record_of name aliases fields) = codes "record"
type_word (Node.enum name aliases symbols default) = codes "enum"
type_word (Node.fixed name aliases count) = codes "fixed"

-- a branch as text: its fullname, or its word
abbrev pub branch_word : Node → List ℕ
branch_word (Node.record_of name aliases fields) = name_text name
branch_word (Node.enum name aliases symbols default) = name_text name
branch_word (Node.fixed name aliases count) = name_text name
branch_word n = type_word n

-- the same of a type that is no array and no map; a fixed with its size
abbrev pub own_type : Node → List ℕ
own_type (Node.fixed name aliases count) = name_text name ++ codes "(" ++ decimal count ++ codes ")"
own_type n = branch_word n

-- what is written of an array or a map by itself
abbrev pub type_front : Option Node → List ℕ
type_front None = []
type_front (Some (Node.array id)) = codes "array of "
type_front (Some (Node.map_of id)) = codes "map of "
type_front (Some n) = own_type n

-- the node that an array or a map holds
abbrev pub type_held : Option Node → Option ℕ
type_held None = None
type_held (Some (Node.array id)) = Some id
type_held (Some (Node.map_of id)) = Some id
type_held (Some n) = None

-- what is written of the node that is held, if there is one
abbrev pub if_held : Option ℕ → (ℕ → List ℕ) → List ℕ
if_held None inner = []
if_held (Some id) inner = inner id

-- a type by its name or word, for at most this many nested arrays and maps
abbrev pub type_text : ℕ → List Node → ℕ → List ℕ
type_text zero nodes id = []
type_text (suc levels) nodes id = type_front (slice_get nodes id) ++ if_held (type_held (slice_get nodes id)) (λ held. type_text levels nodes held)

-- a step to a field, as text
abbrev pub field_mark : Option (List ℕ) → List ℕ
field_mark None = []
field_mark (Some name) = codes "." ++ name

-- a step to a branch, as text
abbrev pub branch_mark : Option Node → List ℕ
branch_mark None = []
branch_mark (Some n) = codes "<" ++ branch_word n ++ codes ">"

-- the name of a field, by its index
abbrev pub field_name_at : Node → ℕ → Option (List ℕ)
field_name_at n k = option_and_then (λ fields. option_map (λ f. f.name) (slice_get fields k)) (fields_of n)

-- the id of a field's node, by its index
abbrev pub field_id_at : Node → ℕ → Option ℕ
field_id_at n k = option_and_then (λ fields. option_map (λ f. f.node) (slice_get fields k)) (fields_of n)

-- the id of a branch's node, by its index
abbrev pub branch_id_at : Node → ℕ → Option ℕ
branch_id_at n k = option_and_then (λ ids. slice_get ids k) (branches_of n)

-- a step from a node, as text: to a field, to items or values, or to a branch
abbrev pub step_mark : List Node → Node → PathStep → List ℕ
step_mark nodes n (PathStep.Field k) = field_mark (field_name_at n k)
step_mark nodes n PathStep.Items = codes "[]"
step_mark nodes n PathStep.Values = codes "{}"
step_mark nodes n (PathStep.Branch k) = branch_mark (option_and_then (slice_get nodes) (branch_id_at n k))

-- the id of the node that a step leads to
abbrev pub step_end : Node → PathStep → Option ℕ
step_end n (PathStep.Field k) = field_id_at n k
step_end n PathStep.Items = items_node n
step_end n PathStep.Values = values_node n
step_end n (PathStep.Branch k) = branch_id_at n k

-- the text of a step, empty if it starts at no node
abbrev pub mark_from : List Node → Option Node → PathStep → List ℕ
mark_from nodes None s = []
mark_from nodes (Some n) s = step_mark nodes n s

-- where a step leads, nowhere if it starts at no node
abbrev pub end_from : Option Node → PathStep → Option ℕ
end_from None s = None
end_from (Some n) s = step_end n s

-- the texts of several steps, one after another
abbrev pub way_text : List Node → Option ℕ → List PathStep → List ℕ
way_text nodes here [] = []
way_text nodes here (s ∷ ss) =
    mark_from nodes (option_and_then (slice_get nodes) here) s ++ way_text nodes (end_from (option_and_then (slice_get nodes) here) s) ss

-- a place by the names of a schema: `$`, and the steps from the root
abbrev pub place_text : List Node → List PathStep → List ℕ
place_text nodes steps = codes "$" ++ way_text nodes (Some 0) steps
