-- Where the displays of the parts of a datum stand in a text, while the datum is read.
use denote.Ref.{Bor}
use Rattle.std.specs.Prelude.{◌≡◌, ℕ, List, [], ◌∷◌, ◌++◌, Option, None, Some, String, true, slice_get, string_bytes}
use Rattle.std.specs.declared.alloc.Global.{Global}
use Rattle.avro_schema.specs.Fits.{fits}
use Rattle.avro_schema.specs.Node.{Node, FieldNode, node_at}
use Rattle.avro_schema.specs.Seen.{entries_from, values_from}
use Rattle.avro_schema.specs.SeenSchema.{schema_nodes}
use Rattle.avro_schema.specs.Value.{Value}
use Rattle.avro_schema.specs.declared.schema.Schema.{Schema}
use Rattle.serde_json.specs.Data.{Data, Items, no_items, item, Members, no_members, member}
use Rattle.serde_json.specs.Written.{compact_text}
use Rattle.avro_binary.specs.Outputs.{Grows, StandsAt}
use Rattle.avro_binary.specs.Places.{MayBeAt}
use Rattle.avro_binary.specs.declared.place.Place.{Place}
use Rattle.avro_cursor.specs.Encoding.{Spells}
use Rattle.avro_display.specs.DisplayTree.{branch_tree, display_entries, display_items, display_text, display_tree, record_fields}
use Rattle.avro_show.specs.declared.spans.Span.{Span}
use Rattle.avro_show.specs.declared.spans.Spans.{Spans}
use Rattle.avro_show.specs.declared.spans.KeyedSpans.{KeyedSpans}

-- the schema that is displayed stays, and its text has more
abbrev pub Keeps : Schema → List ℕ → Schema → List ℕ → Type 0
Keeps t before u after = (u ≡ t) × Grows before after

-- some bytes stand in a text from one offset to another
abbrev pub StandsIn : List ℕ → Span → List ℕ → Type 0
StandsIn text span bytes = StandsAt text span.start span.end bytes

-- the items of an array, one after another
abbrev pub AreItemsAt : List ℕ → List Span → Items → Type 0
AreItemsAt text [] ds = ds ≡ no_items
AreItemsAt text (s ∷ ss) ds = (d : Data) × (rest : Items) × (ds ≡ item d rest) × StandsIn text s (compact_text d) × AreItemsAt text ss rest

-- the values of an object's members, one after another, and their keys
abbrev pub AreMembersAt : List ℕ → List (String Global × Span) → Members → Type 0
AreMembersAt text [] ms = ms ≡ no_members
AreMembersAt text (e ∷ es) ms =
    (d : Data) × (rest : Members) × (ms ≡ member (string_bytes e.0) d rest) × StandsIn text e.1 (compact_text d) × AreMembersAt text es rest

-- the values of the first fields of a record
abbrev pub AreFieldsAt : List Node → List ℕ → List FieldNode → List Span → List Value → Type 0
AreFieldsAt nodes text fs [] vs = vs ≡ []
AreFieldsAt nodes text (f ∷ fs) (s ∷ ss) (v ∷ vs) = StandsIn text s (display_text nodes (node_at nodes f.node) v) × AreFieldsAt nodes text fs ss vs
AreFieldsAt nodes text fs (s ∷ ss) vs = ⊥

-- the bytes stand where the span at an index says
abbrev pub IsSpanAt : List ℕ → List Span → ℕ → List ℕ → Type 0
IsSpanAt text spans k bytes = (span : Span) × (slice_get spans k ≡ Some span) × StandsIn text span bytes

-- the display of a value, with the text that opens it as the value of a union's branch where there is one
abbrev pub opened : Option (Bor (List ℕ)) → List ℕ → List ℕ
opened None bytes = bytes
opened (Some opening) bytes = opening.now ++ (bytes ++ 125 ∷ [])

-- what follows the text that opens the value of a branch, where there is one
abbrev pub closed : Option (Bor (List ℕ)) → List ℕ → List ℕ
closed None bytes = bytes
closed (Some opening) bytes = bytes ++ 125 ∷ []

-- the JSON of a value of a node, as the value of a branch of a union, if it is one
abbrev pub tree_in : Option ℕ → Node → Data → Data
tree_in None n d = d
tree_in (Some k) n d = branch_tree n d

-- the text opens the value of a branch where there is one; the display of null is the same there
abbrev pub IsOpening : Option (Bor (List ℕ)) → Node → Option ℕ → Type 0
IsOpening opening n branch = (d : Data) → (n ≡ Node.null → d ≡ Data.null) → opened opening (compact_text d) ≡ compact_text (tree_in branch n d)

-- a part of a datum is of a node of the schema that is displayed, and at a place of it
abbrev pub IsOf : Schema → List Node → Node → Place → Type 0
IsOf t nodes n at = (nodes ≡ schema_nodes t) × (n ≡ node_at (schema_nodes t) at.node.0) × MayBeAt n at

-- the display of a value at a place
abbrev pub text_of : Schema → Place → Value → List ℕ
text_of t at v = compact_text (tree_in at.branch (node_at (schema_nodes t) at.node.0) (display_tree (schema_nodes t) (node_at (schema_nodes t) at.node.0) v))

-- what stands in a text is the display of a datum of a node
abbrev pub StandsFor : Schema → List ℕ → List Node → Node → Place → Span → Value → Type 0
StandsFor t text nodes n at span v = IsOf t nodes n at → StandsIn text span (text_of t at v)

-- the same of the items of an array so far
abbrev pub ItemsStandFor : Schema → List ℕ → List Node → ℕ → Place → Spans → List Value → Type 0
ItemsStandFor t text nodes id at items vs = IsOf t nodes (Node.array id) at
    → (items.owner ≡ at) × AreItemsAt text items.parts.items (display_items (schema_nodes t) (node_at (schema_nodes t) id) (values_from vs))

-- the same of the entries of a map so far
abbrev pub EntriesStandFor : Schema → List ℕ → List Node → ℕ → Place → KeyedSpans → List (List ℕ × Value) → Type 0
EntriesStandFor t text nodes id at entries es = IsOf t nodes (Node.map_of id) at
    → (entries.owner ≡ at) × AreMembersAt text entries.parts.entries (display_entries (schema_nodes t) (node_at (schema_nodes t) id) (entries_from es) no_members)

-- the same of the first fields of a record
abbrev pub FieldsStandFor : Schema → List ℕ → List Node → List FieldNode → Place → Spans → List Value → Type 0
FieldsStandFor t text nodes fs at fields vs = nodes ≡ schema_nodes t → fs ≡ record_fields (node_at (schema_nodes t) at.node.0)
    → (fields.owner ≡ at) × AreFieldsAt nodes text fs fields.parts.items vs
