-- Which datum a leaf is.
use Rattle.std.specs.Prelude.{◌≡◌, Bool, true, false}
use Rattle.avro_schema.specs.Node.{Node}
use Rattle.avro_schema.specs.Value.{Value}
use Rattle.avro_binary.specs.declared.leaf.Leaf.{Leaf}

-- the datum that a leaf is
abbrev pub leaf_value : Leaf → Value
leaf_value Leaf.Null = Value.null
leaf_value (Leaf.Boolean value) = Value.boolean value
leaf_value (Leaf.Int value) = Value.int value
leaf_value (Leaf.Long value) = Value.long value
leaf_value (Leaf.Bytes content) = Value.bytes content.now
leaf_value (Leaf.Text text) = Value.string text.now
leaf_value (Leaf.Fixed content) = Value.fixed content.now
leaf_value (Leaf.Symbol index) = Value.enum index

-- a leaf is this datum
abbrev pub IsLeafOf : Leaf → Value → Type 0
IsLeafOf leaf v = leaf_value leaf ≡ v

-- whether the data of a node have no parts
abbrev pub has_no_parts : Node → Bool
has_no_parts (Node.array id) = false
has_no_parts (Node.map_of id) = false
has_no_parts (Node.union ids) = false
has_no_parts (Node.record_of name aliases fields) = false
has_no_parts n = true
