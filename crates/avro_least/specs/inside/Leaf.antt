-- The least datum of a node without parts.
use Rattle.std.specs.Prelude.{pos, false, []}
use Rattle.std.proofs.Math.ListN.{replicate}
use Rattle.avro_schema.specs.Value.{Value, no_values, no_entries}
use Rattle.avro_schema.specs.Node.{Node}

abbrev pub leaf_value : Node → Value
leaf_value Node.null = Value.null
leaf_value Node.boolean = Value.boolean false
leaf_value Node.int = Value.int (pos 0)
leaf_value Node.long = Value.long (pos 0)
leaf_value Node.bytes = Value.bytes []
leaf_value Node.string = Value.string []
leaf_value (Node.array id) = Value.array no_values
leaf_value (Node.map_of id) = Value.map_of no_entries
leaf_value (Node.union ids) = Value.null
leaf_value (Node.record_of name aliases fields) = Value.null
leaf_value (Node.enum name aliases symbols default) = Value.enum 0
leaf_value (Node.fixed name aliases count) = Value.fixed (replicate count 0)
