-- The symbols of a node.
use Rattle.std.specs.Prelude.{ℕ, List, [], unwrap_or}
use Rattle.avro_schema.specs.Node.{Node, symbols_of}

-- its symbols, and none where it has none
abbrev pub symbols_at : Node → List (List ℕ)
symbols_at n = unwrap_or (symbols_of n) []
