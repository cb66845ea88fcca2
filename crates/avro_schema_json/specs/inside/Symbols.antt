-- Enums as parents of the texts that are their symbols.
use Rattle.std.specs.Prelude.{◌≡◌, ℕ, ◌+◌, true, List, [], is_some}
use Rattle.avro_schema.specs.Node.{Node, node_at}
use Rattle.avro_schema_json.specs.DeclaredAttributes.{symbol_index}
use Rattle.avro_schema_json.specs.inside.Covers.{place_of}
use Rattle.avro_schema_json.specs.inside.Parents.{Label, Numbered, Parents, HasParent}

-- the symbols of an enum
abbrev pub symbols_of : Node → List (List ℕ)
symbols_of (Node.enum name aliases symbols default) = symbols
symbols_of _ = []

-- a place is one of an enum of a symbol; texts have the place past the last one
abbrev pub HasSymbol : Numbered → Parents → ℕ → ℕ → List ℕ → Type 0
HasSymbol labels parents last p word = HasParent labels parents (Label.named word) (last + 1) p

-- a node is an enum of its symbols, and each node is
abbrev pub HasSymbols : Numbered → Parents → ℕ → ℕ → Node → Type 0
HasSymbols labels parents last p n = (word : List ℕ) → is_some (symbol_index word (symbols_of n)) ≡ true → HasSymbol labels parents last p word

abbrev pub AreSymbols : List Node → ℕ → Numbered → Parents → Type 0
AreSymbols nodes last labels parents = (m : ℕ) → HasSymbols labels parents last (place_of last m) (node_at nodes m)
