-- The lines of data.
use Rattle.std.specs.Prelude.{ℕ, List, [], ◌∷◌, ◌++◌, Option, Some, None, take}
use Rattle.avro_schema.specs.Node.{Node, root_of}
use Rattle.avro_schema.specs.Value.{Value, Values, no_values, value}
use Rattle.avro_display.specs.DisplayTree.{display_text}

-- a line: the display of a datum of the root, and a line feed
abbrev pub line_of : List Node → Value → List ℕ
line_of nodes u = display_text nodes (root_of nodes) u ++ 10 ∷ []

-- a line for each of some data
abbrev pub lines_of : List Node → Values → List (List ℕ)
lines_of nodes no_values = []
lines_of nodes (value u us) = line_of nodes u ∷ lines_of nodes us

-- the lines of one block after another
abbrev pub all_lines : List Node → List Values → List (List ℕ)
all_lines nodes [] = []
all_lines nodes (us ∷ blocks) = lines_of nodes us ++ all_lines nodes blocks

-- the first lines up to a limit; all of them, if there is none
abbrev pub up_to : Option ℕ → List (List ℕ) → List (List ℕ)
up_to None lines = lines
up_to (Some most) lines = take most lines
