-- How private contracts see what data are shown by.
use Rattle.std.specs.Prelude.{ℕ, List, Option, Result, MatchResult}
use Rattle.avro_schema.specs.Node.{Node}
use Rattle.avro_schema.specs.SeenSchema.{schema_nodes}
use Rattle.avro_file.specs.BlockFails.{FileLimitValues, BlockReading}
use Rattle.avro_file.specs.declared.error.CopyError.{CopyError}
use Rattle.avro_file.specs.DataRead.{reading}
use Rattle.avro_file.specs.File.{HeaderValue}
use Rattle.avro_file.specs.HeaderTaken.{header_value}
use Rattle.avro_lines.specs.Shown.{nodes_of}
use Rattle.avro_lines.specs.declared.task.Opened.{Opened}
use Rattle.avro_lines.specs.inside.DataShown.{FirstStops, ShowsFirst}

abbrev pub limits_for : Opened → FileLimitValues
limits_for opened = opened.task.now.limits

abbrev pub header_for : Opened → HeaderValue
header_for opened = header_value opened.header.now

-- the nodes of the reader, if there is one
abbrev pub reader_for : Opened → Option (List Node)
reader_for opened = nodes_of opened.task.now.reader

abbrev pub reading_for : Opened → BlockReading
reading_for opened = reading (limits_for opened) (header_for opened).nodes (header_for opened).sync (reader_for opened)

-- the nodes by which data are displayed
abbrev pub shown_for : Opened → List Node
shown_for opened = schema_nodes opened.table.now

-- the first lines of a block's data were put or are held, or were not for an error, by the result
abbrev pub ShowsBlock : {O A : Type 0} → (O → List ℕ → O → Type 0) → (O → ℕ) → (O → Type 0) → Opened → ℕ → ℕ → ℕ → List ℕ → O → List ℕ → O → List ℕ → Result A CopyError → Type 0
ShowsBlock keeps failures stuck opened number all count body from held to left result =
    MatchResult result
    (λ _. ShowsFirst keeps failures (reading_for opened) (shown_for opened) all count body from held to left)
    (FirstStops keeps failures stuck (reading_for opened) (shown_for opened) number all count body from held to left)
