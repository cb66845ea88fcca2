-- What reading the data of a block answers.
use Rattle.std.specs.Prelude.{◌≡◌, ℕ, true, false, List, Option, Some, None}
use Rattle.std.specs.List.{AllZip}
use Rattle.avro_schema.specs.Value.{Value}
use Rattle.avro_schema.specs.Node.{Node, root_of}
use Rattle.avro_schema.specs.Fits.{each_fits}
use Rattle.avro_schema.specs.Seen.{values_from}
use Rattle.avro_file.specs.BlockFails.{FileLimitValues, BlockReading, DataAreWhole, DataFail}
use Rattle.avro_file.specs.Copied.{Resolution, unchanged, into}
use Rattle.avro_file.specs.FileFault.{FileFault, in_block, BlockFault}

-- how data are read: into a reader's schema, if there is one
abbrev pub resolution : Option (List Node) → Resolution
resolution None = unchanged
resolution (Some reader) = into reader

-- the data alone: no copy is made of them
abbrev pub reading : FileLimitValues → List Node → List ℕ → Option (List Node) → BlockReading
reading limits nodes sync reader =
    record { nodes = nodes; sync = sync; limits = limits; resolve = resolution reader nodes; copied = false }

-- the body is exactly `count` complete data, and each answer stands for what is made of its datum
pub record StandForData {O : Type 0} (stands : O → Value → Type 0) (r : BlockReading) (count : ℕ) (body : List ℕ) (outs : List O) : Type 0 where
  pub values : List Value
  pub whole : DataAreWhole r count body (values_from values)
  pub stand : AllZip stands outs values

-- the schema of what is read: the reader's, if there is one
abbrev pub read_nodes : List Node → Option (List Node) → List Node
read_nodes nodes None = nodes
read_nodes nodes (Some reader) = reader

-- each answer stands for a datum that fits this schema
pub record FitAll {O : Type 0} (stands : O → Value → Type 0) (nodes : List Node) (outs : List O) : Type 0 where
  pub values : List Value
  pub fit : each_fits nodes (root_of nodes) (values_from values) ≡ true
  pub stand : AllZip stands outs values

-- the fault is one of the data of this block
abbrev pub IsDataFault : BlockReading → ℕ → ℕ → List ℕ → FileFault → Type 0
IsDataFault r number count body f = (g : BlockFault) × (f ≡ in_block number g) × DataFail r count body g
