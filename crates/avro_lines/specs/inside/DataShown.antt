-- Lines of data that are held or were put: what is held goes out before all else.
use Rattle.std.specs.Prelude.{◌≡◌, ℕ, List, [], ◌++◌, take, Some, None, Result, Ok, MatchResult}
use Rattle.std.specs.List.{concat}
use Rattle.avro_schema.specs.Fits.{LimitValues}
use Rattle.avro_schema.specs.Node.{Node, root_of}
use Rattle.avro_schema.specs.Value.{Value, Values}
use Rattle.avro_compare.specs.Resolve.{Resolved}
use Rattle.avro_display.specs.DisplayTree.{display_text}
use Rattle.avro_display.specs.Pieces.{PutsText}
use Rattle.avro_file.specs.BlockFails.{BlockReading, DataAreWhole}
use Rattle.avro_file.specs.DataRead.{IsDataFault}
use Rattle.avro_file.specs.DatumRead.{MakesOf}
use Rattle.avro_file.specs.FileFault.{FileFault}
use Rattle.avro_file.specs.FileSeen.{file_fault}
use Rattle.avro_file.specs.declared.error.CopyError.{CopyError}
use Rattle.avro_lines.specs.Lines.{line_of, lines_of}
use Rattle.avro_lines.specs.inside.OutputTold.{OutputTold}

-- what a text held and then a first part of some bytes are what was put between two states and then what the text holds
abbrev pub PutsPart : {O : Type 0} → (O → List ℕ → O → Type 0) → O → List ℕ → List ℕ → O → List ℕ → Type 0
PutsPart keeps from held bytes to left = (put later : List ℕ) × keeps from put to × (held ++ bytes ≡ (put ++ left) ++ later)

-- what was held and then some bytes were put or are held, and the output did not fail
pub record Puts {O : Type 0} (keeps : O → List ℕ → O → Type 0) (failures : O → ℕ) (from : O) (held bytes : List ℕ) (to : O) (left : List ℕ) : Type 0 where
  -- all of them
  pub puts : PutsText keeps from held bytes to left
  -- no call failed
  pub works : failures to ≡ failures from

-- of what was held and then some bytes a first part was put or is held, and this error stopped it
pub record PutsSome {O : Type 0} (keeps : O → List ℕ → O → Type 0) (failures : O → ℕ) (stuck : O → Type 0) (from : O) (held bytes : List ℕ) (to : O) (left : List ℕ) (e : CopyError) : Type 0 where
  -- a first part of them
  pub part : PutsPart keeps from held bytes to left
  -- what the error tells of the output
  pub told : OutputTold failures stuck from to e

-- one or the other, by the result
abbrev pub PutsOr : {O A : Type 0} → (O → List ℕ → O → Type 0) → (O → ℕ) → (O → Type 0) → O → List ℕ → List ℕ → O → List ℕ → Result A CopyError → Type 0
PutsOr keeps failures stuck from held bytes to left result =
    MatchResult result (λ _. Puts keeps failures from held bytes to left) (PutsSome keeps failures stuck from held bytes to left)

-- a datum stands at the front, of which this is made
abbrev pub Stands : BlockReading → List ℕ → ℕ → Value → Type 0
Stands r bytes len u = MakesOf r.nodes r.limits.datum r.resolve bytes len (Ok u)

-- a datum stands at the front, and its line is held after what was
pub record HoldsNext (r : BlockReading) (nodes : List Node) (bytes : List ℕ) (len : ℕ) (before after : List ℕ) : Type 0 where
  pub datum : Value
  pub stands : Stands r bytes len datum
  pub held : after ≡ before ++ line_of nodes datum

-- the lines of some data, one after another
abbrev pub text_of : List Node → Values → List ℕ
text_of nodes us = concat (lines_of nodes us)

-- the data up to an offset are a number of whole ones, and the lines of those after some are held after what was
pub record HoldsMore (r : BlockReading) (nodes : List Node) (some : Values) (done : ℕ) (front before after : List ℕ) : Type 0 where
  pub made : Values
  pub whole : DataAreWhole r done front made
  pub more : List ℕ
  pub lines : text_of nodes made ≡ text_of nodes some ++ more
  pub held : after ≡ before ++ more

-- the data up to an offset are a number of whole ones, and their lines were put or are held after what was
pub record HasShown {O : Type 0} (keeps : O → List ℕ → O → Type 0) (failures : O → ℕ) (r : BlockReading) (nodes : List Node) (done : ℕ) (front : List ℕ) (from : O) (held : List ℕ) (to : O) (left : List ℕ) : Type 0 where
  -- what is made of the data
  pub made : Values
  pub whole : DataAreWhole r done front made
  -- all their lines
  pub lines : Puts keeps failures from held (text_of nodes made) to left

-- the first lines of data
abbrev pub first_of : List Node → ℕ → Values → List ℕ
first_of nodes count us = concat (take count (lines_of nodes us))

-- the first lines of a block's data were put or are held after what was
pub record ShowsFirst {O : Type 0} (keeps : O → List ℕ → O → Type 0) (failures : O → ℕ) (r : BlockReading) (nodes : List Node) (all count : ℕ) (body : List ℕ) (from : O) (held : List ℕ) (to : O) (left : List ℕ) : Type 0 where
  -- what is made of the data
  pub made : Values
  pub whole : DataAreWhole r all body made
  -- the lines of the first of them
  pub lines : Puts keeps failures from held (first_of nodes count made) to left

-- why a block's data are not walked over
pub record WalkStops (r : BlockReading) (number all : ℕ) (body : List ℕ) (e : CopyError) : Type 0 where
  -- they have the fault that the error reports
  pub refused : (f : FileFault) → file_fault e ≡ Some f → IsDataFault r number all body f
  -- if it reports none, memory ran out
  pub memory : file_fault e ≡ None → e ≡ CopyError.OutOfMemory

-- why the first lines of a block's data were not all put and are not all held
pub data FirstStops {O : Type 0} (keeps : O → List ℕ → O → Type 0) (failures : O → ℕ) (stuck : O → Type 0) (r : BlockReading) (nodes : List Node) (number all count : ℕ) (body : List ℕ) (from : O) (held : List ℕ) (to : O) (left : List ℕ) (e : CopyError) : Type 0 where
  -- the data are not walked over, and nothing more was put or is held
  not_walked : WalkStops r number all body e → Puts keeps failures from held [] to left → FirstStops keeps failures stuck r nodes number all count body from held to left e
  -- the data are whole, and only a first part of the lines was put or is held
  cut : (made : Values) → DataAreWhole r all body made → PutsSome keeps failures stuck from held (first_of nodes count made) to left e
      → FirstStops keeps failures stuck r nodes number all count body from held to left e

-- a datum stands at the front, and this holds of the display of what is made of it
abbrev pub Displays : List Node → LimitValues → (Value → Resolved) → List Node → List ℕ → ℕ → (List ℕ → Type 0) → Type 0
Displays nodes limits resolve shown bytes len holds =
    (u : Value) × MakesOf nodes limits resolve bytes len (Ok u) × holds (display_text shown (root_of shown) u)
