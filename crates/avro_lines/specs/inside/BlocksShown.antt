-- Blocks that were taken and shown, one after another.
use Rattle.std.specs.Prelude.{◌≡◌, ◌≢◌, ◌⊎◌, ℕ, ◌+◌, ◌-◌, ◌≤◌, List, [], ◌∷◌, ◌++◌, length, Option, Some, None, Result, MatchResult}
use Rattle.avro_schema.specs.Node.{Node}
use Rattle.avro_schema.specs.Value.{Values, values_count}
use Rattle.avro_file.specs.BlockFails.{FileLimitValues, BlockFails, max_blocks}
use Rattle.avro_file.specs.DataRead.{reading}
use Rattle.avro_file.specs.File.{HeaderValue}
use Rattle.avro_file.specs.FileFault.{FileFault, BlockFault, in_block}
use Rattle.avro_file.specs.FileSeen.{file_fault}
use Rattle.avro_file.specs.Named.{IsNamed}
use Rattle.avro_file.specs.declared.error.CopyError.{CopyError}
use Rattle.avro_container.specs.Moved.{Moved}
use Rattle.avro_container.specs.Steps.{AreBlocksWithin, total_data}
use Rattle.avro_lines.specs.Shown.{HasEnough, IsShown}
use Rattle.avro_lines.specs.inside.OutputTold.{Fails}

-- what is left of a limit after so many lines
abbrev pub lessened : Option ℕ → ℕ → Option ℕ
lessened None count = None
lessened (Some most) count = Some (most - count)

-- the bytes taken are blocks after a number of others, and the lines are what they show
pub record BlocksShow (limits : FileLimitValues) (reader : Option (List Node)) (h : HeaderValue) (limit : Option ℕ) (number : ℕ) (blocks : List Values) (taken lines : List ℕ) : Type 0 where
  pub are_blocks : AreBlocksWithin limits h blocks taken
  pub few : number + length blocks ≤ max_blocks
  pub shown : IsShown reader limit h blocks lines

-- blocks begin what was taken, and a first part of what they show was put or is held after what was
pub record Shows (limits : FileLimitValues) (reader : Option (List Node)) (h : HeaderValue) (limit : Option ℕ) (number : ℕ) (before after : List ℕ) (holds : List Values → List ℕ → List ℕ → Type 0) (taken put : List ℕ) : Type 0 where
  pub blocks : List Values
  -- their bytes, and what was taken after them
  pub front : List ℕ
  pub rest : List ℕ
  -- their lines, and what of these was not put and is not held
  pub lines : List ℕ
  pub later : List ℕ
  pub show : BlocksShow limits reader h limit number blocks front lines
  pub split : taken ≡ front ++ rest
  pub puts : before ++ lines ≡ (put ++ after) ++ later
  -- what else is said of the blocks, of what was taken after them, and of what is to come
  pub is_so : holds blocks rest later

-- nothing was taken after the blocks, all of what they show was put or is held, and this holds of them
abbrev pub IsAll : (List Values → Type 0) → List Values → List ℕ → List ℕ → Type 0
IsAll P blocks rest later = (rest ≡ []) × (later ≡ []) × P blocks

-- one block of so many data, or none at the end of the input
abbrev pub IsNext : Option ℕ → Type 0 → List Values → Type 0
IsNext (Some count) ended blocks = (values : Values) × (blocks ≡ values ∷ []) × (values_count values ≡ count)
IsNext None ended blocks = (blocks ≡ []) × ended

-- the blocks are all, or enough
abbrev pub IsEnd : Option ℕ → Type 0 → List Values → Type 0
IsEnd limit ended blocks = ended ⊎ HasEnough limit blocks

-- so many blocks, after which so many lines are left of the limit
abbrev pub Leaves : Option ℕ → ℕ → Option ℕ → List Values → Type 0
Leaves limit number left blocks = (length blocks ≡ number) × (left ≡ lessened limit (total_data blocks)) × (left ≡ Some 0 → HasEnough limit blocks)

-- the fault is one of this block
abbrev pub IsBlockFault : FileLimitValues → Option (List Node) → HeaderValue → ℕ → Type 0 → FileFault → List ℕ → Type 0
IsBlockFault limits reader h number ended f bytes =
    (g : BlockFault) × (f ≡ in_block number g) × BlockFails (reading limits h.nodes h.sync reader) number ended bytes g

-- the fault that an error reports is one of the block after these, and all of what these show was put or is held
abbrev pub IsFaultNext : FileLimitValues → Option (List Node) → HeaderValue → ℕ → Type 0 → CopyError → List Values → List ℕ → List ℕ → Type 0
IsFaultNext limits reader h number ended e blocks rest later =
    (f : FileFault) → file_fault e ≡ Some f → (later ≡ []) × IsBlockFault limits reader h (number + length blocks) ended f rest

-- bytes were taken and put, of which this holds, and no device failed
pub record Goes {I O : Type 0} (gives : I → List ℕ → I → Type 0) (lost : I → ℕ) (keeps : O → List ℕ → O → Type 0) (failures : O → ℕ) (i i' : I) (o o' : O) (holds : List ℕ → List ℕ → Type 0) : Type 0 where
  pub moved : Moved gives keeps i i' o o' holds
  -- the input did not fail
  pub input_works : lost i' ≡ lost i
  -- nor did the output
  pub output_works : failures o' ≡ failures o

-- bytes were taken and put, of which this holds, before an error
pub record Stops {I O : Type 0} (gives : I → List ℕ → I → Type 0) (lost : I → ℕ) (keeps : O → List ℕ → O → Type 0) (failures : O → ℕ) (stuck : O → Type 0) (i i' : I) (o o' : O) (holds : List ℕ → List ℕ → Type 0) (e : CopyError) : Type 0 where
  pub moved : Moved gives keeps i i' o o' holds
  pub named : IsNamed e
  -- no call before this one failed
  pub first : e ≢ CopyError.FailedBefore
  -- the input failed if the error says so
  pub input_fails : e ≡ CopyError.InputFailed → lost i' ≢ lost i
  -- the output failed only if the error says so
  pub output_works : e ≢ CopyError.OutputFailed → failures o' ≡ failures o
  -- and then it did
  pub output_fails : e ≡ CopyError.OutputFailed → Fails failures stuck o o'

-- the blocks after a header were shown up to a limit, or some of them before an error, by the result
abbrev pub ShowsOr : {I O A : Type 0} → (I → List ℕ → I → Type 0) → (I → Type 0) → (I → ℕ) → (O → List ℕ → O → Type 0) → (O → ℕ) → (O → Type 0)
    → FileLimitValues → Option (List Node) → HeaderValue → Option ℕ → I → I → O → O → List ℕ → Result A CopyError → Type 0
ShowsOr gives ended lost keeps failures stuck limits reader h limit i i' o o' left result =
    MatchResult result
    (λ _. Goes gives lost keeps failures i i' o o' (Shows limits reader h limit 0 [] left (IsAll (IsEnd limit (ended i')))))
    (λ e. Stops gives lost keeps failures stuck i i' o o' (Shows limits reader h limit 0 [] left (IsFaultNext limits reader h 0 (ended i') e)) e)
