-- The first fault of a block, in the order in which its parts are looked at.
use Rattle.std.specs.Prelude.{◌≡◌, ◌≢◌, ◌⊎◌, ℕ, ◌+◌, ◌^◌, ◌<◌, ◌≤◌, pos, negsuc, Bool, true, ◌&&◌, List, ◌++◌, length, take, drop, Ok, Err}
use Rattle.std.specs.List.{concat}
use Rattle.avro_zigzag.specs.NumberFault.{LongFails}
use Rattle.avro_zigzag.specs.declared.VarError.{VarError}
use Rattle.avro_zigzag.specs.declared.VarError.TheVariants.{EndOfInput}
use Rattle.avro_schema.specs.Value.{Value, Values, no_values, value, values_count}
use Rattle.avro_schema.specs.Node.{Node, root_of}
use Rattle.avro_schema.specs.Fits.{LimitValues, each_fits, is_within}
use Rattle.avro_cursor.specs.Encoding.{EachSpelled, Encodes, plain, plain_values}
use Rattle.avro_cursor.specs.Fault.{ReadFault, limit_exceeded}
use Rattle.avro_cursor.specs.Breaks.{Breaks, BreaksAfter, StartsWithLong}
use Rattle.avro_compare.specs.Fault.{ResolutionFault}
use Rattle.avro_compare.specs.Resolve.{Resolved}
use Rattle.avro_file.specs.Copied.{EachResolved}
use Rattle.avro_file.specs.FileFault.{CountFault, invalid, negative, BlockFault, invalid_count, bytes_left, other_marker, limit_passed, large_datum, invalid_datum, unresolved_datum, cut_block}

-- the limits of a file: the bytes of a header, of a block's data, the data of a block, and each datum
pub record FileLimitValues : Type 0 where
  pub header : ℕ
  pub block : ℕ
  pub per_block : ℕ
  pub datum : LimitValues

-- the most blocks of a file
abbrev pub max_blocks : ℕ
max_blocks = 2 ^ 32

-- a number that is not a count: invalid or negative; a truncated one is neither
pub data CountFails (bytes : List ℕ) : CountFault → Type 0 where
  number_fails : (e : VarError) → LongFails bytes e → e ≢ EndOfInput → CountFails bytes (invalid e)
  is_negative : (n : ℕ) (number rest : List ℕ) → StartsWithLong (negsuc n) bytes number rest → CountFails bytes negative

-- a number is truncated
abbrev pub CountIsCut : List ℕ → Type 0
CountIsCut bytes = LongFails bytes EndOfInput

-- count and size, and what follows them
pub record BlockBegins (bytes : List ℕ) (count size : ℕ) (rest : List ℕ) : Type 0 where
  pub count_bytes : List ℕ
  pub behind_count : List ℕ
  pub size_bytes : List ℕ
  pub counted : StartsWithLong (pos count) bytes count_bytes behind_count
  pub sized : StartsWithLong (pos size) behind_count size_bytes rest

-- each datum is within limits
abbrev pub each_within : LimitValues → Values → Bool
each_within limits no_values = true
each_within limits (value v vs) = is_within limits v && each_within limits vs

-- what blocks are read by; a copy has a limit on its own blocks, too
pub record BlockReading : Type 0 where
  pub nodes : List Node
  pub sync : List ℕ
  pub limits : FileLimitValues
  pub resolve : Value → Resolved
  pub copied : Bool

-- the bytes of output are over the limit on a block
abbrev pub IsTooMuch : BlockReading → List ℕ → Type 0
IsTooMuch r bytes = (r.copied ≡ true) × (r.limits.block < length bytes)

-- the bytes of output are within the limit on a block
abbrev pub IsNotTooMuch : BlockReading → List ℕ → Type 0
IsNotTooMuch r bytes = r.copied ≡ true → length bytes ≤ r.limits.block

-- a number of complete data are these bytes, each within limits, and these are made of them
pub record DataAreWhole (r : BlockReading) (done : ℕ) (front : List ℕ) (us : Values) : Type 0 where
  pub values : Values
  pub items : List (List ℕ)
  pub counted : values_count values ≡ done
  pub fitting : each_fits r.nodes (root_of r.nodes) values ≡ true
  pub spelled : EachSpelled values items
  pub bytes_are : front ≡ concat items
  pub within : each_within r.limits.datum values ≡ true
  pub resolved : EachResolved r.resolve values us
  pub small : IsNotTooMuch r (plain_values us)

-- a datum within limits stands after them
pub record DatumStands (r : BlockReading) (front body : List ℕ) (v : Value) : Type 0 where
  pub bytes : List ℕ
  pub rest : List ℕ
  pub encoded : Encodes r.nodes (root_of r.nodes) v bytes
  pub within : is_within r.limits.datum v ≡ true
  pub split : body ≡ front ++ bytes ++ rest

-- what the fault of a datum is in its block
abbrev pub datum_fault : ℕ → ReadFault → BlockFault
datum_fault m limit_exceeded = large_datum m
datum_fault m f = invalid_datum m f

-- the data of a block, of which there is a number
pub data DataFail (r : BlockReading) (count : ℕ) (body : List ℕ) : BlockFault → Type 0 where
  datum_breaks : {g : BlockFault} (m : ℕ) (front : List ℕ) (us : Values) (f : ReadFault) → m < count → DataAreWhole r m front us
      → BreaksAfter (Breaks r.nodes r.limits.datum (root_of r.nodes)) front body f → g ≡ datum_fault m f
      → DataFail r count body g
  datum_unresolved : (m : ℕ) (front : List ℕ) (us : Values) (v : Value) (f : ResolutionFault) → m < count → DataAreWhole r m front us
      → DatumStands r front body v → r.resolve v ≡ Err f → DataFail r count body (unresolved_datum m f)
  too_much : (m : ℕ) (front : List ℕ) (us : Values) (v u : Value) → m < count → DataAreWhole r m front us
      → DatumStands r front body v → r.resolve v ≡ Ok u → IsTooMuch r (plain_values us ++ plain u) → DataFail r count body limit_passed
  some_left : (front rest : List ℕ) (us : Values) → DataAreWhole r count front us → body ≡ front ++ rest → 0 < length rest
      → DataFail r count body bytes_left

-- the first fault of a block after a number of others, in the order in which its parts are checked; `ended` says that
-- the input reported its end after the bytes
pub data BlockFails (r : BlockReading) (number : ℕ) (ended : Type 0) (bytes : List ℕ) : BlockFault → Type 0 where
  too_many_blocks : max_blocks ≤ number → 0 < length bytes → BlockFails r number ended bytes limit_passed
  count_fails : {f : CountFault} → number < max_blocks → CountFails bytes f → BlockFails r number ended bytes (invalid_count f)
  count_cut : number < max_blocks → 0 < length bytes → CountIsCut bytes → ended → BlockFails r number ended bytes cut_block
  size_fails : {f : CountFault} (n : ℕ) (count rest : List ℕ) → number < max_blocks → StartsWithLong (pos n) bytes count rest
      → CountFails rest f → BlockFails r number ended bytes (invalid_count f)
  size_cut : (n : ℕ) (count rest : List ℕ) → number < max_blocks → StartsWithLong (pos n) bytes count rest → CountIsCut rest → ended
      → BlockFails r number ended bytes cut_block
  large : (count size : ℕ) (rest : List ℕ) → number < max_blocks → BlockBegins bytes count size rest
      → (r.limits.per_block < count) ⊎ (r.limits.block < size) → BlockFails r number ended bytes limit_passed
  cut : (count size : ℕ) (rest : List ℕ) → number < max_blocks → BlockBegins bytes count size rest → count ≤ r.limits.per_block
      → size ≤ r.limits.block → length rest < size + 16 → ended → BlockFails r number ended bytes cut_block
  marker_differs : (count size : ℕ) (rest : List ℕ) → number < max_blocks → BlockBegins bytes count size rest → count ≤ r.limits.per_block
      → size ≤ r.limits.block → size + 16 ≤ length rest → take 16 (drop size rest) ≢ r.sync → BlockFails r number ended bytes other_marker
  data_fail : {f : BlockFault} (count size : ℕ) (rest : List ℕ) → number < max_blocks → BlockBegins bytes count size rest
      → count ≤ r.limits.per_block → size ≤ r.limits.block → size + 16 ≤ length rest → take 16 (drop size rest) ≡ r.sync
      → DataFail r count (take size rest) f → BlockFails r number ended bytes f
