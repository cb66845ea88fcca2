-- What reading one datum of a block answers, where `resolve` says what is made of the file's datum.
use Rattle.std.specs.Prelude.{◌≡◌, ℕ, ◌+◌, ◌^◌, ◌<◌, ◌≤◌, true, List, Option, Some, length, take, Result, Ok, Err, IfOk, option_map}
use Rattle.std.specs.Option.{IfSome}
use Rattle.avro_schema.specs.Value.{Value}
use Rattle.avro_schema.specs.Node.{Node, root_of}
use Rattle.avro_schema.specs.Fits.{LimitValues, is_within}
use Rattle.avro_cursor.specs.Encoding.{Encodes}
use Rattle.avro_cursor.specs.Fault.{ReadFault, end_of_input, invalid_number, invalid_boolean, invalid_text, unknown_index, invalid_length, wrong_block_size, duplicate_key, limit_exceeded, behind}
use Rattle.avro_cursor.specs.Breaks.{Breaks}
use Rattle.avro_cursor.specs.Seen.{read_fault}
use Rattle.avro_cursor.specs.declared.error.ReadError.{ReadError}
use Rattle.avro_compare.specs.Resolve.{Resolved}
use Rattle.avro_compare.specs.Seen.{fault_of}
use Rattle.avro_resolve.specs.Seen.{IfUnread, IfUnresolved}
use Rattle.avro_resolve.specs.declared.error.ReadResolveError.{ReadResolveError}
use Rattle.avro_file.specs.BlockFails.{datum_fault}
use Rattle.avro_file.specs.FileFault.{FileFault, in_block, unresolved_datum}

-- an encoding of a datum within limits is at the front, in `len` bytes, and `resolved` is made of the datum
pub record MakesOf (nodes : List Node) (limits : LimitValues) (resolve : Value → Resolved) (bytes : List ℕ) (len : ℕ) (resolved : Resolved) : Type 0 where
  pub datum : Value
  pub in_bytes : len ≤ length bytes
  pub encoded : Encodes nodes (root_of nodes) datum (take len bytes)
  pub within : is_within limits datum ≡ true
  pub resolves : resolve datum ≡ resolved

-- a datum is read at the front, or its fault is reported; `stands` says which datum an answer stands for
pub record ReadsDatum {O : Type 0} (stands : O → Value → Type 0) (nodes : List Node) (limits : LimitValues) (resolve : Value → Resolved) (bytes : List ℕ) (result : Result (O × ℕ) ReadResolveError) : Type 0 where
  pub found : IfOk result (λ r. (u : Value) × stands r.0 u × MakesOf nodes limits resolve bytes r.1 (Ok u))
  pub faulty : IfUnresolved result (λ f. (len : ℕ) × MakesOf nodes limits resolve bytes len (Err (fault_of f)))
  pub refused : IfUnread result (λ e. IfSome (read_fault e) (Breaks nodes limits (root_of nodes) bytes))

-- the offset of a fault; a limit has none
abbrev pub place_in : ReadFault → ℕ
place_in (end_of_input place) = place
place_in (invalid_number place) = place
place_in (invalid_boolean place) = place
place_in (invalid_text place) = place
place_in (unknown_index place) = place
place_in (invalid_length place) = place
place_in (wrong_block_size place) = place
place_in (duplicate_key place) = place
place_in limit_exceeded = 0

-- after `start` bytes the offset is still a machine number
abbrev pub FitsBehind : ℕ → ReadError → Type 0
FitsBehind start e = IfSome (read_fault e) (λ f. start + place_in f < 2 ^ 64)

-- the same of an error of reading for a reader; a fault of resolution has no offset
abbrev pub PlaceFits : ℕ → ReadResolveError → Type 0
PlaceFits start (ReadResolveError.Read e) = FitsBehind start e
PlaceFits start (ReadResolveError.Resolve f) = Unit {0}

-- the fault that an error of a datum is in its file: of the datum m of a block, which begins after `start` bytes of its data
abbrev pub error_fault : ℕ → ℕ → ℕ → ReadResolveError → Option FileFault
error_fault number m start (ReadResolveError.Read e) = option_map (λ f. in_block number (datum_fault m (behind start f))) (read_fault e)
error_fault number m start (ReadResolveError.Resolve f) = Some (in_block number (unresolved_datum m (fault_of f)))
