-- What packing a block gives.
use Rattle.std.specs.Prelude.{◌≡◌, ℕ, ◌≤◌, List, length, Bool, Option, Result}
use Rattle.std.specs.Global.{Vec}
use Rattle.std.specs.Option.{ForSome}
use Rattle.avro_schema.specs.Value.{Values, values_count}
use Rattle.avro_cursor.specs.Encoding.{plain, plain_values}
use Rattle.avro_resolve.specs.declared.error.ReadResolveError.{ReadResolveError}
use Rattle.avro_file.specs.BlockFails.{FileLimitValues, BlockReading, DataAreWhole, BlockFails}
use Rattle.avro_file.specs.Copied.{Job, EachResolved}
use Rattle.avro_file.specs.File.{HeaderValue}
use Rattle.avro_file.specs.DatumRead.{ReadsDatum}
use Rattle.avro_file.specs.FileFault.{FileFault, in_block, BlockFault}
use Rattle.avro_file.specs.NoBytes.{PacksNoBytes}
use Rattle.avro_packed.specs.Appended.{AppendsWithin}
use Rattle.avro_container.specs.Steps.{IsBlockWithin, reading_of}

-- `count` data stand whole as `body`, and `packed` are the plain encodings of what is made of them
pub record PacksData (r : BlockReading) (count : ℕ) (body packed : List ℕ) : Type 0 where
  pub made : Values
  pub whole : DataAreWhole r count body made
  pub packed_are : packed ≡ plain_values made

-- a datum is read at the front of the bytes, and the plain encoding of what is made of it stands after the earlier ones, where
-- they are within the limit
abbrev pub PacksNext : BlockReading → List ℕ → List ℕ → List ℕ → Result (Bool × ℕ) ReadResolveError → Type 0
PacksNext r before after bytes result = ReadsDatum {O = Bool} (λ fits u. AppendsWithin r.limits.block before after (plain u) fits) r.nodes r.limits.datum r.resolve bytes result

-- what is kept is the plain encoding of what is made of a datum without bytes
abbrev pub IsKeptOf : BlockReading → Option (Vec ℕ) → Type 0
IsKeptOf r kept = ForSome kept (λ unit. ∥ PacksNoBytes r unit.items ∥₁)

-- the bytes are a block of `count` data within the limits, and `packed` are the plain encodings of what is made of them
pub record PacksBlock (job : Job) (limits : FileLimitValues) (h : HeaderValue) (count : ℕ) (bytes packed : List ℕ) : Type 0 where
  pub values : Values
  pub made : Values
  pub is_block : IsBlockWithin limits h values bytes
  pub counted : values_count values ≡ count
  pub resolved : EachResolved (job.resolve h.nodes) values made
  pub packed_are : packed ≡ plain_values made
  pub small : length (plain_values made) ≤ limits.block

-- the fault is one of this block, which is copied
abbrev pub IsCopyFault : Job → FileLimitValues → HeaderValue → ℕ → Type 0 → List ℕ → FileFault → Type 0
IsCopyFault job limits h number ended bytes f =
    (g : BlockFault) × (f ≡ in_block number g) × BlockFails (reading_of job limits h) number ended bytes g
