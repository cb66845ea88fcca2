-- Data without bytes.
use Rattle.std.specs.Prelude.{◌≡◌, ℕ, List, [], Ok}
use Rattle.avro_schema.specs.Value.{Value}
use Rattle.avro_cursor.specs.Encoding.{plain}
use Rattle.avro_file.specs.BlockFails.{BlockReading}
use Rattle.avro_file.specs.DatumRead.{MakesOf}

-- no byte is an encoding of a datum within limits, of which this is made
abbrev pub IsMadeOfNone : BlockReading → Value → Type 0
IsMadeOfNone r u = MakesOf r.nodes r.limits.datum r.resolve [] 0 (Ok u)

-- there is such a datum
abbrev pub HasNoBytes : BlockReading → Type 0
HasNoBytes r = (u : Value) × IsMadeOfNone r u

-- there is such a datum, and `packed` is the plain encoding of what is made of it
abbrev pub PacksNoBytes : BlockReading → List ℕ → Type 0
PacksNoBytes r packed = (u : Value) × (packed ≡ plain u) × IsMadeOfNone r u
