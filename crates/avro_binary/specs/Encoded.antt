-- What encoding a datum returns, and what it leaves in its output.
use Rattle.std.specs.Prelude.{◌≡◌, true, false, ℕ, List, ◌++◌, Result, Err, ◌⊎◌, OnOk, OnErr}
use Rattle.avro_schema.specs.Value.{Value}
use Rattle.avro_schema.specs.Node.{Node}
use Rattle.avro_schema.specs.Fits.{fits}
use Rattle.avro_cursor.specs.Encoding.{plain}
use Rattle.avro_binary.specs.declared.encode_error.EncodeError.{EncodeError}
use Rattle.avro_binary.specs.declared.encode_error.EncodeError.TheVariants.{DoesNotFit, OutOfMemory}

-- What encoding returns, and leaves in its output: the plain encoding of a datum that fits after what was there, or
-- only what was there.
pub record IsEncoded {A : Type 0} (nodes : List Node) (n : Node) (v : Value) (old new : List ℕ) (result : Result A EncodeError) : Type 0 where
  -- the plain encoding of a datum that fits comes after what was there
  pub appended : OnOk result (new ≡ old ++ plain v)
  pub fitting : OnOk result (fits nodes n v ≡ true)
  -- a datum that doesn't fit is refused for that, unless memory ran out, and no other is
  pub unfit : fits nodes n v ≡ false → (result ≡ Err DoesNotFit) ⊎ (result ≡ Err OutOfMemory)
  pub refused : result ≡ Err DoesNotFit → fits nodes n v ≡ false
  -- after a refusal the output is as it was
  pub unchanged : OnErr result (new ≡ old)
