-- The fingerprint of a schema (Avro 1.11, "Schema Fingerprints").
use Rattle.std.specs.Prelude.{◌≡◌, ℕ, List}
use Rattle.sha2.specs.Sha256.{sha256}
use Rattle.hex.specs.Hex.{encode_lower}
use Rattle.avro_schema.specs.Node.{Node}
use Rattle.avro_canonical.specs.Canonical.{IsCanonical}

-- the SHA-256 of the canonical text's bytes
pub record IsFingerprint (nodes : List Node) (digest : List ℕ) : Type 0 where
  pub text : List ℕ
  pub canonical : IsCanonical nodes text
  pub digested : digest ≡ sha256 text

-- the lowercase hexadecimal digits of that
pub record IsFingerprintText (nodes : List Node) (digits : List ℕ) : Type 0 where
  pub digest : List ℕ
  pub fingerprint : IsFingerprint nodes digest
  pub spelled : digits ≡ encode_lower digest
