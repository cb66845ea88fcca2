-- What `avro schema` answers of a text: the bytes that it prints.
use Rattle.std.specs.Prelude.{◌≡◌, ℕ, List, ◌++◌, length, codes}
use Rattle.avro_schema.specs.Node.{Node}
use Rattle.avro_canonical.specs.Canonical.{IsCanonical}
use Rattle.avro_canonical.specs.Fingerprint.{IsFingerprintText}
use Rattle.avro_certificate.specs.CertificateText.{decimal}
use Rattle.avro_answer.specs.ReadText.{IsReadAs}
use Rattle.avro_answer.specs.declared.schemas.Shown.{Shown}

-- the number of nodes, the canonical form, or the digits of the fingerprint, each with a line end
abbrev pub NodesAnswer : Shown → List Node → List ℕ → Type 0
NodesAnswer Shown.Count nodes text = text ≡ codes "ok " ++ decimal (length nodes) ++ codes "\n"
NodesAnswer Shown.Canonical nodes text = (form : List ℕ) × IsCanonical nodes form × (text ≡ form ++ codes "\n")
NodesAnswer Shown.Fingerprint nodes text = (digits : List ℕ) × IsFingerprintText nodes digits × (text ≡ digits ++ codes "\n")

-- the text declares a schema and is not too long, and it is the answer of that
pub record SchemaAnswer (shown : Shown) (schema text : List ℕ) : Type 0 where
  pub nodes : List Node
  pub declares : IsReadAs schema nodes
  pub answered : NodesAnswer shown nodes text
