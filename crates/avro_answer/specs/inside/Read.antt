-- What a refusal says of the text of a reader, and of that of a certificate.
use Rattle.std.specs.Prelude.{◌≢◌, ℕ, List, Option, Some, None}
use Rattle.avro_certificate.specs.CertificateRead.{Refuses}
use Rattle.avro_certificate.specs.declared.error.CertError.{CertError}
use Rattle.avro_answer.specs.RefusalText.{HasCode, HasSchema}
use Rattle.avro_answer.specs.declared.refusal.Refusal.{Refusal}

abbrev pub RefusesReader : List ℕ → Refusal → Type 0
RefusesReader text (Refusal.Writer e) = ⊥
RefusesReader text (Refusal.Reader e) = HasCode text e
RefusesReader text (Refusal.Certificate e) = ⊥
RefusesReader text Refusal.OutOfMemory = Unit {0}

-- the same of that of a reader, if there is one
abbrev pub RefusesReaderOf : Option (List ℕ) → Refusal → Type 0
RefusesReaderOf None refusal = ⊥
RefusesReaderOf (Some text) refusal = RefusesReader text refusal

-- there is none, or it declares a schema and is not too long
abbrev pub IsReaderSchema : Option (List ℕ) → Type 0
IsReaderSchema None = Unit {0}
IsReaderSchema (Some text) = HasSchema text

abbrev pub RefusesCertificate : List ℕ → Refusal → Type 0
RefusesCertificate text (Refusal.Writer e) = ⊥
RefusesCertificate text (Refusal.Reader e) = ⊥
RefusesCertificate text (Refusal.Certificate e) = (e ≢ CertError.OutOfMemory) × Refuses e text
RefusesCertificate text Refusal.OutOfMemory = Unit {0}
