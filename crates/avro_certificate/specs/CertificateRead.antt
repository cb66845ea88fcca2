-- What a refusal of a certificate's text says of it.
use Rattle.std.specs.Prelude.{◌≡◌, ℕ, ◌<◌, ◌⊎◌, false, List, length, codes, Ok, Err}
use Rattle.std.specs.declared.result.Result.{Result}
use Rattle.avro_compare.specs.Children.{Pair}
use Rattle.avro_certificate.specs.CertificateText.{CertText, certificate_text, are_small}
use Rattle.avro_certificate.specs.declared.error.CertError.{CertError}
use Rattle.avro_certificate.specs.declared.kept.Certificate.{Certificate}

-- the text is not that of a certificate, or is too long to be read
abbrev pub IsMalformed : List ℕ → Type 0
IsMalformed text = (268435456 < length text) ⊎ ((dead : List ℕ) (pairs : List Pair) → CertText dead pairs text → ⊥)

-- the text has the lines of a certificate, and some number is over 4,095
pub record HasGreatNumber (text : List ℕ) : Type 0 where
  pub dead : List ℕ
  pub pairs : List Pair
  pub written : text ≡ certificate_text dead pairs
  pub great : are_small dead pairs ≡ false

-- what an error says of a text: it is malformed, or has too great a number; nothing if memory ran out
abbrev pub Refuses : CertError → List ℕ → Type 0
Refuses CertError.Malformed text = IsMalformed text
Refuses CertError.NumberTooLarge text = HasGreatNumber text
Refuses CertError.OutOfMemory text = Unit {0}

-- a claim on the certificate that was read, made only if memory did not run out
abbrev pub UnlessOutOfMemory : Result Certificate CertError → (Certificate → Type 0) → Type 0
UnlessOutOfMemory (Ok certificate) P = P certificate
UnlessOutOfMemory (Err CertError.OutOfMemory) P = Unit {0}
UnlessOutOfMemory (Err e) P = ⊥

-- the code of an error, G1 to G3
abbrev pub certificate_code : CertError → List ℕ
certificate_code CertError.Malformed = codes "G1"
certificate_code CertError.NumberTooLarge = codes "G2"
certificate_code CertError.OutOfMemory = codes "G3"
