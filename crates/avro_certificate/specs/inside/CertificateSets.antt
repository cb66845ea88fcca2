-- What a refusal of the lines of a text says, whether or not they rise.
use Rattle.std.specs.Prelude.{◌≡◌, ℕ, List}
use Rattle.avro_compare.specs.Children.{Pair}
use Rattle.avro_certificate.specs.CertificateText.{certificate_text}
use Rattle.avro_certificate.specs.declared.error.CertError.{CertError}

abbrev pub RefusesSets : CertError → List ℕ → Type 0
RefusesSets CertError.Malformed text = (dead : List ℕ) (pairs : List Pair) → text ≡ certificate_text dead pairs → ⊥
RefusesSets CertError.NumberTooLarge text = ⊥
RefusesSets CertError.OutOfMemory text = Unit {0}
