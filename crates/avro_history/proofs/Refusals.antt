-- What each refusal says of a certificate, and of the text of a history.
use Rattle.std.proofs.Common.{◌≡◌, ℕ, List, subst}
use Rattle.std.specs.Prelude.{Err}
use Rattle.avro_certificate.specs.CertificateRead.{IsMalformed, HasGreatNumber, Refuses, UnlessOutOfMemory}
use Rattle.avro_certificate.specs.declared.error.CertError.{CertError}
use Rattle.avro_certificate.specs.declared.kept.Certificate.{Certificate}

pub great_number : (e : CertError) (text : List ℕ) → e ≡ CertError.NumberTooLarge → Refuses e text → HasGreatNumber text
great_number e text is h = subst (λ (x : CertError). Refuses x text) is h

pub no_certificate : (e : CertError) (text : List ℕ) → e ≡ CertError.Malformed → Refuses e text → IsMalformed text
no_certificate e text is h = subst (λ (x : CertError). Refuses x text) is h

pub not_great : (e : CertError) (P : Certificate → Type 0) → e ≡ CertError.NumberTooLarge → UnlessOutOfMemory (Err e) P → ⊥
not_great e P is h = subst (λ (x : CertError). UnlessOutOfMemory (Err x) P) is h

pub not_malformed : (e : CertError) (P : Certificate → Type 0) → e ≡ CertError.Malformed → UnlessOutOfMemory (Err e) P → ⊥
not_malformed e P is h = subst (λ (x : CertError). UnlessOutOfMemory (Err x) P) is h
