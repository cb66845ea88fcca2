-- What the program refuses of the texts of files, where it is known what these hold: the exit status 3.
use Rattle.std.specs.Prelude.{◌≡◌, ◌≢◌, ◌⊎◌, ⊤, ℕ, List, Some}
use Rattle.std.specs.Option.{IfSome}
use Rattle.avro_certificate.specs.CertificateRead.{Refuses}
use Rattle.avro_certificate.specs.declared.error.CertError.{CertError}
use Rattle.avro_answer.specs.ConfirmAnswer.{RefusesOneOf}
use Rattle.avro_answer.specs.RefusalText.{HasCode, HasSchema, RefusesPair}
use Rattle.avro_answer.specs.declared.refusal.Refusal.{Refusal}
use Rattle.avro_tool.specs.PlainAnswers.{Known}
use Rattle.avro_tool.specs.PlainWords.{PlainWords}
use Rattle.avro_tool.specs.declared.failure.Failure.{Failure}

-- a failure by which nothing is refused
abbrev pub RefusesNothing : Failure → Type 0
RefusesNothing (Failure.Schema word e) = ⊥
RefusesNothing (Failure.Certificate word e) = ⊥
RefusesNothing (Failure.Container word e) = ⊥
RefusesNothing (Failure.Data word e) = ⊥
RefusesNothing failure = Unit {0}

-- a failure to read a schema: where its file is known, the text has the code that is told
abbrev pub RefusesSchema : Known → List ℕ → Failure → Type 0
RefusesSchema known word (Failure.Schema named e) = (named.now ≡ word) × IfSome (known word) (λ text. HasCode text e)
RefusesSchema known word failure = RefusesNothing failure

-- a failure to read a certificate
abbrev pub RefusesCertificateOf : Known → List ℕ → Failure → Type 0
RefusesCertificateOf known word (Failure.Certificate named e) = (named.now ≡ word) × IfSome (known word) (λ text. (e ≢ CertError.OutOfMemory) × Refuses e text)
RefusesCertificateOf known word failure = RefusesNothing failure

-- a failure to read two schemas: the first that is refused is this one
abbrev pub RefusesTwo : Known → List ℕ → List ℕ → Failure → Type 0
RefusesTwo known writer reader (Failure.Schema named e) =
    ((named.now ≡ writer) × IfSome (known writer) (λ text. HasCode text e))
    ⊎ ((named.now ≡ reader) × IfSome (known writer) HasSchema × IfSome (known reader) (λ text. HasCode text e))
RefusesTwo known writer reader failure = RefusesNothing failure

-- a failure to read two schemas and a certificate
abbrev pub RefusesThree : Known → List ℕ → List ℕ → List ℕ → Failure → Type 0
RefusesThree known writer reader certificate (Failure.Certificate named e) =
    (named.now ≡ certificate) × IfSome (known writer) HasSchema × IfSome (known reader) HasSchema
    × IfSome (known certificate) (λ text. (e ≢ CertError.OutOfMemory) × Refuses e text)
RefusesThree known writer reader certificate failure = RefusesTwo known writer reader failure

-- what the status of plain words that are refused says of the texts of two files
abbrev pub RefusesPairOf : Known → List ℕ → List ℕ → Type 0
RefusesPairOf known writer reader = (w r : List ℕ) → known writer ≡ Some w → known reader ≡ Some r
    → (refusal : Refusal) × (refusal ≢ Refusal.OutOfMemory) × RefusesPair w r refusal

-- and of all files; nothing is said here of the commands that judge no pair
abbrev pub RefusesPlain : Known → PlainWords → Type 0
RefusesPlain known (PlainWords.judge writer reader) = RefusesPairOf known writer reader
RefusesPlain known (PlainWords.explain writer reader) = RefusesPairOf known writer reader
RefusesPlain known (PlainWords.confirm writer reader certificate) = (w r c : List ℕ) → known writer ≡ Some w → known reader ≡ Some r → known certificate ≡ Some c
    → (refusal : Refusal) × (refusal ≢ Refusal.OutOfMemory) × RefusesOneOf w r c refusal
RefusesPlain known plain = ⊤
