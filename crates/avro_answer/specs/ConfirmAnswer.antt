-- What `avro confirm` answers of three texts: the bytes that it prints, and its exit status.
use Rattle.std.specs.Prelude.{◌≡◌, ◌≢◌, ◌↔◌, ℕ, true, false, List, codes}
use Rattle.avro_schema.specs.Node.{Node}
use Rattle.avro_compare.specs.Children.{Pair}
use Rattle.avro_certificate.specs.Closed.{is_closed}
use Rattle.avro_certificate.specs.CertificateText.{CertText, are_small}
use Rattle.avro_certificate.specs.CertificateRead.{Refuses}
use Rattle.avro_certificate.specs.declared.error.CertError.{CertError}
use Rattle.avro_answer.specs.JsonAnswer.{json_line, confirmed_tree}
use Rattle.avro_answer.specs.ReadText.{IsReadAs}
use Rattle.avro_answer.specs.RefusalText.{HasCode, HasSchema}
use Rattle.avro_answer.specs.declared.refusal.Refusal.{Refusal}

-- the answer `confirmed`, with status 0
abbrev pub IsConfirmed : List ℕ → ℕ → Type 0
IsConfirmed text status = (text ≡ codes "confirmed\n") × (status ≡ 0)

-- the answer `not confirmed`, with status 1
abbrev pub IsNotConfirmed : List ℕ → ℕ → Type 0
IsNotConfirmed text status = (text ≡ codes "not confirmed\n") × (status ≡ 1)

-- What is answered of two schemas and the two sets of a certificate: confirmed if and only if the sets are closed.
pub record SetsAnswer (writer reader : List Node) (dead : List ℕ) (pairs : List Pair) (text : List ℕ) (status : ℕ) : Type 0 where
  pub confirmed : IsConfirmed text status ↔ (is_closed writer reader dead pairs ≡ true)
  pub refused : IsNotConfirmed text status ↔ (is_closed writer reader dead pairs ≡ false)

-- the line of JSON of two schemas and the two sets: whether the sets are closed
abbrev pub SetsJson : List Node → List Node → List ℕ → List Pair → List ℕ → Type 0
SetsJson writer reader dead pairs text = text ≡ json_line (confirmed_tree (is_closed writer reader dead pairs))

-- The same of the status alone, in either form of the answer: 0 if and only if the sets are closed, 1 if and only if
-- not.
pub record SetsStatus (writer reader : List Node) (dead : List ℕ) (pairs : List Pair) (status : ℕ) : Type 0 where
  pub confirmed : (status ≡ 0) ↔ (is_closed writer reader dead pairs ≡ true)
  pub refused : (status ≡ 1) ↔ (is_closed writer reader dead pairs ≡ false)

-- What is answered of three texts: two declare schemas and are not too long, the third is that of a certificate with
-- numbers up to 4,095, and it is the answer of those.
pub record ConfirmAnswer (writer reader certificate text : List ℕ) (status : ℕ) : Type 0 where
  pub written : List Node
  pub read : List Node
  pub dead : List ℕ
  pub pairs : List Pair
  pub declares_written : IsReadAs writer written
  pub declares_read : IsReadAs reader read
  pub certifies : CertText dead pairs certificate
  pub small : are_small dead pairs ≡ true
  pub answered : SetsAnswer written read dead pairs text status

-- The same of the status alone, in either form of the answer.
pub record ConfirmStatus (writer reader certificate : List ℕ) (status : ℕ) : Type 0 where
  pub written : List Node
  pub read : List Node
  pub dead : List ℕ
  pub pairs : List Pair
  pub declares_written : IsReadAs writer written
  pub declares_read : IsReadAs reader read
  pub certifies : CertText dead pairs certificate
  pub small : are_small dead pairs ≡ true
  pub answered : SetsStatus written read dead pairs status

-- The same of the line of JSON, with that status.
pub record ConfirmJson (writer reader certificate line : List ℕ) (status : ℕ) : Type 0 where
  pub written : List Node
  pub read : List Node
  pub dead : List ℕ
  pub pairs : List Pair
  pub declares_written : IsReadAs writer written
  pub declares_read : IsReadAs reader read
  pub certifies : CertText dead pairs certificate
  pub small : are_small dead pairs ≡ true
  pub known : SetsStatus written read dead pairs status
  pub told : SetsJson written read dead pairs line

-- the text is that of a certificate with numbers up to 4,095
abbrev pub HasCertificate : List ℕ → Type 0
HasCertificate text = (dead : List ℕ) × (pairs : List Pair) × CertText dead pairs text × (are_small dead pairs ≡ true)

-- What a refusal says of three texts: the first that is refused is this one. Memory that runs out says nothing.
abbrev pub RefusesOneOf : List ℕ → List ℕ → List ℕ → Refusal → Type 0
RefusesOneOf writer reader certificate (Refusal.Writer e) = HasCode writer e
RefusesOneOf writer reader certificate (Refusal.Reader e) = HasSchema writer × HasCode reader e
RefusesOneOf writer reader certificate (Refusal.Certificate e) = HasSchema writer × HasSchema reader × (e ≢ CertError.OutOfMemory) × Refuses e certificate
RefusesOneOf writer reader certificate Refusal.OutOfMemory = Unit {0}
