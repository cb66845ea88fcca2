-- What is answered of two texts that are judged for a certificate: its text, and a status.
use Rattle.std.specs.Prelude.{◌≡◌, ◌≢◌, ℕ, true, List, []}
use Rattle.avro_schema.specs.Node.{Node}
use Rattle.avro_compare.specs.Children.{Pair}
use Rattle.avro_certificate.specs.Closed.{is_closed}
use Rattle.avro_certificate.specs.CertificateText.{CertText}
use Rattle.avro_judge.specs.JudgeRanges.{JudgeLimitValues}
use Rattle.avro_answer.specs.JudgeAnswer.{StatusAnswer}
use Rattle.avro_answer.specs.ReadText.{IsReadAs}

-- The text is that of a certificate whose sets are closed for these schemas.
pub record IsCertifiedBy (writer reader : List Node) (text : List ℕ) : Type 0 where
  pub dead : List ℕ
  pub pairs : List Pair
  pub certifies : CertText dead pairs text
  pub closed : is_closed writer reader dead pairs ≡ true

-- What is answered of two texts: both declare schemas and are not too long, the status is that of their verdict, and
-- after a yes the text is that of a certificate whose sets are closed, and after another verdict there is none.
pub record CertifyAnswer (writer reader : List ℕ) (limits : JudgeLimitValues) (text : List ℕ) (status : ℕ) : Type 0 where
  pub written : List Node
  pub read : List Node
  pub declares_written : IsReadAs writer written
  pub declares_read : IsReadAs reader read
  pub answered : StatusAnswer written read limits status
  pub certified : status ≡ 0 → IsCertifiedBy written read text
  pub bare : status ≢ 0 → text ≡ []
