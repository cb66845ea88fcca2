-- What a call tells its caller.
use Rattle.std.specs.Prelude.{◌≢◌, ℕ, List, [], codes}
use Rattle.avro_schema_json.specs.Refusals.{schema_code}
use Rattle.avro_certificate.specs.CertificateRead.{certificate_code}
use Rattle.avro_answer.specs.RefusalText.{refusal_text}
use Rattle.avro_answer.specs.declared.refusal.Refusal.{Refusal}
use Rattle.avro_c.specs.Buffer.{IsPut}

-- what is written is a text that is an answer with this status
pub record IsTold (is_answer : List ℕ → ℕ → Type 0) (before after : List ℕ) (wanted status : ℕ) : Type 0 where
  pub text : List ℕ
  pub answered : is_answer text status
  pub put : IsPut text before after wanted

-- the line that the program prints of a text in a file of this name
abbrev pub refusal_line : Refusal → List ℕ
refusal_line (Refusal.Writer e) = refusal_text (codes "writer") (schema_code e)
refusal_line (Refusal.Reader e) = refusal_text (codes "reader") (schema_code e)
refusal_line (Refusal.Certificate e) = refusal_text (codes "certificate") (certificate_code e)
refusal_line Refusal.OutOfMemory = []

-- what is written is the line of a refusal that is true of the texts, and is not that memory ran out
pub record IsRefused (says : Refusal → Type 0) (before after : List ℕ) (wanted : ℕ) : Type 0 where
  pub refusal : Refusal
  pub of_texts : refusal ≢ Refusal.OutOfMemory
  pub said : says refusal
  pub put : IsPut (refusal_line refusal) before after wanted
