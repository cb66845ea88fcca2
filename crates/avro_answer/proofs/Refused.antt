-- What a refusal of one text says of all.
use Rattle.std.proofs.Common.{◌≡◌, ◌∙◌, ℕ, ◌<◌, ◌⊎◌, inl, inr, List, length, Result, sym, ap, subst}
use Rattle.std.specs.Prelude.{IsErrOf}
use Rattle.avro_schema.specs.declared.schema.Schema.{Schema}
use Rattle.avro_schema.specs.Node.{Node}
use Rattle.avro_schema_json.specs.Declaration.{max_text, IsNoJson}
use Rattle.avro_schema_json.specs.TextRefusals.{IsRefusalOf}
use Rattle.avro_schema_json.specs.declared.error.SchemaError.{SchemaError}
use Rattle.avro_answer.proofs.public.RefusedTexts.{has_code, memory_or_not}
use Rattle.avro_answer.specs.ConfirmAnswer.{RefusesOneOf}
use Rattle.avro_answer.specs.ReadText.{IsReadAs}
use Rattle.avro_answer.specs.RefusalText.{RefusesOne, RefusesPair}
use Rattle.avro_answer.specs.inside.Read.{RefusesReader, RefusesCertificate}
use Rattle.avro_answer.specs.declared.refusal.Refusal.{Refusal}

module _ (text : List ℕ) (e : SchemaError) (refused : IsRefusalOf text e) (no_json : e ≡ SchemaError.NotJson → IsNoJson text)
    (too_long : max_text < length text → e ≡ SchemaError.LimitExceeded) (r : Refusal) (memory : e ≡ SchemaError.OutOfMemory → r ≡ Refusal.OutOfMemory) where
  pub writer_refused : ((e ≡ SchemaError.OutOfMemory → ⊥) → r ≡ Refusal.Writer e) → RefusesOne text r
  writer_refused other = by_test (memory_or_not e)
    where
      by_test : (e ≡ SchemaError.OutOfMemory) ⊎ (e ≡ SchemaError.OutOfMemory → ⊥) → RefusesOne text r
      by_test (inl is) = subst (RefusesOne text) (sym (memory is)) tt
      by_test (inr differs) = subst (RefusesOne text) (sym (other differs)) (has_code text e refused no_json too_long differs)

  pub reader_refused : ((e ≡ SchemaError.OutOfMemory → ⊥) → r ≡ Refusal.Reader e) → RefusesReader text r
  reader_refused other = by_test (memory_or_not e)
    where
      by_test : (e ≡ SchemaError.OutOfMemory) ⊎ (e ≡ SchemaError.OutOfMemory → ⊥) → RefusesReader text r
      by_test (inl is) = subst (RefusesReader text) (sym (memory is)) tt
      by_test (inr differs) = subst (RefusesReader text) (sym (other differs)) (has_code text e refused no_json too_long differs)

-- a refusal of another error, where that error is known
pub known_refusal : (of : SchemaError → Refusal) (e : SchemaError) (r : Refusal) → e ≡ SchemaError.LimitExceeded
    → ((e ≡ SchemaError.OutOfMemory → ⊥) → r ≡ of e) → r ≡ of SchemaError.LimitExceeded
known_refusal of e r is other = other (λ h. absurd cc) ∙ ap of is

pub of_err : (r : Result Schema SchemaError) (e d : SchemaError) → IsErrOf r e → IsErrOf r d → e ≡ d
of_err r e d is h = cc

module _ (writer reader : List ℕ) (written : List Node) (written_as : IsReadAs writer written) where
  pub reader_of_pair : (r : Refusal) → RefusesReader reader r → RefusesPair writer reader r
  reader_of_pair (Refusal.Writer e) h = absurd h
  reader_of_pair (Refusal.Reader e) h = ((written, written_as), h)
  reader_of_pair (Refusal.Certificate e) h = h
  reader_of_pair Refusal.OutOfMemory h = tt

  module _ (certificate : List ℕ) where
    pub reader_of_three : (r : Refusal) → RefusesReader reader r → RefusesOneOf writer reader certificate r
    reader_of_three (Refusal.Writer e) h = absurd h
    reader_of_three (Refusal.Reader e) h = ((written, written_as), h)
    reader_of_three (Refusal.Certificate e) h = absurd h
    reader_of_three Refusal.OutOfMemory h = tt

    pub certificate_of_three : (read : List Node) → IsReadAs reader read → (r : Refusal) → RefusesCertificate certificate r → RefusesOneOf writer reader certificate r
    certificate_of_three read read_as (Refusal.Writer e) h = absurd h
    certificate_of_three read read_as (Refusal.Reader e) h = absurd h
    certificate_of_three read read_as (Refusal.Certificate e) h = ((written, written_as), (read, read_as), h.0, h.1)
    certificate_of_three read read_as Refusal.OutOfMemory h = tt
