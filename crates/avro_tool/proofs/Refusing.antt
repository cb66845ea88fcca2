-- What is refused of the texts of files.
use Rattle.std.proofs.Common.{◌≡◌, ◌≢◌, ◌∙◌, ◌⊎◌, ◌<◌, ◌+◌, inl, inr, ℕ, List, take, length, min, Option, Some, None, ap, refl, sym, subst, arith}
use Rattle.std.proofs.lemmas.List.{length-take}
use Rattle.std.specs.Borrow.{Bor}
use Rattle.std.specs.Option.{IfSome}
use Rattle.avro_schema.specs.Node.{Node}
use Rattle.avro_schema_json.specs.Declaration.{max_text, IsNoJson}
use Rattle.avro_schema_json.specs.TextRefusals.{IsRefusalOf}
use Rattle.avro_schema_json.specs.declared.error.SchemaError.{SchemaError}
use Rattle.avro_certificate.specs.CertificateRead.{Refuses}
use Rattle.avro_certificate.specs.declared.error.CertError.{CertError}
use Rattle.avro_answer.proofs.public.RefusedTexts.{has_code, memory_or_not}
use Rattle.avro_answer.specs.ReadText.{IsReadAs}
use Rattle.avro_answer.specs.RefusalText.{HasCode, HasSchema}
use Rattle.avro_answer.specs.declared.refusal.Refusal.{Refusal}
use Rattle.avro_tool.specs.FailureText.{exit_status, IsPutFailure}
use Rattle.avro_tool.specs.PlainAnswers.{Known}
use Rattle.avro_tool.specs.PlainWords.{PlainWords}
use Rattle.avro_tool.specs.TextsRefused.{RefusesCertificateOf, RefusesNothing, RefusesPlain, RefusesSchema, RefusesThree, RefusesTwo}
use Rattle.avro_tool.specs.declared.failure.Failure.{Failure}
use Rattle.avro_tool.proofs.KnownTexts.{known_is, whole_text}

-- more was read than a text may have, so that it has more
longer : (n : ℕ) (all bytes : List ℕ) → bytes ≡ take (n + 1) all → n < length bytes → n < length all
longer n all bytes is long =
    let count : length bytes ≡ min (n + 1) (length all) = ap length is ∙ length-take (n + 1) all in
    omega (arith, count, long)

-- a code of what was read is one of the file that is known
code_known : (known : Option (List ℕ)) (bytes : List ℕ) (e : SchemaError) → IfSome known (λ all. bytes ≡ take 1048577 all) → HasCode bytes e → IfSome known (λ text. HasCode text e)
code_known None bytes e is has = tt
code_known (Some all) bytes e is (inl (long, limit)) = inl (longer max_text all bytes is long, limit)
code_known (Some all) bytes e is (inr (inl (short, none, has))) = subst (λ (b : List ℕ). HasCode b e) (whole_text max_text all bytes is short) (inr (inl (short, none, has)))
code_known (Some all) bytes e is (inr (inr (short, tree, read, has))) = subst (λ (b : List ℕ). HasCode b e) (whole_text max_text all bytes is short) (inr (inr (short, tree, read, has)))

module _ (known : Known) where
  pub schema_refused : (word : Bor (List ℕ)) (bytes : List ℕ) (e : SchemaError) (failure : Failure) → IfSome (known word.now) (λ all. bytes ≡ take 1048577 all)
      → IsRefusalOf bytes e → (e ≡ SchemaError.NotJson → IsNoJson bytes) → (max_text < length bytes → e ≡ SchemaError.LimitExceeded)
      → (e ≡ SchemaError.OutOfMemory → failure ≡ Failure.OutOfMemory) → (e ≢ SchemaError.OutOfMemory → failure ≡ Failure.Schema word e) → RefusesSchema known word.now failure
  schema_refused word bytes e failure is refused no_json too_long memory other = by_test (memory_or_not e)
    where
      by_test : (e ≡ SchemaError.OutOfMemory) ⊎ (e ≡ SchemaError.OutOfMemory → ⊥) → RefusesSchema known word.now failure
      by_test (inl none) = subst (RefusesSchema known word.now) (sym (memory none)) tt
      by_test (inr differs) = subst (RefusesSchema known word.now) (sym (other differs))
          (refl, code_known (known word.now) bytes e is (has_code bytes e refused no_json too_long differs))

  pub certificate_refused : (word : Bor (List ℕ)) (bytes : List ℕ) (e : CertError) (failure : Failure) → IfSome (known word.now) (λ all. bytes ≡ all) → Refuses e bytes
      → (e ≡ CertError.OutOfMemory → failure ≡ Failure.OutOfMemory) → (e ≢ CertError.OutOfMemory → failure ≡ Failure.Certificate word e)
      → RefusesCertificateOf known word.now failure
  certificate_refused word bytes CertError.OutOfMemory failure is refused memory other = subst (RefusesCertificateOf known word.now) (sym (memory refl)) tt
  certificate_refused word bytes e failure is refused memory other =
      subst (RefusesCertificateOf known word.now) (sym (other (λ h. absurd cc))) (refl, of_known (known word.now) is)
    where
      of_known : (o : Option (List ℕ)) → IfSome o (λ all. bytes ≡ all) → IfSome o (λ text. (e ≢ CertError.OutOfMemory) × Refuses e text)
      of_known None h = tt
      of_known (Some all) h = ((λ m. absurd cc), subst (Refuses e) h refused)

  pub certificate_too_long : (word : Bor (List ℕ)) (bytes : List ℕ) → IfSome (known word.now) (λ all. bytes ≡ take 268435457 all) → 268435456 < length bytes
      → RefusesCertificateOf known word.now (Failure.Certificate word CertError.Malformed)
  certificate_too_long word bytes is long = (refl, of_known (known word.now) is)
    where
      of_known : (o : Option (List ℕ)) → IfSome o (λ all. bytes ≡ take 268435457 all) → IfSome o (λ text. (CertError.Malformed ≢ CertError.OutOfMemory) × Refuses CertError.Malformed text)
      of_known None h = tt
      of_known (Some all) h = ((λ m. absurd cc), inl (longer 268435456 all bytes h long))

  pub nothing_schema : (word : List ℕ) (failure : Failure) → RefusesNothing failure → RefusesSchema known word failure
  nothing_schema word (Failure.Schema named e) h = absurd h
  nothing_schema word failure h = h

  pub nothing_certificate : (word : List ℕ) (failure : Failure) → RefusesNothing failure → RefusesCertificateOf known word failure
  nothing_certificate word (Failure.Certificate named e) h = absurd h
  nothing_certificate word failure h = h

  -- what is refused of one text is refused of all
  module _ (writer reader : List ℕ) where
    pub writer_two : (failure : Failure) → RefusesSchema known writer failure → RefusesTwo known writer reader failure
    writer_two (Failure.Schema named e) h = inl h
    writer_two failure h = h

    pub reader_two : IfSome (known writer) HasSchema → (failure : Failure) → RefusesSchema known reader failure → RefusesTwo known writer reader failure
    reader_two has (Failure.Schema named e) h = inr (h.0, has, h.1)
    reader_two has failure h = h

    pub nothing_two : (failure : Failure) → RefusesNothing failure → RefusesTwo known writer reader failure
    nothing_two (Failure.Schema named e) h = absurd h
    nothing_two failure h = h

    pub two_three : (certificate : List ℕ) (failure : Failure) → RefusesTwo known writer reader failure → RefusesThree known writer reader certificate failure
    two_three certificate (Failure.Certificate named e) h = absurd h
    two_three certificate failure h = h

    pub certificate_three : (certificate : List ℕ) → IfSome (known writer) HasSchema → IfSome (known reader) HasSchema → (failure : Failure)
        → RefusesCertificateOf known certificate failure → RefusesThree known writer reader certificate failure
    certificate_three certificate written read (Failure.Certificate named e) h = (h.0, written, read, h.1)
    certificate_three certificate written read (Failure.Schema named e) h = absurd h
    certificate_three certificate written read failure h = h

    -- the status of a refusal says of which text it is
    pub refused_two : (failure : Failure) → exit_status failure ≡ 3 → RefusesTwo known writer reader failure → RefusesPlain known (PlainWords.judge writer reader)
    refused_two (Failure.Schema named e) status (inl h) = λ w r written read. (Refusal.Writer e, (λ m. absurd cc), known_is (λ (t : List ℕ). HasCode t e) (known writer) w written h.1)
    refused_two (Failure.Schema named e) status (inr h) = λ w r written read. (
      Refusal.Reader e,
      (λ m. absurd cc),
      (known_is HasSchema (known writer) w written h.1, known_is (λ (t : List ℕ). HasCode t e) (known reader) r read h.2),
    )
    refused_two (Failure.Certificate named e) status h = absurd h
    refused_two (Failure.Container named e) status h = absurd h
    refused_two (Failure.Data named e) status h = absurd h
    refused_two failure status h = absurd (omega (arith, status))

    pub refused_three : (certificate : List ℕ) (failure : Failure) → exit_status failure ≡ 3 → RefusesThree known writer reader certificate failure
        → RefusesPlain known (PlainWords.confirm writer reader certificate)
    refused_three certificate (Failure.Certificate named e) status h = λ w r c written read certified.
        let says = known_is (λ (t : List ℕ). (e ≢ CertError.OutOfMemory) × Refuses e t) (known certificate) c certified h.3 in
        (Refusal.Certificate e, (λ m. absurd cc), (known_is HasSchema (known writer) w written h.1, known_is HasSchema (known reader) r read h.2, says.0, says.1))
    refused_three certificate (Failure.Schema named e) status (inl h) = λ w r c written read certified. (Refusal.Writer e, (λ m. absurd cc), known_is (λ (t : List ℕ). HasCode t e) (known writer) w written h.1)
    refused_three certificate (Failure.Schema named e) status (inr h) = λ w r c written read certified. (
      Refusal.Reader e,
      (λ m. absurd cc),
      (known_is HasSchema (known writer) w written h.1, known_is (λ (t : List ℕ). HasCode t e) (known reader) r read h.2),
    )
    refused_three certificate (Failure.Container named e) status h = absurd h
    refused_three certificate (Failure.Data named e) status h = absurd h
    refused_three certificate failure status h = absurd (omega (arith, status))

-- to tell refuses nothing
pub put_nothing : (failure : Failure) → IsPutFailure failure → RefusesNothing failure
put_nothing Failure.CannotPrint h = tt
put_nothing Failure.OutOfMemory h = tt
put_nothing failure h = absurd h

-- what was read as a schema is one
pub is_schema : (known : Option (List ℕ)) (nodes : List Node) → IfSome known (λ text. IsReadAs text nodes) → IfSome known HasSchema
is_schema None nodes h = tt
is_schema (Some text) nodes h = (nodes, h)
