-- What a yes says of encoded data: those that hold a datum within limits are read.
use Rattle.std.proofs.Common.{◌≡◌, ◌∙◌, ℕ, ◌≤◌, true, codes, inr, List, ◌++◌, length, drop, Option, Some, None, Result, Ok, Err, refl, sym, ap, subst, arith}
use Rattle.std.proofs.Math.Seq.{drop-append_seam}
use Rattle.std.proofs.lemmas.List.{length-append}
use Rattle.std.specs.Prelude.{IfOk}
use Rattle.std.specs.Result.{IfErr}
use Rattle.avro_schema.specs.Value.{Value}
use Rattle.avro_schema.specs.Node.{Node, root_of}
use Rattle.avro_schema.specs.Fits.{LimitValues, is_within}
use Rattle.avro_schema_json.specs.DeclaredText.{DeclaresText}
use Rattle.avro_cursor.specs.Encoding.{Encodes}
use Rattle.avro_compare.specs.Resolve.{Resolved, resolve_root}
use Rattle.avro_certificate.specs.Compatible.{AreCompatible}
use Rattle.avro_judge.specs.JudgeRanges.{JudgeLimitValues}
use Rattle.avro_answer.specs.JudgeAnswer.{JudgeAnswer, IsYes}
use Rattle.avro_answer.specs.ReadAnswer.{AreSchemas, ReadAnswer, IsReaderReadAs, DataAnswer, BeginsWith, datum, found_text, found_status}
use Rattle.avro_answer.specs.ReadHeadline.{IsReadWith, ReadsAfterYes}
use Rattle.avro_answer.specs.declared.answer.Answer.{Answer}
use Rattle.avro_answer.specs.declared.form.Form.{Form}
use Rattle.avro_answer.specs.declared.refusal.Refusal.{Refusal}
use Rattle.avro_answer.proofs.TextLaws.{one_text, yes_compatible}

module _ (writer reader : List Node) (compatible : AreCompatible writer reader) (limits : LimitValues) (form : Form) (v : Value) (skipped front rest : List ℕ)
    (encoded : Encodes writer (root_of writer) v front) (within : is_within limits v ≡ true) where
  begins : BeginsWith writer limits (drop (length skipped) (skipped ++ (front ++ rest))) v (length front)
  begins = record {
    front = front;
    rest = rest;
    parted = drop-append_seam skipped (front ++ rest);
    encoded = encoded;
    within = within;
    length_is = refl;
  }

  enough : length skipped ≤ length (skipped ++ (front ++ rest))
  enough = let e = length-append skipped (front ++ rest) in omega (arith, e)

  -- a datum that resolves is told
  of_schemas : (told : List ℕ) (status : ℕ) → DataAnswer writer (Some reader) limits form (length skipped) (skipped ++ (front ++ rest)) told status
      → IsReadWith writer reader form v (length front) told status
  of_schemas told status answer = by_result (resolve_root writer reader v) refl
    where
      by_result : (r : Resolved) → resolve_root writer reader v ≡ r → IsReadWith writer reader form v (length front) told status
      by_result (Err fault) is = absurd (compatible v fault (record { fitting = encoded.fitting; faulty = is }))
      by_result (Ok u) is = let same = answer.is_found.alone (datum u (length front)) (inr (enough, (v, begins, is))) in (
        u,
        is,
        answer.told ∙ ap (found_text form (codes "data") reader) (sym same),
        answer.status_is ∙ ap found_status (sym same),
      )

-- the reader of an answer, where its text declares one
same_reader : (text : List ℕ) (read : List Node) (found : Option (List Node)) → IsReaderReadAs (Some text) found → DeclaresText text read → found ≡ Some read
same_reader text read None h declares = absurd h
same_reader text read (Some nodes) h declares = ap Some (one_text text nodes read h.1 declares)

module _ (writer reader : List ℕ) (limits : LimitValues) (form : Form) (skip : ℕ) (bytes : List ℕ) where
  pub yes_read : (judging : JudgeLimitValues) (text : List ℕ) (status : ℕ) → JudgeAnswer writer reader judging text status
      → IsYes text status → (written read : List Node) → DeclaresText writer written → DeclaresText reader read
      → (v : Value) (skipped front rest : List ℕ) → Encodes written (root_of written) v front → is_within limits v ≡ true
      → length skipped ≡ skip → bytes ≡ skipped ++ (front ++ rest)
      → (told : List ℕ) (told_status : ℕ) → ReadAnswer writer (Some reader) limits form skip bytes told told_status
      → IsReadWith written read form v (length front) told told_status
  yes_read judging text status judged is_yes written read g h v skipped front rest encoded within skips parted told told_status answer =
      of_schemas written read (yes_compatible writer reader text judging status judged is_yes written read g h) limits form v skipped front rest encoded within told told_status
      (subst (λ n. DataAnswer written (Some read) limits form n (skipped ++ (front ++ rest)) told told_status) (sym skips)
      (subst (λ b. DataAnswer written (Some read) limits form skip b told told_status) parted
      (subst (λ n. DataAnswer n (Some read) limits form skip bytes told told_status) (one_text writer answer.written written answer.declares_written.1 g)
      (subst (λ o. DataAnswer answer.written o limits form skip bytes told told_status) (same_reader reader read answer.read answer.declares_read h) answer.answered))))

  -- the texts that a yes is of are schemas
  pub judged_schemas : (judging : JudgeLimitValues) (text : List ℕ) (status : ℕ) → JudgeAnswer writer reader judging text status → AreSchemas writer (Some reader)
  judged_schemas judging text status judged = ((judged.written, judged.declares_written), (judged.read, judged.declares_read))

  -- so an answer to data is right after a yes
  pub after_yes : (result : Result Answer Refusal) → IfOk result (λ a. ReadAnswer writer (Some reader) limits form skip bytes a.text.items a.status)
      → (AreSchemas writer (Some reader) → IfErr result (λ e. e ≡ Refusal.OutOfMemory)) → ReadsAfterYes writer reader limits form skip bytes result
  after_yes (Ok a) answered complete judging text status judged is_yes written read g h v skipped front rest encoded within skips parted =
      (yes_read judging text status judged is_yes written read g h v skipped front rest encoded within skips parted a.text.items a.status answered, tt)
  after_yes (Err e) answered complete judging text status judged is_yes written read g h v skipped front rest encoded within skips parted =
      (tt, complete (judged_schemas judging text status judged))
