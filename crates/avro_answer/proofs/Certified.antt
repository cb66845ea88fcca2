-- The certificate of a verdict that is right.
use Rattle.std.proofs.Common.{◌≡◌, ℕ, List, subst, arith}
use Rattle.avro_schema.specs.SeenSchema.{schema_nodes}
use Rattle.avro_schema.specs.declared.schema.Schema.{Schema}
use Rattle.avro_judge.specs.Answered.{IfApproved}
use Rattle.avro_judge.specs.Headline.{IsRight}
use Rattle.avro_judge.specs.JudgeRanges.{JudgeLimitValues}
use Rattle.avro_judge.specs.declared.verdict.Verdict.{Verdict}
use Rattle.avro_answer.specs.CertifyAnswer.{IsCertifiedBy}
use Rattle.avro_answer.specs.JsonAnswer.{verdict_status}

-- that of an approval is one of these schemas
pub certified : (writer reader : Schema) (limits : JudgeLimitValues) (v : Verdict) (text : List ℕ) (status : ℕ) → status ≡ verdict_status v → IsRight writer reader limits v
    → IfApproved v (λ a. IsCertifiedBy (schema_nodes a.0) (schema_nodes a.1) text) → status ≡ 0 → IsCertifiedBy (schema_nodes writer) (schema_nodes reader) text
certified writer reader limits (Verdict.Approved a) text status same right h zero_is =
    subst (λ (p : Schema × Schema). IsCertifiedBy (schema_nodes p.0) (schema_nodes p.1) text) right.of_these h
certified writer reader limits (Verdict.Refuted r) text status same right h zero_is = absurd (omega (arith, same, zero_is))
certified writer reader limits (Verdict.Undecided c) text status same right h zero_is = absurd (omega (arith, same, zero_is))
