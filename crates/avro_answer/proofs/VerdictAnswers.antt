-- What is answered of a verdict that is right.
use Rattle.std.proofs.Common.{◌≡◌, ◌↔◌, ◌⊎◌, ℕ, ◌<◌, ◌≤◌, ◌*◌, ◌-◌, ◌^◌, Bool, true, false, List, ◌++◌, inl, inr, refl, sym, ap, subst, arith, length}
use Rattle.std.proofs.lemmas.List.{append_cancel_left}
use Rattle.std.specs.Prelude.{None, codes, slice_get, unwrap_or, nat_lt}
use Rattle.avro_schema.specs.Node.{Node}
use Rattle.avro_schema.specs.Seen.{value_of}
use Rattle.avro_schema.specs.Value.{Value, size}
use Rattle.avro_schema.specs.SeenSchema.{schema_nodes}
use Rattle.avro_schema.specs.declared.schema.Schema.{Schema}
use Rattle.avro_compare.specs.Fault.{ResolutionFault}
use Rattle.avro_compare.specs.Seen.{fault_of}
use Rattle.avro_certificate.specs.Compatible.{AreCompatible}
use Rattle.avro_judge.specs.Answered.{IfRefuted, IsUndecided}
use Rattle.avro_judge.specs.Headline.{IsRight, Refutes, InPairs, IsPassed}
use Rattle.avro_judge.specs.JudgeRanges.{JudgeLimitValues, AreJudgeLimits}
use Rattle.avro_judge.specs.declared.verdict.Cause.{Cause}
use Rattle.avro_judge.specs.declared.verdict.Verdict.{Verdict}
use Rattle.avro_answer.specs.Texts.{cause_text}
use Rattle.avro_answer.specs.JudgeAnswer.{IsRightFor, SchemasAnswer, SchemasJson, StatusAnswer}
use Rattle.avro_answer.specs.HistoryAnswer.{LineAnswer, LineJson}
use Rattle.avro_answer.specs.JsonAnswer.{verdict_status, IsHistoryLine, IsJudgedLine}
use Rattle.avro_answer.specs.inside.VerdictTexts.{Words, in_words, judge_words, line_words, verdict_text, verdict_words}

abbrev first : List ℕ → ℕ
first text = unwrap_or (slice_get text 0) 0

-- a text of a cause is of that cause alone: the texts differ at once
same_cause : (c d : Cause) → cause_text c ++ codes "\n" ≡ cause_text d ++ codes "\n" → c ≡ d
same_cause Cause.Pairs Cause.Pairs h = refl
same_cause Cause.Size Cause.Size h = refl
same_cause Cause.Depth Cause.Depth h = refl
same_cause Cause.Pairs Cause.Size h = absurd (omega (arith, ap first h))
same_cause Cause.Pairs Cause.Depth h = absurd (omega (arith, ap first h))
same_cause Cause.Size Cause.Pairs h = absurd (omega (arith, ap first h))
same_cause Cause.Size Cause.Depth h = absurd (omega (arith, ap first h))
same_cause Cause.Depth Cause.Pairs h = absurd (omega (arith, ap first h))
same_cause Cause.Depth Cause.Size h = absurd (omega (arith, ap first h))

by_test : (a b : ℕ) (t : Bool) → nat_lt a b ≡ t → (a < b → ⊥) → b ≤ a
by_test a b true e h = absurd (h (grind arith))
by_test a b false e h = grind arith

by_known : {A B C D : Type 0} → (A → D) → (B → D) → (C → D) → A ⊎ B ⊎ C → D
by_known f g h (inl a) = f a
by_known f g h (inr (inl b)) = g b
by_known f g h (inr (inr c)) = h c

abbrev IsSaid : List ℕ → ℕ → List ℕ → ℕ → Type 0
IsSaid given number text status = (text ≡ given) × (status ≡ number)

-- What is said of two schemas in words, which stand in a frame, and by a status.
record Said (writer reader : List Node) (limits : JudgeLimitValues) (words : Words) (frame : List ℕ → List ℕ) (text : List ℕ) (status : ℕ) : Type 0 where
  yes : IsSaid (frame words.yes) 0 text status ↔ (InPairs writer reader limits × AreCompatible writer reader)
  no : status ≡ 1 → (v : Value) × (fault : ResolutionFault) × Refutes writer reader limits v fault × (text ≡ frame (words.no v fault))
  undecided : (cause : Cause) → IsSaid (frame (words.undecided cause)) 2 text status ↔ IsPassed writer reader limits cause
  known : IsSaid (frame words.yes) 0 text status ⊎ (status ≡ 1) ⊎ ((cause : Cause) × IsSaid (frame (words.undecided cause)) 2 text status)

module _ (writer reader : Schema) (limits : JudgeLimitValues) where
  in_pairs : (v : Verdict) → IsRight writer reader limits v → (IsUndecided v Cause.Pairs → ⊥) → InPairs (schema_nodes writer) (schema_nodes reader) limits
  in_pairs v right decided =
      by_test limits.pairs (length (schema_nodes writer) * length (schema_nodes reader)) (nat_lt limits.pairs (length (schema_nodes writer) * length (schema_nodes reader))) refl
      (λ passed. decided ((right.undecided Cause.Pairs).1 passed))

  module _ (words : Words) (frame : List ℕ → List ℕ) (alone : (c d : Cause) → frame (words.undecided c) ≡ frame (words.undecided d) → c ≡ d) where
    by_verdict : (v : Verdict) → IsRight writer reader limits v
        → Said (schema_nodes writer) (schema_nodes reader) limits words frame (frame (in_words words v)) (verdict_status v)
    by_verdict (Verdict.Approved a) right = record {
      yes = (λ _. (in_pairs (Verdict.Approved a) right (λ h. h), right.approved), λ _. (refl, refl));
      no = λ h. absurd (omega (arith, h));
      undecided = λ cause. (λ h. absurd (omega (arith, h.1)), λ passed. absurd ((right.undecided cause).1 passed));
      known = inl (refl, refl);
    }
    by_verdict (Verdict.Refuted r) right = record {
      yes = (λ h. absurd (omega (arith, h.1)), λ h. absurd (right.approves h.0 h.1));
      no = λ _. (value_of r.datum, fault_of r.fault, right.refuted, refl);
      undecided = λ cause. (λ h. absurd (omega (arith, h.1)), λ passed. absurd ((right.undecided cause).1 passed));
      known = inr (inl refl);
    }
    by_verdict (Verdict.Undecided c) right = record {
      yes = (λ h. absurd (omega (arith, h.1)), λ h. absurd (right.approves h.0 h.1));
      no = λ h. absurd (omega (arith, h));
      undecided = λ cause. (
        λ h. (right.undecided cause).0 (alone c cause h.0),
        λ passed. (ap (λ d. frame (words.undecided d)) ((right.undecided cause).1 passed), refl),
      );
      known = inr (inr (c, (refl, refl)));
    }

    said : (v : Verdict) (text : List ℕ) (status : ℕ) → text ≡ frame (in_words words v) → status ≡ verdict_status v → IsRight writer reader limits v
        → Said (schema_nodes writer) (schema_nodes reader) limits words frame text status
    said v text status written same right =
        subst (λ n. Said (schema_nodes writer) (schema_nodes reader) limits words frame text n) (sym same)
        (subst (λ t. Said (schema_nodes writer) (schema_nodes reader) limits words frame t (verdict_status v)) (sym written) (by_verdict v right))

  in_text : (v : Verdict) (text : List ℕ) (status : ℕ) → text ≡ verdict_text (schema_nodes writer) v → status ≡ verdict_status v
      → IsRight writer reader limits v → Said (schema_nodes writer) (schema_nodes reader) limits (judge_words (schema_nodes writer)) (λ t. t) text status
  in_text = said (judge_words (schema_nodes writer)) (λ t. t)
      (λ c d h. same_cause c d (append_cancel_left (codes "undecided ") (cause_text c ++ codes "\n") (cause_text d ++ codes "\n") h))

  pub answered : (v : Verdict) (text : List ℕ) (status : ℕ) → text ≡ verdict_text (schema_nodes writer) v → status ≡ verdict_status v
      → IsRight writer reader limits v → SchemasAnswer (schema_nodes writer) (schema_nodes reader) limits text status
  answered v text status written same right = let s = in_text v text status written same right in record {
    yes = s.yes;
    no = λ h. record { datum = (s.no h).0; fault = (s.no h).1; refutes = (s.no h).2; written = (s.no h).3 };
    undecided = s.undecided;
    known = s.known;
  }

  pub status_answered : (v : Verdict) (status : ℕ) → status ≡ verdict_status v → IsRight writer reader limits v
      → StatusAnswer (schema_nodes writer) (schema_nodes reader) limits status
  status_answered v status same right = let s = in_text v (verdict_text (schema_nodes writer) v) status refl same right in record {
    yes = (λ h. s.yes.0 (by_known (λ y. y) (λ n. absurd (omega (arith, h, n))) (λ u. absurd (omega (arith, h, u.1.1))) s.known), λ h. (s.yes.1 h).1);
    no = λ h. ((s.no h).0, (s.no h).1, (s.no h).2);
    undecided = (
      λ h. by_known (λ y. absurd (omega (arith, h, y.1))) (λ n. absurd (omega (arith, h, n))) (λ u. (u.0, (s.undecided u.0).0 u.1)) s.known,
      λ passed. ((s.undecided passed.0).1 passed.1).1,
    );
    known = by_known (λ y. inl y.1) (λ n. inr (inl n)) (λ u. inr (inr u.1.1)) s.known;
  }

  pub line_answered : (word : List ℕ) (v : Verdict) (text : List ℕ) (status : ℕ) → text ≡ word ++ (verdict_words v ++ codes "\n") → status ≡ verdict_status v
      → IsRight writer reader limits v → LineAnswer word (schema_nodes writer) (schema_nodes reader) limits text status
  line_answered word v text status written same right = let s = said line_words (λ t. word ++ (t ++ codes "\n")) alone v text status written same right in record {
    yes = s.yes;
    no = λ h. ((s.no h.1).0, (s.no h.1).1, (s.no h.1).2);
    undecided = s.undecided;
    known = by_known inl (λ n. inr (inl ((s.no n).3, n))) (λ u. inr (inr u)) s.known;
  }
    where
      alone : (c d : Cause) → word ++ (line_words.undecided c ++ codes "\n") ≡ word ++ (line_words.undecided d ++ codes "\n") → c ≡ d
      alone c d h = same_cause c d (append_cancel_left (codes " undecided ") (cause_text c ++ codes "\n") (cause_text d ++ codes "\n")
          (append_cancel_left word (line_words.undecided c ++ codes "\n") (line_words.undecided d ++ codes "\n") h))

  right_for : (v : Verdict) → IsRight writer reader limits v → IsRightFor (schema_nodes writer) (schema_nodes reader) limits v
  right_for v right = record { written = writer; read = reader; nodes_written = refl; nodes_read = refl; right = right }

  pub json_answered : (v : Verdict) (line : List ℕ) (status other : ℕ) → IsRight writer reader limits v → IsJudgedLine (schema_nodes writer) v line status
      → other ≡ status → SchemasJson (schema_nodes writer) (schema_nodes reader) limits line other
  json_answered v line status other right told same =
      record { verdict = v; right = right_for v right; told = subst (IsJudgedLine (schema_nodes writer) v line) (sym same) told }

  pub json_line_answered : (word file : List ℕ) (v : Verdict) (line : List ℕ) (status : ℕ) → IsRight writer reader limits v → IsHistoryLine file None v line status
      → file ≡ word → LineJson word (schema_nodes writer) (schema_nodes reader) limits line status
  json_line_answered word file v line status right told same =
      record { verdict = v; right = right_for v right; told = subst (λ f. IsHistoryLine f None v line status) same told }

  -- the number of nodes of the datum of a refutation is one of 64 bits
  pub is_small : (v : Verdict) → AreJudgeLimits limits → IsRight writer reader limits v → IfRefuted v (λ r. size (value_of r.datum) ≤ 2 ^ 64 - 1)
  is_small (Verdict.Approved a) good right = tt
  is_small (Verdict.Refuted r) good right = omega (arith, right.refuted.small, good.most_size, good.good_limits.most_nodes)
  is_small (Verdict.Undecided c) good right = tt
