-- The texts of verdicts.
use Rattle.std.specs.Prelude.{ℕ, List, [], ◌++◌, codes}
use Rattle.avro_schema.specs.Node.{Node, root_of}
use Rattle.avro_schema.specs.Value.{Value, size}
use Rattle.avro_schema.specs.Seen.{value_of}
use Rattle.avro_compare.specs.Fault.{ResolutionFault}
use Rattle.avro_compare.specs.Seen.{fault_of}
use Rattle.avro_certificate.specs.CertificateText.{decimal}
use Rattle.avro_display.specs.DisplayTree.{display_text}
use Rattle.avro_judge.specs.declared.verdict.Cause.{Cause}
use Rattle.avro_judge.specs.declared.verdict.Verdict.{Verdict}
use Rattle.avro_answer.specs.Texts.{cause_text, fault_text}
use Rattle.avro_answer.specs.JudgeAnswer.{no_text}

-- the words of verdicts: of a yes, of a no by its datum and its fault, and of an undecided by its cause
pub record Words : Type 0 where
  pub yes : List ℕ
  pub no : Value → ResolutionFault → List ℕ
  pub undecided : Cause → List ℕ

abbrev pub in_words : Words → Verdict → List ℕ
in_words words (Verdict.Approved a) = words.yes
in_words words (Verdict.Refuted r) = words.no (value_of r.datum) (fault_of r.fault)
in_words words (Verdict.Undecided cause) = words.undecided cause

-- what `judge` prints
abbrev pub judge_words : List Node → Words
judge_words writer = record { yes = codes "yes\n"; no = no_text writer; undecided = λ cause. codes "undecided " ++ cause_text cause ++ codes "\n" }

abbrev pub verdict_text : List Node → Verdict → List ℕ
verdict_text writer verdict = in_words (judge_words writer) verdict

-- the same before the datum of a no, which is `verdict_datum`, and before the last end of a line
abbrev pub no_front : Value → ResolutionFault → List ℕ
no_front v fault = codes "no\nfault " ++ fault_text fault ++ codes "\nnodes " ++ decimal (size v) ++ codes "\ndatum "

abbrev pub verdict_front : Verdict → List ℕ
verdict_front (Verdict.Approved a) = codes "yes"
verdict_front (Verdict.Refuted r) = no_front (value_of r.datum) (fault_of r.fault)
verdict_front (Verdict.Undecided cause) = codes "undecided " ++ cause_text cause

abbrev pub verdict_datum : List Node → Verdict → List ℕ
verdict_datum writer (Verdict.Refuted r) = display_text writer (root_of writer) (value_of r.datum)
verdict_datum writer v = []

-- what a line of `history` has after its word
abbrev pub line_words : Words
line_words = record { yes = codes " yes"; no = λ _ _. codes " no"; undecided = λ cause. codes " undecided " ++ cause_text cause }

abbrev pub verdict_words : Verdict → List ℕ
verdict_words verdict = in_words line_words verdict
