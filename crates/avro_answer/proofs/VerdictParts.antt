-- The parts of the answer for a verdict are all of it.
use Rattle.std.proofs.Common.{◌≡◌, ◌∙◌, List, [], ℕ, ◌++◌, refl, sym, ap, subst, append_assoc, append-nil}
use Rattle.std.specs.Prelude.{codes}
use Rattle.avro_schema.specs.Node.{Node, root_of}
use Rattle.avro_schema.specs.Seen.{value_of}
use Rattle.avro_schema.specs.Value.{Value}
use Rattle.avro_compare.specs.Fault.{ResolutionFault}
use Rattle.avro_compare.specs.Seen.{fault_of}
use Rattle.avro_device.specs.PutFront.{PutsFrontOf}
use Rattle.avro_display.proofs.public.Fronts.{fronts_both}
use Rattle.avro_display.specs.DisplayTree.{display_text}
use Rattle.avro_display.specs.Pieces.{PutsText}
use Rattle.avro_judge.specs.declared.verdict.Verdict.{Verdict}
use Rattle.avro_answer.specs.Texts.{cause_text}
use Rattle.avro_answer.specs.JudgeAnswer.{no_text}
use Rattle.avro_answer.specs.inside.VerdictTexts.{no_front, verdict_front, verdict_datum, verdict_text}

no_parts : (writer : List Node) (v : Value) (fault : ResolutionFault)
    → (no_front v fault ++ display_text writer (root_of writer) v) ++ codes "\n" ≡ no_text writer v fault
no_parts writer v fault = refl

pub in_parts : (writer : List Node) (v : Verdict) → (verdict_front v ++ verdict_datum writer v) ++ codes "\n" ≡ verdict_text writer v
in_parts writer (Verdict.Approved a) = refl
in_parts writer (Verdict.Refuted r) = no_parts writer (value_of r.datum) (fault_of r.fault)
in_parts writer (Verdict.Undecided cause) = ap (λ t. t ++ codes "\n") (append-nil (codes "undecided " ++ cause_text cause))

-- what is put of a text and bytes, and then what is left, with an end
pub put_whole : {O : Type 0} (keeps : O → List ℕ → O → Type 0) (chain : (s t u : O) (front back : List ℕ) → keeps s front t → keeps t back u → keeps s (front ++ back) u)
    (first then last : O) (held bytes left end all whole : List ℕ) → PutsText keeps first held bytes then left → all ≡ left ++ end → (held ++ bytes) ++ end ≡ whole
    → keeps then all last → keeps first whole last
put_whole keeps chain first then last held bytes left end all whole (put, kept, parts) is parted rest =
    subst (λ t. keeps first t last) (ap (λ t. put ++ t) is ∙ sym (append_assoc put left end) ∙ ap (λ t. t ++ end) (sym parts) ∙ parted)
    (chain first then last put all kept rest)

-- nothing was put
pub front_none : {O : Type 0} (keeps : O → List ℕ → O → Type 0) (s : O) (whole : List ℕ) → keeps s [] s → PutsFrontOf keeps s s whole
front_none keeps s whole kept = record { front = []; later = whole; kept = kept; split = refl }

-- what was put of a text and bytes where a step fails, with an end
pub front_before : {O : Type 0} (keeps : O → List ℕ → O → Type 0) (first last : O) (part end whole : List ℕ) → part ++ end ≡ whole → PutsFrontOf keeps first last part
    → PutsFrontOf keeps first last whole
front_before keeps first last part end whole parted f = record {
  front = f.front;
  later = f.later ++ end;
  kept = f.kept;
  split = sym parted ∙ ap (λ t. t ++ end) f.split ∙ append_assoc f.front f.later end;
}

pub front_last : {O : Type 0} (keeps : O → List ℕ → O → Type 0) (chain : (s t u : O) (front back : List ℕ) → keeps s front t → keeps t back u → keeps s (front ++ back) u)
    (first then last : O) (held bytes left end all whole : List ℕ) → PutsText keeps first held bytes then left → all ≡ left ++ end → (held ++ bytes) ++ end ≡ whole
    → PutsFrontOf keeps then last all → PutsFrontOf keeps first last whole
front_last keeps chain first then last held bytes left end all whole had is parted f =
    subst (PutsFrontOf keeps first last) (sym (append_assoc held bytes end) ∙ parted)
    (fronts_both keeps chain first then last held bytes left end had (subst (PutsFrontOf keeps then last) is f))
