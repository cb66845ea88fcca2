-- What the status of a history can be.
use Rattle.std.proofs.Common.{◌≡◌, ℕ, ◌≤◌, Bool, true, false, List, [], ◌∷◌, ◌++◌, refl, sym, ap, subst, arith}
use Rattle.std.specs.Prelude.{◌==◌, if◌then◌else◌}
use Rattle.std.specs.List.{list_any}
use Rattle.avro_schema.specs.Node.{Node}
use Rattle.avro_judge.specs.JudgeRanges.{JudgeLimitValues}
use Rattle.avro_answer.specs.HistoryAnswer.{LinesAnswer, SchemasHistory, HistoryAnswer, worst}

by_tests : (a b : Bool) → (if a then 1 else (if b then 2 else 0)) ≤ 2
by_tests true b = omega arith
by_tests false true = omega arith
by_tests false false = omega arith

worst_known : (statuses : List ℕ) → worst statuses ≤ 2
worst_known statuses = by_tests (list_any (λ s. s == 1) statuses) (list_any (λ s. s == 2) statuses)

-- a list by its last element and what is before it
record Ended {X : Type 0} (xs : List X) : Type 0 where
  before : List X
  last : X
  parted : xs ≡ before ++ (last ∷ [])

ended : {X : Type 0} (x : X) (xs : List X) → Ended (x ∷ xs)
ended x [] = record { before = []; last = x; parted = refl }
ended x (y ∷ xs) = record { before = x ∷ (ended y xs).before; last = (ended y xs).last; parted = ap (λ ys. x ∷ ys) (ended y xs).parted }

module _ (limits : JudgeLimitValues) (text : List ℕ) (status : ℕ) where
  of_lines : (writers : List (List Node)) (reader : List Node) → LinesAnswer writers reader limits text status → status ≤ 2
  of_lines writers reader lines = subst (λ s. s ≤ 2) (sym lines.status_is) (worst_known lines.statuses)

  of_schemas : (schemas : List (List Node)) → SchemasHistory schemas limits text status → status ≤ 2
  of_schemas [] history = subst (λ s. s ≤ 2) (sym (history.none refl).1) (omega arith)
  of_schemas (schema ∷ schemas) history =
      let e = ended schema schemas in of_lines e.before e.last (history.lines e.before e.last e.parted)

-- a history that is answered has the status of an answer
pub history_status : {texts : List (List ℕ)} {limits : JudgeLimitValues} {text : List ℕ} {status : ℕ} → HistoryAnswer texts limits text status → status ≤ 2
history_status {texts} {limits} {text} {status} history = of_schemas limits text status history.schemas history.answered
