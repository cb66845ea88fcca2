-- What `avro history` answers: a line of two schemas, with its status; and all lines of several texts, with the status.
use Rattle.std.specs.Prelude.{◌≡◌, ◌↔◌, ℕ, ◌<◌, ◌==◌, if◌then◌else◌, ◌⊎◌, List, [], ◌∷◌, ◌++◌, None, length, get_or, take, drop, codes}
use Rattle.std.specs.List.{AllZip, AllByRecursion, list_any, concat}
use Rattle.avro_schema.specs.Value.{Value}
use Rattle.avro_schema.specs.Node.{Node}
use Rattle.avro_schema_json.specs.declared.error.SchemaError.{SchemaError}
use Rattle.avro_compare.specs.Fault.{ResolutionFault}
use Rattle.avro_certificate.specs.Compatible.{AreCompatible}
use Rattle.avro_certificate.specs.CertificateText.{decimal}
use Rattle.avro_judge.specs.Headline.{Refutes, InPairs, IsPassed}
use Rattle.avro_judge.specs.JudgeRanges.{JudgeLimitValues}
use Rattle.avro_judge.specs.declared.verdict.Cause.{Cause}
use Rattle.avro_judge.specs.declared.verdict.Verdict.{Verdict}
use Rattle.avro_answer.specs.Texts.{cause_text}
use Rattle.avro_answer.specs.JsonAnswer.{IsHistoryLine}
use Rattle.avro_answer.specs.JudgeAnswer.{IsRightFor, StatusAnswer}
use Rattle.avro_answer.specs.ReadText.{IsReadAs}
use Rattle.avro_answer.specs.RefusalText.{HasCode, HasSchema}
use Rattle.avro_answer.specs.declared.refusal.Refusal.{Refusal}

-- a line of a word and a verdict, with its status
abbrev pub IsLineOf : List ℕ → List ℕ → ℕ → List ℕ → ℕ → Type 0
IsLineOf word verdict given text status = (text ≡ word ++ (verdict ++ codes "\n")) × (status ≡ given)

-- A line of a history: a word, which names the schema, and the verdict on two schemas.
pub record LineAnswer (word : List ℕ) (writer reader : List Node) (limits : JudgeLimitValues) (text : List ℕ) (status : ℕ) : Type 0 where
  -- yes exactly where the schemas are within the pair limit and no datum of the writer's fails, of any size
  pub yes : IsLineOf word (codes " yes") 0 text status ↔ (InPairs writer reader limits × AreCompatible writer reader)
  -- after a no there is a least datum that fails
  pub no : IsLineOf word (codes " no") 1 text status → (v : Value) × (fault : ResolutionFault) × Refutes writer reader limits v fault
  -- undecided for a cause exactly where its limit is passed
  pub undecided : (cause : Cause) → IsLineOf word (codes " undecided " ++ cause_text cause) 2 text status ↔ IsPassed writer reader limits cause
  -- there is no other line
  pub known : IsLineOf word (codes " yes") 0 text status ⊎ IsLineOf word (codes " no") 1 text status
      ⊎ ((cause : Cause) × IsLineOf word (codes " undecided " ++ cause_text cause) 2 text status)

-- The same as JSON: the word stands for the file, there is no mode, and the verdict is right for the two schemas.
pub record LineJson (word : List ℕ) (writer reader : List Node) (limits : JudgeLimitValues) (line : List ℕ) (status : ℕ) : Type 0 where
  pub verdict : Verdict
  pub right : IsRightFor writer reader limits verdict
  pub told : IsHistoryLine word None verdict line status

-- texts that follow one another, divided by their lengths; a length past the end is that of what is left
abbrev pub cut_texts : List ℕ → List ℕ → List (List ℕ)
cut_texts texts [] = []
cut_texts texts (n ∷ lengths) = take n texts ∷ cut_texts (drop n texts) lengths

-- the status of several lines: 1 if a line has it, else 2 if a line has it, else 0
abbrev pub worst : List ℕ → ℕ
worst statuses = if list_any (λ s. s == 1) statuses then 1 else (if list_any (λ s. s == 2) statuses then 2 else 0)

-- A line for each writer's schema, in order, by the digits of its number, from 0 on, and the worst status.
pub record LinesOf (Line : List ℕ → List Node → List ℕ → ℕ → Type 0) (writers : List (List Node)) (text : List ℕ) (status : ℕ) : Type 0 where
  pub lines : List (List ℕ)
  pub statuses : List ℕ
  pub as_many : (length lines ≡ length writers) × (length statuses ≡ length writers)
  pub each : (k : ℕ) → k < length writers → Line (decimal k) (get_or writers k []) (get_or lines k []) (get_or statuses k 0)
  pub text_is : text ≡ concat lines
  pub status_is : status ≡ worst statuses

-- each line as text, which begins with these digits
abbrev pub LinesAnswer : List (List Node) → List Node → JudgeLimitValues → List ℕ → ℕ → Type 0
LinesAnswer writers reader limits text status = LinesOf (λ word writer. LineAnswer word writer reader limits) writers text status

-- each line as JSON, with these digits for the file
abbrev pub LinesJson : List (List Node) → List Node → JudgeLimitValues → List ℕ → ℕ → Type 0
LinesJson writers reader limits text status = LinesOf (λ word writer. LineJson word writer reader limits) writers text status

-- The statuses alone, in either form of the lines.
pub record LinesStatus (writers : List (List Node)) (reader : List Node) (limits : JudgeLimitValues) (status : ℕ) : Type 0 where
  pub statuses : List ℕ
  pub as_many : length statuses ≡ length writers
  pub each : (k : ℕ) → k < length writers → StatusAnswer (get_or writers k []) reader limits (get_or statuses k 0)
  pub status_is : status ≡ worst statuses

-- What is answered of several schemas, the last of which is the reader's and each other one a writer's: their lines;
-- where there is none, nothing is answered.
pub record SchemasOf (Lines : List (List Node) → List Node → List ℕ → ℕ → Type 0) (schemas : List (List Node)) (text : List ℕ) (status : ℕ) : Type 0 where
  pub none : schemas ≡ [] → (text ≡ []) × (status ≡ 0)
  pub lines : (writers : List (List Node)) (reader : List Node) → schemas ≡ writers ++ (reader ∷ []) → Lines writers reader text status

-- these lines as text
abbrev pub SchemasHistory : List (List Node) → JudgeLimitValues → List ℕ → ℕ → Type 0
SchemasHistory schemas limits text status = SchemasOf (λ writers reader. LinesAnswer writers reader limits) schemas text status

-- these lines as JSON
abbrev pub SchemasLines : List (List Node) → JudgeLimitValues → List ℕ → ℕ → Type 0
SchemasLines schemas limits text status = SchemasOf (λ writers reader. LinesJson writers reader limits) schemas text status

-- The same of the status alone, in either form of the lines.
pub record SchemasStatus (schemas : List (List Node)) (limits : JudgeLimitValues) (status : ℕ) : Type 0 where
  pub none : schemas ≡ [] → status ≡ 0
  pub lines : (writers : List (List Node)) (reader : List Node) → schemas ≡ writers ++ (reader ∷ []) → LinesStatus writers reader limits status

-- What is answered of several texts: each declares a schema and is not too long, and it is the answer of those.
pub record HistoryAnswer (texts : List (List ℕ)) (limits : JudgeLimitValues) (text : List ℕ) (status : ℕ) : Type 0 where
  pub schemas : List (List Node)
  pub declared : AllZip IsReadAs texts schemas
  pub answered : SchemasHistory schemas limits text status

-- The same of the status alone, in either form of the lines.
pub record HistoryStatus (texts : List (List ℕ)) (limits : JudgeLimitValues) (status : ℕ) : Type 0 where
  pub schemas : List (List Node)
  pub declared : AllZip IsReadAs texts schemas
  pub answered : SchemasStatus schemas limits status

-- The same of the lines as JSON.
pub record HistoryJson (texts : List (List ℕ)) (limits : JudgeLimitValues) (text : List ℕ) (status : ℕ) : Type 0 where
  pub schemas : List (List Node)
  pub declared : AllZip IsReadAs texts schemas
  pub answered : SchemasLines schemas limits text status

-- The first text that is too long or declares no schema has the code; the texts after it are given.
pub record IsFirstRefused (texts after : List (List ℕ)) (e : SchemaError) : Type 0 where
  pub before : List (List ℕ)
  pub refused : List ℕ
  pub parted : texts ≡ before ++ (refused ∷ after)
  pub declare : AllByRecursion HasSchema before
  pub code : HasCode refused e

-- What a refusal says of several texts: the first that is refused is the last one, the reader's, or another, a writer's.
-- Memory that runs out says nothing.
abbrev pub RefusesHistory : List (List ℕ) → Refusal → Type 0
RefusesHistory texts (Refusal.Writer e) = (next : List ℕ) × (later : List (List ℕ)) × IsFirstRefused texts (next ∷ later) e
RefusesHistory texts (Refusal.Reader e) = IsFirstRefused texts [] e
RefusesHistory texts (Refusal.Certificate e) = ⊥
RefusesHistory texts Refusal.OutOfMemory = Unit {0}

-- each text declares a schema and is not too long
abbrev pub AllHaveSchemas : List (List ℕ) → Type 0
AllHaveSchemas texts = AllByRecursion HasSchema texts
