-- What `avro judge` answers of two texts: the bytes that it prints, and its exit status.
use Rattle.std.specs.Prelude.{◌≡◌, ◌↔◌, ℕ, ◌⊎◌, List, ◌++◌, codes}
use Rattle.avro_schema.specs.Value.{Value, size}
use Rattle.avro_schema.specs.Node.{Node, root_of}
use Rattle.avro_schema.specs.SeenSchema.{schema_nodes}
use Rattle.avro_schema.specs.declared.schema.Schema.{Schema}
use Rattle.avro_display.specs.DisplayTree.{display_text}
use Rattle.avro_compare.specs.Fault.{ResolutionFault}
use Rattle.avro_certificate.specs.Compatible.{AreCompatible}
use Rattle.avro_certificate.specs.CertificateText.{decimal}
use Rattle.avro_judge.specs.Headline.{IsRight, Refutes, InPairs, IsPassed}
use Rattle.avro_judge.specs.JudgeRanges.{JudgeLimitValues}
use Rattle.avro_judge.specs.declared.verdict.Cause.{Cause}
use Rattle.avro_judge.specs.declared.verdict.Verdict.{Verdict}
use Rattle.avro_answer.specs.JsonAnswer.{IsJudgedLine}
use Rattle.avro_answer.specs.ReadText.{IsReadAs}
use Rattle.avro_answer.specs.Texts.{fault_text, cause_text}

-- the answer `yes`, with status 0
abbrev pub IsYes : List ℕ → ℕ → Type 0
IsYes text status = (text ≡ codes "yes\n") × (status ≡ 0)

-- the four lines of a no: its fault, and the datum's number of nodes and display
abbrev pub no_text : List Node → Value → ResolutionFault → List ℕ
no_text writer v fault =
    codes "no\nfault " ++ fault_text fault
    ++ codes "\nnodes " ++ decimal (size v)
    ++ codes "\ndatum " ++ display_text writer (root_of writer) v ++ codes "\n"

-- the answer `undecided` with its cause, and status 2
abbrev pub IsUndecidedBy : Cause → List ℕ → ℕ → Type 0
IsUndecidedBy cause text status = (text ≡ codes "undecided " ++ cause_text cause ++ codes "\n") × (status ≡ 2)

-- a datum that refutes the two schemas, with its fault, in the text of a no
pub record IsNo (writer reader : List Node) (limits : JudgeLimitValues) (text : List ℕ) : Type 0 where
  pub datum : Value
  pub fault : ResolutionFault
  pub refutes : Refutes writer reader limits datum fault
  pub written : text ≡ no_text writer datum fault

-- What is answered of two schemas, and nothing else: yes, a no, or undecided with a cause.
pub record SchemasAnswer (writer reader : List Node) (limits : JudgeLimitValues) (text : List ℕ) (status : ℕ) : Type 0 where
  -- yes exactly where the schemas are within the pair limit and no datum of the writer's fails, of any size
  pub yes : IsYes text status ↔ (InPairs writer reader limits × AreCompatible writer reader)
  -- a no has a least datum that fails, and its fault
  pub no : status ≡ 1 → IsNo writer reader limits text
  -- undecided for a cause exactly where its limit is passed
  pub undecided : (cause : Cause) → IsUndecidedBy cause text status ↔ IsPassed writer reader limits cause
  -- there is no other answer
  pub known : IsYes text status ⊎ (status ≡ 1) ⊎ ((cause : Cause) × IsUndecidedBy cause text status)

-- The same of the status alone, in either form of the answer.
pub record StatusAnswer (writer reader : List Node) (limits : JudgeLimitValues) (status : ℕ) : Type 0 where
  pub yes : (status ≡ 0) ↔ (InPairs writer reader limits × AreCompatible writer reader)
  pub no : status ≡ 1 → (v : Value) × (fault : ResolutionFault) × Refutes writer reader limits v fault
  pub undecided : (status ≡ 2) ↔ ((cause : Cause) × IsPassed writer reader limits cause)
  pub known : (status ≡ 0) ⊎ (status ≡ 1) ⊎ (status ≡ 2)

-- a verdict that is right for the two schemas with these nodes
pub record IsRightFor (writer reader : List Node) (limits : JudgeLimitValues) (verdict : Verdict) : Type 0 where
  pub written : Schema
  pub read : Schema
  pub nodes_written : schema_nodes written ≡ writer
  pub nodes_read : schema_nodes read ≡ reader
  pub right : IsRight written read limits verdict

-- What is answered of two schemas as JSON: the line of a verdict that is right for them, with its status.
pub record SchemasJson (writer reader : List Node) (limits : JudgeLimitValues) (line : List ℕ) (status : ℕ) : Type 0 where
  pub verdict : Verdict
  pub right : IsRightFor writer reader limits verdict
  pub told : IsJudgedLine writer verdict line status

-- What is answered of two texts: both declare schemas and are not too long, and it is the answer of those.
pub record JudgeAnswer (writer reader : List ℕ) (limits : JudgeLimitValues) (text : List ℕ) (status : ℕ) : Type 0 where
  pub written : List Node
  pub read : List Node
  pub declares_written : IsReadAs writer written
  pub declares_read : IsReadAs reader read
  pub answered : SchemasAnswer written read limits text status

-- The same of the status alone, in either form of the answer.
pub record JudgeStatus (writer reader : List ℕ) (limits : JudgeLimitValues) (status : ℕ) : Type 0 where
  pub written : List Node
  pub read : List Node
  pub declares_written : IsReadAs writer written
  pub declares_read : IsReadAs reader read
  pub answered : StatusAnswer written read limits status

-- The same of the line of JSON.
pub record JudgeJson (writer reader : List ℕ) (limits : JudgeLimitValues) (line : List ℕ) (status : ℕ) : Type 0 where
  pub written : List Node
  pub read : List Node
  pub declares_written : IsReadAs writer written
  pub declares_read : IsReadAs reader read
  pub answered : SchemasJson written read limits line status
