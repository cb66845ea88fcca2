-- The headline: what a verdict says of a writer's schema and a reader's, and what reading by an approval answers.
use Rattle.std.specs.Prelude.{◌≡◌, ◌↔◌, ℕ, ◌<◌, ◌≤◌, ◌*◌, true, List, ◌++◌, length, Result, Ok, IsOkAnd}
use Rattle.avro_schema.specs.Value.{Value, size, depth}
use Rattle.avro_schema.specs.Node.{Node, root_of}
use Rattle.avro_schema.specs.Fits.{LimitValues, is_within}
use Rattle.avro_schema.specs.Seen.{value_of}
use Rattle.avro_schema.specs.SeenSchema.{schema_nodes}
use Rattle.avro_schema.specs.declared.schema.Schema.{Schema}
use Rattle.avro_cursor.specs.Encoding.{Encodes}
use Rattle.avro_cursor.specs.Seen.{UnlessOutOfMemory}
use Rattle.avro_cursor.specs.declared.error.ReadError.{ReadError}
use Rattle.avro_compare.specs.Fault.{ResolutionFault}
use Rattle.avro_compare.specs.Resolve.{resolve_root}
use Rattle.avro_compare.specs.Seen.{fault_of}
use Rattle.avro_certificate.specs.Compatible.{AreCompatible, ErrsWith, ErrsOnlyAbove, ErrsLeastDeep}
use Rattle.avro_judge.specs.Answered.{IsApproved, IfApproved, IfRefuted, IsUndecided}
use Rattle.avro_judge.specs.JudgeRanges.{JudgeLimitValues}
use Rattle.avro_judge.specs.declared.verdict.Verdict.{Verdict}
use Rattle.avro_judge.specs.declared.verdict.Cause.{Cause}

-- the datum is the writer's, resolution gives it this fault, no datum that fails has fewer nodes, and it is within the limits
pub record Refutes (writer reader : List Node) (limits : JudgeLimitValues) (v : Value) (fault : ResolutionFault) : Type 0 where
  pub errs : ErrsWith writer reader v fault
  pub least : (w : Value) (other : ResolutionFault) → ErrsWith writer reader w other → size v ≤ size w
  pub small : size v ≤ limits.size
  pub flat : depth v ≤ limits.limits.depth

-- the product of the numbers of nodes is within the pair limit
abbrev pub InPairs : List Node → List Node → JudgeLimitValues → Type 0
InPairs writer reader limits = length writer * length reader ≤ limits.pairs

-- the limit of this cause is passed: by the schemas, by each datum that fails, or by each least one
abbrev pub IsPassed : List Node → List Node → JudgeLimitValues → Cause → Type 0
IsPassed writer reader limits Cause.Pairs = limits.pairs < length writer * length reader
IsPassed writer reader limits Cause.Size = InPairs writer reader limits × ErrsOnlyAbove writer reader limits.size
IsPassed writer reader limits Cause.Depth = InPairs writer reader limits × ErrsLeastDeep writer reader limits.size limits.limits.depth

-- What a verdict says holds of the two schemas.
pub record IsRight (writer reader : Schema) (limits : JudgeLimitValues) (verdict : Verdict) : Type 0 where
  -- an approval is of these schemas, and no datum of the writer's fails, of any size
  pub of_these : IfApproved verdict (λ a. a ≡ (writer, reader))
  pub approved : IfApproved verdict (λ _. AreCompatible (schema_nodes writer) (schema_nodes reader))
  -- within the pair limit each such pair of schemas is approved
  pub approves : InPairs (schema_nodes writer) (schema_nodes reader) limits → AreCompatible (schema_nodes writer) (schema_nodes reader) → IsApproved verdict
  -- the datum of a refutation fails with its fault, and is a least one
  pub refuted : IfRefuted verdict (λ r. Refutes (schema_nodes writer) (schema_nodes reader) limits (value_of r.datum) (fault_of r.fault))
  -- undecided for a cause exactly where its limit is passed
  pub undecided : (cause : Cause) → IsUndecided verdict cause ↔ IsPassed (schema_nodes writer) (schema_nodes reader) limits cause

-- Where bytes begin with an encoding of a writer's datum within limits, whatever follows it, what is answered stands for
-- exactly what resolution gives of the datum, with the length of the encoding; only memory may run out.
abbrev pub ReadsRight : {O : Type 0} → (O → Value → Type 0) → List Node → List Node → LimitValues → List ℕ → Result (O × ℕ) ReadError → Type 0
ReadsRight stands writer reader limits bytes result = (v : Value) (front rest : List ℕ) → Encodes writer (root_of writer) v front
    → is_within limits v ≡ true → bytes ≡ front ++ rest
    → UnlessOutOfMemory result (IsOkAnd result (λ r. (u : Value) × stands r.0 u × (resolve_root writer reader v ≡ Ok u) × (r.1 ≡ length front)))
