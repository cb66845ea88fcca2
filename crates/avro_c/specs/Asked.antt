-- What a caller asks for by numbers.
use Rattle.std.specs.Prelude.{◌≡◌, ℕ, ◌≤◌, ◌==◌, if◌then◌else◌, List, length, sum, Option, Some, None}
use Rattle.avro_schema.specs.Fits.{LimitValues}
use Rattle.avro_schema.specs.Ranges.{AreLimits}
use Rattle.avro_judge.specs.JudgeRanges.{JudgeLimitValues, AreJudgeLimits}
use Rattle.avro_answer.specs.declared.schemas.Shown.{Shown}

-- a number that selects a limit: 0 selects its default
abbrev pub asked_or : ℕ → ℕ → ℕ
asked_or number default = if number == 0 then default else number

-- the limits of judging that numbers select; 0 selects a default
abbrev pub asked_limits : ℕ → ℕ → ℕ → JudgeLimitValues
asked_limits pairs size depth = record {
  pairs = asked_or pairs 4194304;
  size = asked_or size 4096;
  limits = record { depth = asked_or depth 128; nodes = 1048576; blob = 16777216 };
}

-- limits of judging in their ranges, in a struct of the size that it has here
abbrev pub AreAskedLimits : ℕ → ℕ → ℕ → ℕ → Type 0
AreAskedLimits struct_size pairs size depth = (struct_size ≡ 16) × AreJudgeLimits (asked_limits pairs size depth)

-- what a number selects to be shown of a schema: 0 the number of nodes, 1 the canonical form, any other the fingerprint
abbrev pub asked_shown : ℕ → Shown
asked_shown number = if number == 0 then Shown.Count else (if number == 1 then Shown.Canonical else Shown.Fingerprint)

-- there are at least two lengths of texts that follow one another, and their sum is the length of all of these bytes
abbrev pub AreLengthsOf : List ℕ → List ℕ → Type 0
AreLengthsOf lengths texts = (2 ≤ length lengths) × (sum lengths ≡ length texts)

-- the reader's text, which is there for 1 and not for 0
abbrev pub asked_reader : ℕ → List ℕ → Option (List ℕ)
asked_reader has reader = if has == 0 then None else Some reader

-- the limits of a datum that numbers select; 0 selects a default
abbrev pub asked_data_limits : ℕ → ℕ → ℕ → LimitValues
asked_data_limits depth nodes blob =
    record { depth = asked_or depth 128; nodes = asked_or nodes 1048576; blob = asked_or blob 16777216 }

-- a reader or none, and limits in their ranges
abbrev pub IsReading : ℕ → ℕ → ℕ → ℕ → Type 0
IsReading has depth nodes blob = (has ≤ 1) × AreLimits (asked_data_limits depth nodes blob)
