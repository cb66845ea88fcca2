-- What a command found: its exit status, and that of several.
use Rattle.std.specs.Prelude.{ℕ, max, ◌==◌, if◌then◌else◌}
use Rattle.avro_tool.specs.declared.Finding.{Finding}

-- 0 good or yes, 1 no, 2 undecided; of faults that were reported, the status of the first
abbrev pub finding_status : Finding → ℕ
finding_status Finding.Good = 0
finding_status Finding.Yes = 0
finding_status Finding.No = 1
finding_status Finding.Undecided = 2
finding_status (Finding.Failed status) = status

-- the status of several, after one more that failed with a status: that of the first that failed
abbrev pub first_failed : Finding → ℕ → ℕ
first_failed (Finding.Failed first) status = first
first_failed _ status = status

-- a finding of a verdict: a yes, a no or an undecided
abbrev pub IsVerdict : Finding → Type 0
IsVerdict Finding.Yes = Unit {0}
IsVerdict Finding.No = Unit {0}
IsVerdict Finding.Undecided = Unit {0}
IsVerdict _ = ⊥

-- the status of two verdicts: a no outranks an undecided, which outranks a yes
abbrev pub worse : ℕ → ℕ → ℕ
worse a b = if a == 1 then 1 else (if b == 1 then 1 else max a b)
