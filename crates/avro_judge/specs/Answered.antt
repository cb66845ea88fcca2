-- What a verdict is.
use Rattle.std.specs.Prelude.{◌≡◌}
use Rattle.avro_judge.specs.declared.verdict.Verdict.{Verdict}
use Rattle.avro_judge.specs.declared.verdict.Refutation.{Refutation}
use Rattle.avro_judge.specs.declared.verdict.Cause.{Cause}
use Rattle.avro_judge.specs.declared.approval.Approved.{Approved}

-- a verdict is an approval
abbrev pub IsApproved : Verdict → Type 0
IsApproved (Verdict.Approved a) = Unit {0}
IsApproved v = ⊥

-- P of the approval, if the verdict is one
abbrev pub IfApproved : Verdict → (Approved → Type 0) → Type 0
IfApproved (Verdict.Approved a) P = P a
IfApproved v P = Unit {0}

-- P of the refutation, if the verdict is one
abbrev pub IfRefuted : Verdict → (Refutation → Type 0) → Type 0
IfRefuted (Verdict.Refuted r) P = P r
IfRefuted v P = Unit {0}

-- a verdict is undecided for this cause
abbrev pub IsUndecided : Verdict → Cause → Type 0
IsUndecided (Verdict.Undecided cause) other = cause ≡ other
IsUndecided v other = ⊥
