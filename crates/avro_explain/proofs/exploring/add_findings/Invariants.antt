use Rattle.std.proofs.Common.{◌≡◌, ◌++◌, drop}
use Rattle.avro_explain.specs.Places.{findings}
use Rattle.avro_explain.proofs.exploring.add_findings.Given as goal

abbrev pub invariant-loop-detail : goal.invariant-loop-detail
invariant-loop-detail l = l.initial.faults.items ++ findings l.at l.details ≡ l.faults.items ++ findings l.at (drop l.detail-index l.details)
