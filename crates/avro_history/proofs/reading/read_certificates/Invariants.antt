use Rattle.std.proofs.Common.{length, map}
use Rattle.avro_history.specs.SeenHistory.{set_of}
use Rattle.avro_history.proofs.ReadSoFar.{ReadSoFar}
use Rattle.avro_history.proofs.reading.read_certificates.Given as goal

abbrev pub invariant-loop-rest : goal.invariant-loop-rest
invariant-loop-rest l = ReadSoFar l.text l.rest (map set_of l.certificates.items) l.is_too_large

abbrev pub decreases-loop-rest : goal.decreases-loop-rest
decreases-loop-rest l = length l.rest
