use Rattle.std.proofs.Common.{◌≡◌, drop}
use Rattle.avro_runs.specs.KnownTexts.{known_in}
use Rattle.avro_runs.proofs.memory.known_text.Given as goal

abbrev pub invariant-loop-name : goal.invariant-loop-name
invariant-loop-name l = known_in (drop l.name-index l.texts) l.word ≡ known_in l.texts l.word
