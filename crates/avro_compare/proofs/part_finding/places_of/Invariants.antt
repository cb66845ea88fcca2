use Rattle.avro_compare.proofs.PlacesFound.{AreFound}
use Rattle.avro_compare.proofs.part_finding.places_of.Given as goal

abbrev pub invariant-loop-index : goal.invariant-loop-index
invariant-loop-index l = AreFound l.places l.lists l.index
