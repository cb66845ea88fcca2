use Rattle.std.proofs.Common.{◌≡◌, ◌≤◌, length}
use Rattle.indexmap.specs.IndexMap.{get}
use Rattle.avro_compare.specs.inside.PartNumbers.{same_place}
use Rattle.avro_compare.specs.declared.place.Place.{Place}
use Rattle.avro_compare.proofs.PlacesFound.{found_from}
use Rattle.avro_compare.proofs.part_finding.add_places.Given as goal

abbrev pub invariant-loop-left : goal.invariant-loop-left
invariant-loop-left l = (l.left ≤ length l.list) × ((key : Place) → get same_place l.places key ≡ found_from l.id l.list l.left key (get same_place l.fn.places key))

abbrev pub decreases-loop-left : goal.decreases-loop-left
decreases-loop-left l = l.left
