use Rattle.std.proofs.Common.{◌≡◌, List, Some, slice_get}
use Rattle.avro_schema.specs.Node.{Node}
use Rattle.avro_explain.specs.Places.{ArePlaced}
use Rattle.avro_explain.specs.declared.found.Place.{Place}
use Rattle.avro_explain.proofs.WaysFollowed.{IsWayFrom}
use Rattle.avro_explain.proofs.paths.way_to.Given as goal

abbrev pub invariant-loop-before : goal.invariant-loop-before
invariant-loop-before l = (writer reader : List Node) (p : Place) → ArePlaced writer reader l.places → slice_get l.places l.at ≡ Some p
    → IsWayFrom writer reader l.places l.at l.here p l.way.writer.items l.way.reader.items

abbrev pub decreases-loop-before : goal.decreases-loop-before
decreases-loop-before l = l.here
