use Rattle.std.proofs.Common.{◌≡◌, ◌≤◌, ◌-◌, length, take}
use Rattle.indexmap.specs.IndexSet.{keys}
use Rattle.avro_schema.specs.SeenSchema.{schema_nodes}
use Rattle.avro_explain.specs.Places.{marked, findings_from}
use Rattle.avro_explain.specs.Search.{places_after}
use Rattle.avro_explain.specs.inside.Walks.{IsWalk, keys_of}
use Rattle.avro_explain.proofs.exploring.explore.Given as goal

abbrev pub invariant-loop-next : goal.invariant-loop-next
invariant-loop-next l = (keys l.walk.known ≡ keys_of l.walk.places.items) × (length l.walk.places.items ≤ l.max_pairs)
    × IsWalk (schema_nodes l.names.0) (schema_nodes l.names.1) (marked l.dead) l.next l.next l.walk.places.items
    × (l.walk.faults.items ≡ findings_from (schema_nodes l.names.0) (schema_nodes l.names.1) 0 (take l.next l.walk.places.items))
    × (l.walk.places.items ≡ places_after (schema_nodes l.names.0) (schema_nodes l.names.1) (marked l.dead) l.next)

abbrev pub decreases-loop-next : goal.decreases-loop-next
decreases-loop-next l = l.max_pairs - l.next
