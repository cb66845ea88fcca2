use Rattle.std.proofs.Common.{◌≡◌, ℕ, [], true, drop, Option}
use Rattle.std.specs.Prelude.{bytes_eq, IfSome}
use Rattle.std.specs.List.{flat_map}
use Rattle.avro_schema.specs.Distinct.{are_distinct}
use Rattle.avro_schema.specs.WellFormed.{field_names}
use Rattle.avro_schema.specs.Seen.{seen_fields}
use Rattle.avro_schema.specs.SeenSchema.{schema_nodes}
use Rattle.avro_binary.specs.Places.{AreTold}
use Rattle.avro_binary.specs.declared.place.Place.{Place}
use Rattle.avro_compare.specs.Planned.{AreSourcesFrom}
use Rattle.avro_compare.specs.Resolve.{Sourced, field_value}
use Rattle.avro_resolve.specs.Ends.{SlotsAre, SlotsFor}
use Rattle.avro_resolve.specs.inside.Guided.{AreFitting, of_node}
use Rattle.avro_resolve.proofs.Slots.{ValuesSoFar}
use Rattle.avro_resolve.proofs.resolving.slots.fill.Given as goal

abbrev pub invariant-loop-index : goal.invariant-loop-index
invariant-loop-index g l =
    IfSome l.left (λ ss. AreSourcesFrom l.index (seen_fields l.writes) (seen_fields l.reads) ss.now)
    × (are_distinct bytes_eq (flat_map field_names (seen_fields (drop l.index l.reads))) ≡ true)
    × g.M.Make.keeps l.fn.maker l.maker
    × ((found : Sourced) (at : Place) → AreTold g.M.Make.branch_at g.M.Make.item_at g.M.Make.entry_at g.M.Make.field_at
    → AreFitting (schema_nodes l.reader) (seen_fields l.reads) (field_value (seen_fields l.writes) found)
    → SlotsAre (of_node (g.M.Make.stands_for l.fn.maker) (schema_nodes l.reader)) (seen_fields l.writes) (seen_fields l.reads) found l.fn.slots.items
    → g.M.Make.fields_stand_for l.fn.maker (schema_nodes l.reader) (seen_fields l.reads) at l.fn.start []
    → SlotsFor (of_node (g.M.Make.stands_for l.maker) (schema_nodes l.reader)) (seen_fields l.writes) (seen_fields (drop l.index l.reads)) found l.slots.items
    × ValuesSoFar (g.M.Make.fields_stand_for l.maker (schema_nodes l.reader) (seen_fields l.reads) at) (seen_fields l.writes) found l.reads l.fields (seen_fields (drop l.index l.reads)))
