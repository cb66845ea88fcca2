use Rattle.std.proofs.Common.{List, [], drop}
use Rattle.avro_schema.specs.Node.{FieldNode}
use Rattle.avro_schema.specs.Seen.{seen_fields}
use Rattle.avro_schema.specs.SeenSchema.{schema_nodes}
use Rattle.avro_binary.specs.Places.{AreTold}
use Rattle.avro_binary.specs.declared.place.Place.{Place}
use Rattle.avro_compare.specs.Resolve.{Sourced, field_value}
use Rattle.avro_compare.specs.Planned.{AreSources, AreSourcesFrom}
use Rattle.avro_resolve.specs.Copied.{ArePlain}
use Rattle.avro_resolve.specs.inside.Guided.{AreFitting, AreLeaves}
use Rattle.avro_resolve.proofs.Slots.{ValuesSoFar}
use Rattle.avro_resolve.proofs.resolving.copying.copy_fields.Given as goal

abbrev pub invariant-loop-index : goal.invariant-loop-index
invariant-loop-index g l =
    g.M.Make.keeps l.fn.maker l.maker
    × ((ws : List FieldNode) → AreSources ws (seen_fields l.reads) l.sources → AreSourcesFrom l.index ws (seen_fields l.reads) l.left)
    × ((ws : List FieldNode) (found : Sourced) (at : Place) → AreTold g.M.Make.branch_at g.M.Make.item_at g.M.Make.entry_at g.M.Make.field_at → AreSources ws (seen_fields l.reads) l.sources
    → ArePlain (schema_nodes l.reader) ws (seen_fields l.reads) found l.pieces.bytes.now l.pieces.ends.now → AreLeaves (schema_nodes l.reader) ws (seen_fields l.reads)
    → AreFitting (schema_nodes l.reader) (seen_fields l.reads) (field_value ws found) → g.M.Make.fields_stand_for l.fn.maker (schema_nodes l.reader) (seen_fields l.reads) at l.fn.start []
    → ValuesSoFar (g.M.Make.fields_stand_for l.maker (schema_nodes l.reader) (seen_fields l.reads) at) ws found l.reads l.fields (seen_fields (drop l.index l.reads)))
