use Rattle.std.proofs.Common.{◌≡◌, List, ℕ, length, drop, true}
use Rattle.avro_schema.specs.Value.{Value}
use Rattle.avro_schema.specs.Fits.{fits, each_fits, entries_fit, fields_fit}
use Rattle.avro_schema.specs.Node.{Node, node_at, field_ids}
use Rattle.avro_schema.specs.Seen.{values_of, entries_of}
use Rattle.avro_schema.specs.SeenSchema.{schema_nodes}
use Rattle.avro_schema.proofs.public.FitsParts.{RecordFits}
use Rattle.avro_resolve.proofs.GivenParts.{Before, EntriesBefore}
use Rattle.avro_resolve.proofs.giving.+giving.Given as goal

-- what was made stands for the parts before an index, where the whole fits
abbrev pub invariant-give_items-loop-index : goal.invariant-give_items-loop-index
invariant-give_items-loop-index g l =
    g.M.Make.keeps l.fn.maker l.maker
    × (fits (schema_nodes l.schema) (Node.array l.node.0) (Value.array (values_of l.items)) ≡ true
    → (us : List Value) × g.M.Make.items_stand_for l.maker (schema_nodes l.schema) l.node.0 l.fn.at l.made us × Before us l.items l.index
    × (each_fits (schema_nodes l.schema) (node_at (schema_nodes l.schema) l.node.0) (values_of (drop l.index l.items)) ≡ true))

abbrev pub invariant-give_entries-loop-index : goal.invariant-give_entries-loop-index
invariant-give_entries-loop-index g l =
    g.M.Make.keeps l.fn.maker l.maker
    × (fits (schema_nodes l.schema) (Node.map_of l.node.0) (Value.map_of (entries_of l.entries)) ≡ true
    → (us : List (List ℕ × Value)) × g.M.Make.entries_stand_for l.maker (schema_nodes l.schema) l.node.0 l.fn.at l.made us × EntriesBefore us l.entries l.index
    × (entries_fit (schema_nodes l.schema) (node_at (schema_nodes l.schema) l.node.0) (entries_of (drop l.index l.entries)) ≡ true))

abbrev pub invariant-give_fields-loop-index : goal.invariant-give_fields-loop-index
invariant-give_fields-loop-index g l =
    g.M.Make.keeps l.fn.maker l.maker
    × (fits (schema_nodes l.schema) (node_at (schema_nodes l.schema) l.fn.id.0) (Value.record_of (values_of l.values)) ≡ true
    → (f : RecordFits (schema_nodes l.schema) (node_at (schema_nodes l.schema) l.fn.id.0) (values_of l.values)) × (us : List Value) × (length us ≡ l.index)
    × g.M.Make.fields_stand_for l.maker (schema_nodes l.schema) f.fields l.fn.at l.made us × Before us l.values l.index
    × (fields_fit (schema_nodes l.schema) (drop l.index (field_ids f.fields)) (values_of (drop l.index l.values)) ≡ true))
