-- What a reader's node that is no union takes of a datum that is in no union.
use Rattle.std.specs.Prelude.{Bool, true, false, List, Ok, Err}
use Rattle.avro_schema.specs.Value.{Value}
use Rattle.avro_schema.specs.Node.{Node, items_node, values_node}
use Rattle.avro_compare.specs.Fault.{fault_here, no_match}
use Rattle.avro_compare.specs.Resolve.{Resolved, bytes_as, enum_as, fields_at, int_as, part_at, record_or_missing, resolve_entries, resolve_items, resolve_sources, result_map, string_as, symbol_at}
use Rattle.avro_compare.specs.Source.{missing_field}

-- a datum is one of a union
abbrev pub is_union : Value → Bool
is_union (Value.union k v) = true
is_union v = false

-- what resolution gives for a datum that is in no union, at a reader's node that is none
abbrev pub taken_as : List Node → List Node → Node → Value → Node → Resolved
taken_as writer reader w (Value.int i) q = int_as i q
taken_as writer reader w (Value.bytes b) q = bytes_as b q
taken_as writer reader w (Value.string t) q = string_as t q
taken_as writer reader w (Value.enum k) q = enum_as (symbol_at w k) q
taken_as writer reader w (Value.array vs) q =
    result_map Value.array (resolve_items writer reader (part_at writer (items_node w)) (part_at reader (items_node q)) 0 vs)
taken_as writer reader w (Value.map_of es) q =
    result_map Value.map_of (resolve_entries writer reader (part_at writer (values_node w)) (part_at reader (values_node q)) 0 es)
taken_as writer reader w (Value.record_of vs) q =
    record_or_missing (fields_at w) (fields_at q) (missing_field (fields_at w) (fields_at q)) (resolve_sources writer reader (fields_at w) (fields_at q) 0 vs)
taken_as writer reader w (Value.union k v) q = Err (fault_here no_match)
taken_as writer reader w v q = Ok v
