-- Size and depth of a datum and of its parts.
use Rattle.std.proofs.Common.{◌<◌, ◌≤◌, arith}
use Rattle.avro_schema.specs.Value.{Value, Values, Entries, size, values_size, entries_size, depth, values_depth, entries_depth, IsPart, IsAmongValues, IsAmongEntries, of_array, of_map, of_union, of_branch, of_record, first_value, in_value, later_value, first_entry, in_entry, later_entry}

-- a datum has a node
pub size-positive : (v : Value) → 1 ≤ size v
size-positive Value.null = omega arith
size-positive (Value.boolean b) = omega arith
size-positive (Value.int i) = omega arith
size-positive (Value.long i) = omega arith
size-positive (Value.bytes b) = omega arith
size-positive (Value.string t) = omega arith
size-positive (Value.array vs) = omega arith
size-positive (Value.map_of es) = omega arith
size-positive (Value.union k v) = omega arith
size-positive (Value.record_of vs) = omega arith
size-positive (Value.enum k) = omega arith
size-positive (Value.fixed b) = omega arith

-- a datum has a level
pub depth-positive : (v : Value) → 1 ≤ depth v
depth-positive Value.null = omega arith
depth-positive (Value.boolean b) = omega arith
depth-positive (Value.int i) = omega arith
depth-positive (Value.long i) = omega arith
depth-positive (Value.bytes b) = omega arith
depth-positive (Value.string t) = omega arith
depth-positive (Value.array vs) = omega arith
depth-positive (Value.map_of es) = omega arith
depth-positive (Value.union k v) = omega arith
depth-positive (Value.record_of vs) = omega arith
depth-positive (Value.enum k) = omega arith
depth-positive (Value.fixed b) = omega arith

-- a part has fewer nodes than the whole
mutual
  pub size-part : {v w : Value} → IsPart v w → size v < size w
  size-part (of_array {v = v} {vs = vs} among) = omega (arith, size-among_values among)
  size-part (of_map {v = v} {es = es} among) = omega (arith, size-among_entries among)
  size-part (of_union {v = v} {k = k}) = omega arith
  size-part (of_branch {v = v} {w = w} {k = k} part) = omega (arith, size-part part)
  size-part (of_record {v = v} {vs = vs} among) = omega (arith, size-among_values among)

  pub size-among_values : {v : Value} {vs : Values} → IsAmongValues v vs → size v ≤ values_size vs
  size-among_values (first_value {v = v} {vs = vs}) = omega arith
  size-among_values (in_value {v = v} {w = w} {vs = vs} part) = omega (arith, size-part part)
  size-among_values (later_value {v = v} {w = w} {vs = vs} among) = omega (arith, size-among_values among)

  pub size-among_entries : {v : Value} {es : Entries} → IsAmongEntries v es → size v ≤ entries_size es
  size-among_entries (first_entry {k = k} {v = v} {es = es}) = omega arith
  size-among_entries (in_entry {k = k} {v = v} {w = w} {es = es} part) = omega (arith, size-part part)
  size-among_entries (later_entry {k = k} {v = v} {w = w} {es = es} among) = omega (arith, size-among_entries among)
