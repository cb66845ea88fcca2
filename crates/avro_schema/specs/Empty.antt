-- Data whose encoding has no bytes: null, a fixed of none, and a record of such data (Avro 1.11, "Binary Encoding").
use Rattle.std.specs.Prelude.{◌≡◌, ℕ, Bool, true, false, ◌&&◌, List, length, ◌==◌}
use Rattle.avro_schema.specs.Fits.{fits}
use Rattle.avro_schema.specs.Node.{Node}
use Rattle.avro_schema.specs.Value.{Value, Values, no_values, value, size, depth}

-- the datum has no bytes: null, a fixed of none, or a record of such data
abbrev mutual
  pub is_empty : Value → Bool
  is_empty Value.null = true
  is_empty (Value.boolean b) = false
  is_empty (Value.int i) = false
  is_empty (Value.long i) = false
  is_empty (Value.bytes b) = false
  is_empty (Value.string t) = false
  is_empty (Value.array vs) = false
  is_empty (Value.map_of es) = false
  is_empty (Value.union k v) = false
  is_empty (Value.record_of vs) = are_empty vs
  is_empty (Value.enum k) = false
  is_empty (Value.fixed b) = length b == 0

  -- each of the values has no bytes
  pub are_empty : Values → Bool
  are_empty no_values = true
  are_empty (value v vs) = is_empty v && are_empty vs

-- a datum of the node without bytes, with this number of nodes and this depth
pub record IsEmptyDatum (nodes : List Node) (n : Node) (count levels : ℕ) : Type 0 where
  pub datum : Value
  pub fitting : fits nodes n datum ≡ true
  pub empty : is_empty datum ≡ true
  pub counted : size datum ≡ count
  pub deep : depth datum ≡ levels
