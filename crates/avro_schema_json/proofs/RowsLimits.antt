-- Limits of what is declared: computed.
use Rattle.avro_schema_json.proofs.Words.{◌≡◌, refl, ℕ, zero, suc, List, [], ◌∷◌, ◌++◌, Some, None, codes, option_map, length, Data, read, SchemaError, meaning_of}
use Rattle.serde_json.proofs.OnLiterals.{serde_json_on_literals}
use Rattle.avro_schema_json.proofs.RowsDeclared.{declared_by}

-- a number of arrays in one another, of null
abbrev arrays_in_arrays : ℕ → List ℕ
arrays_in_arrays zero = codes "\"null\""
arrays_in_arrays (suc n) = codes "{\"type\":\"array\",\"items\":" ++ arrays_in_arrays n ++ codes "}"

many_levels : option_map length (declared_by (arrays_in_arrays 120)) ≡ Some 121
unfolding serde_json_on_literals
many_levels = refl

most_levels : option_map length (declared_by (arrays_in_arrays 127)) ≡ Some 128
unfolding serde_json_on_literals
most_levels = refl

too_many_levels : read (arrays_in_arrays 128) ≡ None
unfolding serde_json_on_literals
too_many_levels = refl

-- no text
no_text : read [] ≡ None
unfolding serde_json_on_literals
no_text = refl

-- the last node that a schema may have, and one more
last_node : (meaning_of (Data.string (codes "int")) [] [] 4095).faults ≡ []
last_node = refl

node_past_the_last : (meaning_of (Data.string (codes "int")) [] [] 4096).faults ≡ SchemaError.LimitExceeded ∷ []
node_past_the_last = refl
