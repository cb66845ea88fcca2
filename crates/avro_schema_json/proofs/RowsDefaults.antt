-- Defaults of fields, by the texts that declare them: computed.
use Rattle.avro_schema_json.proofs.Words.{◌≡◌, refl, pos, negsuc, true, [], ◌∷◌, Some, None, codes, Value, entry, no_entries, Node, simply, plain_field, default_field, one_value, two_values, SchemaError}
use Rattle.std.specs.Str.{is_utf8, chars}
use lib.Utf8.{encode}
use Rattle.serde_json.proofs.OnLiterals.{serde_json_on_literals}
use Rattle.avro_schema_json.proofs.RowsDeclared.{declared_by, AllHave}

-- a default of each type but the union
are_declared : (declared_by (codes "{\"type\":\"record\",\"name\":\"R\",\"fields\":[{\"name\":\"n\",\"type\":\"null\",\"default\":null},{\"name\":\"b\",\"type\":\"boolean\",\"default\":true},{\"name\":\"i\",\"type\":\"int\",\"default\":-2147483648},{\"name\":\"l\",\"type\":\"long\",\"default\":9223372036854775807},{\"name\":\"y\",\"type\":\"bytes\",\"default\":\"\\u00ff\\u0000A\"},{\"name\":\"s\",\"type\":\"string\",\"default\":\"\\u20ac\"},{\"name\":\"x\",\"type\":{\"type\":\"fixed\",\"name\":\"F\",\"size\":2},\"default\":\"\\u0080z\"},{\"name\":\"e\",\"type\":{\"type\":\"enum\",\"name\":\"E\",\"symbols\":[\"A\",\"B\"]},\"default\":\"B\"},{\"name\":\"a\",\"type\":{\"type\":\"array\",\"items\":\"int\"},\"default\":[3,1]},{\"name\":\"m\",\"type\":{\"type\":\"map\",\"values\":\"int\"},\"default\":{\"b\":1,\"a\":2}}]}")
    ≡ Some (Node.record_of (simply (codes "R")) []
    (default_field (codes "n") 1 Value.null
    ∷ default_field (codes "b") 2 (Value.boolean true)
    ∷ default_field (codes "i") 3 (Value.int (negsuc 2147483647))
    ∷ default_field (codes "l") 4 (Value.long (pos 9223372036854775807))
    ∷ default_field (codes "y") 5 (Value.bytes (255 ∷ 0 ∷ 65 ∷ []))
    ∷ default_field (codes "s") 6 (Value.string (226 ∷ 130 ∷ 172 ∷ []))
    ∷ default_field (codes "x") 7 (Value.fixed (128 ∷ 122 ∷ []))
    ∷ default_field (codes "e") 8 (Value.enum 1)
    ∷ default_field (codes "a") 9 (Value.array (two_values (Value.int (pos 3)) (Value.int (pos 1))))
    ∷ default_field (codes "m") 11 (Value.map_of (entry (codes "a") (Value.int (pos 2)) (entry (codes "b") (Value.int (pos 1)) no_entries)))
    ∷ [])
    ∷ Node.null ∷ Node.boolean ∷ Node.int ∷ Node.long ∷ Node.bytes ∷ Node.string
    ∷ Node.fixed (simply (codes "F")) [] 2 ∷ Node.enum (simply (codes "E")) [] (codes "A" ∷ codes "B" ∷ []) None
    ∷ Node.array 10 ∷ Node.int ∷ Node.map_of 12 ∷ Node.int ∷ []))
    -- a default of a record has its fields in their order, whatever that of the members is
    × (declared_by (codes "{\"type\":\"record\",\"name\":\"R\",\"fields\":[{\"name\":\"f\",\"type\":{\"type\":\"record\",\"name\":\"S\",\"fields\":[{\"name\":\"z\",\"type\":\"int\"},{\"name\":\"a\",\"type\":\"null\"}]},\"default\":{\"a\":null,\"z\":5}}]}")
    ≡ Some (Node.record_of (simply (codes "R")) [] (default_field (codes "f") 1 (Value.record_of (two_values (Value.int (pos 5)) Value.null)) ∷ [])
    ∷ Node.record_of (simply (codes "S")) [] (plain_field (codes "z") 2 ∷ plain_field (codes "a") 3 ∷ []) ∷ Node.int ∷ Node.null ∷ []))
    -- a default of a union is one of the first branch that the JSON fits
    × (declared_by (codes "{\"type\":\"record\",\"name\":\"R\",\"fields\":[{\"name\":\"f\",\"type\":[\"null\",\"int\"],\"default\":null},{\"name\":\"g\",\"type\":{\"type\":\"array\",\"items\":[\"int\",\"null\"]},\"default\":[7]}]}")
    ≡ Some (Node.record_of (simply (codes "R")) [] (default_field (codes "f") 1 (Value.union 0 Value.null)
    ∷ default_field (codes "g") 4 (Value.array (one_value (Value.union 0 (Value.int (pos 7))))) ∷ [])
    ∷ Node.union (2 ∷ 3 ∷ []) ∷ Node.null ∷ Node.int ∷ Node.array 5 ∷ Node.union (6 ∷ 7 ∷ []) ∷ Node.int ∷ Node.null ∷ []))
    × (declared_by (codes "{\"type\":\"record\",\"name\":\"R\",\"fields\":[{\"name\":\"u\",\"type\":[\"null\",\"int\"],\"default\":3}]}")
    ≡ Some (Node.record_of (simply (codes "R")) [] (default_field (codes "u") 1 (Value.union 1 (Value.int (pos 3))) ∷ [])
    ∷ Node.union (2 ∷ 3 ∷ []) ∷ Node.null ∷ Node.int ∷ []))
    × (declared_by (codes "{\"type\":\"record\",\"name\":\"R\",\"fields\":[{\"name\":\"f\",\"type\":[\"int\",\"null\"],\"default\":null}]}")
    ≡ Some (Node.record_of (simply (codes "R")) [] (default_field (codes "f") 1 (Value.union 1 Value.null) ∷ [])
    ∷ Node.union (2 ∷ 3 ∷ []) ∷ Node.int ∷ Node.null ∷ []))
    -- both branches take the first text, and one the second; a number that is past an int is a long
    × (declared_by (codes "{\"type\":\"record\",\"name\":\"R\",\"fields\":[{\"name\":\"a\",\"type\":[\"bytes\",\"string\"],\"default\":\"a\"},{\"name\":\"b\",\"type\":[\"bytes\",\"string\"],\"default\":\"\\u20ac\"},{\"name\":\"c\",\"type\":[\"int\",\"long\"],\"default\":3000000000}]}")
    ≡ Some (Node.record_of (simply (codes "R")) []
    (default_field (codes "a") 1 (Value.union 0 (Value.bytes (97 ∷ [])))
    ∷ default_field (codes "b") 4 (Value.union 1 (Value.string (226 ∷ 130 ∷ 172 ∷ [])))
    ∷ default_field (codes "c") 7 (Value.union 1 (Value.long (pos 3000000000)))
    ∷ [])
    ∷ Node.union (2 ∷ 3 ∷ []) ∷ Node.bytes ∷ Node.string ∷ Node.union (5 ∷ 6 ∷ []) ∷ Node.bytes ∷ Node.string
    ∷ Node.union (8 ∷ 9 ∷ []) ∷ Node.int ∷ Node.long ∷ []))
    -- unions in an array, in a map, and in a record that is a branch itself
    × (declared_by (codes "{\"type\":\"record\",\"name\":\"R\",\"fields\":[{\"name\":\"a\",\"type\":{\"type\":\"array\",\"items\":[\"null\",\"int\"]},\"default\":[5,null]},{\"name\":\"m\",\"type\":{\"type\":\"map\",\"values\":[\"null\",\"int\"]},\"default\":{\"k\":5}},{\"name\":\"r\",\"type\":[\"null\",{\"type\":\"record\",\"name\":\"S\",\"fields\":[{\"name\":\"u\",\"type\":[\"null\",\"int\"]}]}],\"default\":{\"u\":5}}]}")
    ≡ Some (Node.record_of (simply (codes "R")) []
    (default_field (codes "a") 1 (Value.array (two_values (Value.union 1 (Value.int (pos 5))) (Value.union 0 Value.null)))
    ∷ default_field (codes "m") 5 (Value.map_of (entry (codes "k") (Value.union 1 (Value.int (pos 5))) no_entries))
    ∷ default_field (codes "r") 9 (Value.union 1 (Value.record_of (one_value (Value.union 1 (Value.int (pos 5))))))
    ∷ [])
    ∷ Node.array 2 ∷ Node.union (3 ∷ 4 ∷ []) ∷ Node.null ∷ Node.int
    ∷ Node.map_of 6 ∷ Node.union (7 ∷ 8 ∷ []) ∷ Node.null ∷ Node.int
    ∷ Node.union (10 ∷ 11 ∷ []) ∷ Node.null ∷ Node.record_of (simply (codes "S")) [] (plain_field (codes "u") 12 ∷ [])
    ∷ Node.union (13 ∷ 14 ∷ []) ∷ Node.null ∷ Node.int ∷ []))
    -- a default of a type whose definition comes to its end after it
    × (declared_by (codes "{\"type\":\"record\",\"name\":\"R\",\"fields\":[{\"name\":\"f\",\"type\":{\"type\":\"map\",\"values\":\"R\"},\"default\":{\"k\":{\"f\":{}}}}]}")
    ≡ Some (Node.record_of (simply (codes "R")) [] (default_field (codes "f") 1 (Value.map_of (entry (codes "k") (Value.record_of (one_value (Value.map_of no_entries))) no_entries)) ∷ [])
    ∷ Node.map_of 0 ∷ []))
    -- a default of the second field alone
    × (declared_by (codes "{\"type\":\"record\",\"name\":\"R\",\"fields\":[{\"name\":\"a\",\"type\":\"int\"},{\"name\":\"b\",\"type\":\"int\",\"default\":7}]}")
    ≡ Some (Node.record_of (simply (codes "R")) [] (plain_field (codes "a") 1 ∷ default_field (codes "b") 2 (Value.int (pos 7)) ∷ [])
    ∷ Node.int ∷ Node.int ∷ []))
unfolding serde_json_on_literals is_utf8 chars encode
are_declared = (refl, refl, refl, refl, refl, refl, refl, refl, refl)

-- no defaults of their types
invalid_defaults : AllHave SchemaError.InvalidDefault (codes "{\"type\":\"record\",\"name\":\"R\",\"fields\":[{\"name\":\"f\",\"type\":[\"null\",\"int\"],\"default\":\"x\"}]}"
    ∷ codes "{\"type\":\"record\",\"name\":\"R\",\"fields\":[{\"name\":\"f\",\"type\":{\"type\":\"array\",\"items\":[\"null\",\"int\"]},\"default\":[1,\"a\"]}]}"
    ∷ codes "{\"type\":\"record\",\"name\":\"R\",\"fields\":[{\"name\":\"f\",\"type\":\"int\",\"default\":null}]}"
    ∷ codes "{\"type\":\"record\",\"name\":\"R\",\"fields\":[{\"name\":\"f\",\"type\":\"int\",\"default\":2147483648}]}"
    ∷ codes "{\"type\":\"record\",\"name\":\"R\",\"fields\":[{\"name\":\"f\",\"type\":\"long\",\"default\":9223372036854775808}]}"
    ∷ codes "{\"type\":\"record\",\"name\":\"R\",\"fields\":[{\"name\":\"f\",\"type\":\"string\",\"default\":1}]}"
    ∷ codes "{\"type\":\"record\",\"name\":\"R\",\"fields\":[{\"name\":\"f\",\"type\":\"bytes\",\"default\":\"\\u0100\"}]}"
    ∷ codes "{\"type\":\"record\",\"name\":\"R\",\"fields\":[{\"name\":\"f\",\"type\":{\"type\":\"fixed\",\"name\":\"F\",\"size\":2},\"default\":\"a\"}]}"
    ∷ codes "{\"type\":\"record\",\"name\":\"R\",\"fields\":[{\"name\":\"f\",\"type\":{\"type\":\"enum\",\"name\":\"E\",\"symbols\":[\"A\"]},\"default\":\"B\"}]}"
    ∷ codes "{\"type\":\"record\",\"name\":\"R\",\"fields\":[{\"name\":\"f\",\"type\":{\"type\":\"array\",\"items\":\"int\"},\"default\":[1,\"a\"]}]}"
    ∷ codes "{\"type\":\"record\",\"name\":\"R\",\"fields\":[{\"name\":\"f\",\"type\":{\"type\":\"map\",\"values\":\"int\"},\"default\":[]}]}"
    ∷ codes "{\"type\":\"record\",\"name\":\"R\",\"fields\":[{\"name\":\"f\",\"type\":{\"type\":\"record\",\"name\":\"S\",\"fields\":[{\"name\":\"z\",\"type\":\"int\"}]},\"default\":{}}]}"
    ∷ codes "{\"type\":\"record\",\"name\":\"R\",\"fields\":[{\"name\":\"f\",\"type\":{\"type\":\"record\",\"name\":\"S\",\"fields\":[{\"name\":\"z\",\"type\":\"int\"}]},\"default\":{\"y\":1,\"z\":1}}]}"
    ∷ [])
unfolding serde_json_on_literals is_utf8 chars encode
invalid_defaults = refl

-- a fault of another kind beside such a default
other_fault_first : AllHave SchemaError.InvalidUnion (codes "{\"type\":\"record\",\"name\":\"R\",\"fields\":[{\"name\":\"f\",\"type\":[\"null\",\"null\"],\"default\":3}]}" ∷ [])
unfolding serde_json_on_literals is_utf8 chars encode
other_fault_first = refl
