-- Displays of data: computed.
use Rattle.std.proofs.Common.{◌≡◌, refl, pos, negsuc, false, [], ◌∷◌, ◌++◌, None, codes}
use lib.Utf8.{encode}
use Rattle.std.specs.Fmt.{digits}
use Rattle.avro_schema.specs.Value.{Value, no_values, entry, no_entries}
use Rattle.avro_schema.specs.Node.{Node, root_of}
use Rattle.avro_schema.proofs.public.RowsSchemas.{simply, within, one_value, two_values, string_and_long, long_or_int, three_symbols, array_of_one, array_of_int_union, map_of_int}
use Rattle.serde_json.proofs.OnLiterals.{serde_json_on_literals}
use Rattle.avro_display.specs.DisplayTree.{display_text}

-- data without parts
null_alone : display_text (Node.null ∷ []) (root_of (Node.null ∷ [])) (Value.null)
    ≡ codes "null"
unfolding serde_json_on_literals encode digits
null_alone = refl

false_alone : display_text (Node.boolean ∷ []) (root_of (Node.boolean ∷ [])) (Value.boolean false)
    ≡ codes "false"
unfolding serde_json_on_literals encode digits
false_alone = refl

least_long : display_text (Node.long ∷ []) (root_of (Node.long ∷ [])) (Value.long (negsuc 9223372036854775807))
    ≡ codes "-9223372036854775808"
unfolding serde_json_on_literals encode digits
least_long = refl

zero_int : display_text (Node.int ∷ []) (root_of (Node.int ∷ [])) (Value.int (pos 0))
    ≡ codes "0"
unfolding serde_json_on_literals encode digits
zero_int = refl

-- a record of fields b and a: the keys are in the order of their bytes
keys_in_byte_order : display_text (string_and_long) (root_of (string_and_long)) (Value.record_of (two_values (Value.string (codes "foo")) (Value.long (pos 27))))
    ≡ codes "{\"a\":27,\"b\":\"foo\"}"
unfolding serde_json_on_literals encode digits
keys_in_byte_order = refl

-- unions
named_branch_of_a_union : display_text (long_or_int) (root_of (long_or_int)) (Value.union 0 (Value.long (pos 5)))
    ≡ codes "{\"long\":5}"
unfolding serde_json_on_literals encode digits
named_branch_of_a_union = refl

null_branch : display_text (Node.union (1 ∷ 2 ∷ []) ∷ Node.int ∷ Node.null ∷ []) (root_of (Node.union (1 ∷ 2 ∷ []) ∷ Node.int ∷ Node.null ∷ [])) (Value.union 1 Value.null)
    ≡ codes "null"
unfolding serde_json_on_literals encode digits
null_branch = refl

branch_with_a_fullname : display_text (Node.union (1 ∷ []) ∷ Node.enum (within (codes "a.b") (codes "E")) [] (codes "X" ∷ codes "Y" ∷ []) None ∷ []) (root_of (Node.union (1 ∷ []) ∷ Node.enum (within (codes "a.b") (codes "E")) [] (codes "X" ∷ codes "Y" ∷ []) None ∷ [])) (Value.union 0 (Value.enum 1))
    ≡ codes "{\"a.b.E\":\"Y\"}"
unfolding serde_json_on_literals encode digits
branch_with_a_fullname = refl

branch_in_the_null_namespace : display_text (Node.union (1 ∷ []) ∷ Node.fixed (simply (codes "F")) [] 1 ∷ []) (root_of (Node.union (1 ∷ []) ∷ Node.fixed (simply (codes "F")) [] 1 ∷ [])) (Value.union 0 (Value.fixed (65 ∷ [])))
    ≡ codes "{\"F\":\"A\"}"
unfolding serde_json_on_literals encode digits
branch_in_the_null_namespace = refl

array_branch : display_text (Node.union (1 ∷ 3 ∷ []) ∷ Node.array 2 ∷ Node.int ∷ Node.map_of 4 ∷ Node.null ∷ []) (root_of (Node.union (1 ∷ 3 ∷ []) ∷ Node.array 2 ∷ Node.int ∷ Node.map_of 4 ∷ Node.null ∷ [])) (Value.union 0 (Value.array no_values))
    ≡ codes "{\"array\":[]}"
unfolding serde_json_on_literals encode digits
array_branch = refl

map_branch : display_text (Node.union (1 ∷ 3 ∷ []) ∷ Node.array 2 ∷ Node.int ∷ Node.map_of 4 ∷ Node.null ∷ []) (root_of (Node.union (1 ∷ 3 ∷ []) ∷ Node.array 2 ∷ Node.int ∷ Node.map_of 4 ∷ Node.null ∷ [])) (Value.union 1 (Value.map_of (entry (codes "k") Value.null no_entries)))
    ≡ codes "{\"map\":{\"k\":null}}"
unfolding serde_json_on_literals encode digits
map_branch = refl

-- an enum by its symbol
symbol : display_text (three_symbols) (root_of (three_symbols)) (Value.enum 1)
    ≡ codes "\"B\""
unfolding serde_json_on_literals encode digits
symbol = refl

-- an array of records
array_of_records : display_text (array_of_one) (root_of (array_of_one)) (Value.array (one_value (Value.record_of (one_value (Value.int (pos 0))))))
    ≡ codes "[{\"a\":0}]"
unfolding serde_json_on_literals encode digits
array_of_records = refl

array_of_unions : display_text (array_of_int_union) (root_of (array_of_int_union)) (Value.array (one_value (Value.union 0 (Value.int (pos 0)))))
    ≡ codes "[{\"int\":0}]"
unfolding serde_json_on_literals encode digits
array_of_unions = refl

-- a map: of one entry with the empty key, and of two out of order
empty_key : display_text (map_of_int) (root_of (map_of_int)) (Value.map_of (entry [] (Value.int (pos 0)) no_entries))
    ≡ codes "{\"\":0}"
unfolding serde_json_on_literals encode digits
empty_key = refl

two_keys : display_text (map_of_int) (root_of (map_of_int)) (Value.map_of (entry (codes "b") (Value.int (pos 1)) (entry (codes "a") (Value.int (pos 2)) no_entries)))
    ≡ codes "{\"a\":2,\"b\":1}"
unfolding serde_json_on_literals encode digits
two_keys = refl

-- bytes: each is the character of its value, in UTF-8, escaped where a text needs it
bytes_as_characters : display_text (Node.bytes ∷ []) (root_of (Node.bytes ∷ [])) (Value.bytes (65 ∷ 127 ∷ 128 ∷ 255 ∷ 0 ∷ 34 ∷ []))
    ≡ 34 ∷ 65 ∷ 127 ∷ 194 ∷ 128 ∷ 195 ∷ 191 ∷ (codes "\\u0000\\\"" ++ 34 ∷ [])
unfolding serde_json_on_literals encode digits
bytes_as_characters = refl

-- a string with a quote, a control character and U+20AC
text_with_escapes : display_text (Node.string ∷ []) (root_of (Node.string ∷ [])) (Value.string (34 ∷ 10 ∷ 1 ∷ 226 ∷ 130 ∷ 172 ∷ []))
    ≡ 34 ∷ codes "\\\"\\n\\u0001" ++ 226 ∷ 130 ∷ 172 ∷ 34 ∷ []
unfolding serde_json_on_literals encode digits
text_with_escapes = refl
