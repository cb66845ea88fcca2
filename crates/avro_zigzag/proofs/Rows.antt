-- Spellings and faults, computed.
use Rattle.std.proofs.Common.{◌≡◌, ◌-◌, ◌^◌, pos, negsuc, true, [], ◌∷◌, refl, arith}
use Rattle.avro_zigzag.specs.declared.VarError.TheVariants.{EndOfInput, OutOfRange}
use Rattle.avro_zigzag.specs.Number.{SpellsLong, SpellsInt, IsShortest, number_bytes, is_int, is_long}
use Rattle.avro_zigzag.specs.NumberFault.{LongFails, IntFails, ends, too_large}
use Rattle.avro_zigzag.proofs.public.Spelling.{IsShortest-number_bytes}

-- 0 is 00
zero_row : number_bytes (pos 0) ≡ 0 ∷ []
zero_row = refl

-- -1 is 01
minus_one_row : number_bytes (negsuc 0) ≡ 1 ∷ []
minus_one_row = refl

-- 1 is 02
one_row : number_bytes (pos 1) ≡ 2 ∷ []
one_row = refl

-- -2 is 03
minus_two_row : number_bytes (negsuc 1) ≡ 3 ∷ []
minus_two_row = refl

-- 2 is 04
two_row : number_bytes (pos 2) ≡ 4 ∷ []
two_row = refl

-- -64 is 7f
last_of_one_byte_row : number_bytes (negsuc 63) ≡ 127 ∷ []
last_of_one_byte_row = refl

-- 64 is 80 01
first_of_two_bytes_row : number_bytes (pos 64) ≡ 128 ∷ 1 ∷ []
first_of_two_bytes_row = refl

-- 2147483647 is fe ff ff ff 0f
greatest_int_row : number_bytes (pos 2147483647) ≡ 254 ∷ 255 ∷ 255 ∷ 255 ∷ 15 ∷ []
greatest_int_row = refl

-- -2147483648 is ff ff ff ff 0f
least_int_row : number_bytes (negsuc 2147483647) ≡ 255 ∷ 255 ∷ 255 ∷ 255 ∷ 15 ∷ []
least_int_row = refl

-- 2^62 is 80 80 80 80 80 80 80 80 80 01
half_long_row : number_bytes (pos (2 ^ 62)) ≡ 128 ∷ 128 ∷ 128 ∷ 128 ∷ 128 ∷ 128 ∷ 128 ∷ 128 ∷ 128 ∷ 1 ∷ []
half_long_row = refl

-- 2^63 - 1 is fe ff ff ff ff ff ff ff ff 01
greatest_long_row : number_bytes (pos (2 ^ 63 - 1)) ≡ 254 ∷ 255 ∷ 255 ∷ 255 ∷ 255 ∷ 255 ∷ 255 ∷ 255 ∷ 255 ∷ 1 ∷ []
greatest_long_row = refl

-- -2^63 is ff ff ff ff ff ff ff ff ff 01
least_long_row : number_bytes (negsuc (2 ^ 63 - 1)) ≡ 255 ∷ 255 ∷ 255 ∷ 255 ∷ 255 ∷ 255 ∷ 255 ∷ 255 ∷ 255 ∷ 1 ∷ []
least_long_row = refl

-- 64 is written 80 01
shortest_row : IsShortest (pos 64) (128 ∷ 1 ∷ [])
shortest_row = IsShortest-number_bytes (pos 64)

-- and read from 80 01 and from 80 81 00
spelled_row : SpellsLong (pos 64) (128 ∷ 1 ∷ [])
spelled_row = record { groups = refl; value = refl; few = omega arith }

padded_row : SpellsLong (pos 64) (128 ∷ 129 ∷ 0 ∷ [])
padded_row = record { groups = refl; value = refl; few = omega arith }

-- 80 00 is 0, which is written 00
padded_zero_row : SpellsLong (pos 0) (128 ∷ 0 ∷ [])
padded_zero_row = record { groups = refl; value = refl; few = omega arith }

-- and so are 80 nine times and 00
ten_bytes_zero_row : SpellsLong (pos 0) (128 ∷ 128 ∷ 128 ∷ 128 ∷ 128 ∷ 128 ∷ 128 ∷ 128 ∷ 128 ∷ 0 ∷ [])
ten_bytes_zero_row = record { groups = refl; value = refl; few = omega arith }

-- an eleventh byte is none of a long's
eleven_bytes_row : SpellsLong (pos 0) (128 ∷ 128 ∷ 128 ∷ 128 ∷ 128 ∷ 128 ∷ 128 ∷ 128 ∷ 128 ∷ 128 ∷ 0 ∷ []) → ⊥
eleven_bytes_row s = omega (arith, s.few)

-- 8a 80 80 80 00 is the int 5
padded_int_row : SpellsInt (pos 5) (138 ∷ 128 ∷ 128 ∷ 128 ∷ 0 ∷ [])
padded_int_row = record { groups = refl; value = refl; few = omega arith }

-- and one byte more is none of an int's
six_bytes_row : SpellsInt (pos 5) (138 ∷ 128 ∷ 128 ∷ 128 ∷ 128 ∷ 0 ∷ []) → ⊥
six_bytes_row s = omega (arith, s.few)

-- where the ranges end
least_int_in_range_row : is_int (negsuc 2147483647) ≡ true
least_int_in_range_row = refl

greatest_long_in_range_row : is_long (pos 9223372036854775807) ≡ true
greatest_long_in_range_row = refl

-- no bytes are too few
no_bytes_row : LongFails [] EndOfInput
no_bytes_row = ends refl (omega arith)

-- and so is 80
one_more_row : IntFails (128 ∷ []) EndOfInput
one_more_row = ends refl (omega arith)

-- 80 nine times and 02 have a 65th bit
padded_two_row : LongFails (128 ∷ 128 ∷ 128 ∷ 128 ∷ 128 ∷ 128 ∷ 128 ∷ 128 ∷ 128 ∷ 2 ∷ []) OutOfRange
padded_two_row = too_large (128 ∷ 128 ∷ 128 ∷ 128 ∷ 128 ∷ 128 ∷ 128 ∷ 128 ∷ 128 ∷ []) [] 2 refl refl (omega arith) (omega arith)

-- 8a 80 80 80 80 goes on past the five bytes of an int
sixth_byte_row : IntFails (138 ∷ 128 ∷ 128 ∷ 128 ∷ 128 ∷ 0 ∷ []) OutOfRange
sixth_byte_row = too_large (138 ∷ 128 ∷ 128 ∷ 128 ∷ []) (0 ∷ []) 128 refl refl (omega arith) (omega arith)

-- a tenth byte 02 has a 65th bit
tenth_two_row : LongFails (255 ∷ 255 ∷ 255 ∷ 255 ∷ 255 ∷ 255 ∷ 255 ∷ 255 ∷ 255 ∷ 2 ∷ []) OutOfRange
tenth_two_row = too_large (255 ∷ 255 ∷ 255 ∷ 255 ∷ 255 ∷ 255 ∷ 255 ∷ 255 ∷ 255 ∷ []) [] 2 refl refl (omega arith) (omega arith)

-- ff ff ff ff 10 has a 33rd bit
fifth_sixteen_row : IntFails (255 ∷ 255 ∷ 255 ∷ 255 ∷ 16 ∷ []) OutOfRange
fifth_sixteen_row = too_large (255 ∷ 255 ∷ 255 ∷ 255 ∷ []) [] 16 refl refl (omega arith) (omega arith)
