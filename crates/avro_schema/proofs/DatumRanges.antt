-- What the types of the program say of its data: a length is below 2^63, a byte below 256, and a text is UTF-8.
use Rattle.std.proofs.Common.{◌≡◌, ℕ, zero, suc, ◌<◌, ◌^◌, true, nat_lt, List, [], ◌∷◌, length, get_or, refl, arith}
use Rattle.std.specs.Prelude.{String, string_bytes}
use Rattle.std.specs.Global.{Vec}
use Rattle.std.specs.List.{list_all}
use Rattle.std.proofs.lemmas.Str.{IsUtf8-string_bytes, is_utf8-from_IsUtf8}
use Rattle.std.proofs.lemmas.Bool.Decides.{nat_tests}
use Rattle.avro_schema.specs.Fits.{is_text, is_count, are_bytes}

pub is_count-from_below : (n : ℕ) → n < 2 ^ 63 → is_count n ≡ true
is_count-from_below n h = grind (arith, nat_tests)

pub is_text-string : {Z : Type 0} (s : String Z) → is_text (string_bytes s) ≡ true
is_text-string s =
    let below : length (string_bytes s) < 2 ^ 63 = omega (arith, s.bytes.ok.0, s.bytes.ok.1, s.bytes.small) in
    rw (is_count-from_below (length (string_bytes s)) below, is_utf8-from_IsUtf8 (string_bytes s) (IsUtf8-string_bytes s)) refl

bytes-below : (xs : List ℕ) → ((i d : ℕ) → i < length xs → get_or xs i d < 256) → list_all (λ x. nat_lt x 256) xs ≡ true
bytes-below [] h = refl
bytes-below (x ∷ xs) h =
    let first : nat_lt x 256 ≡ true = let b : x < 256 = h zero 0 (omega arith) in grind (arith, nat_tests) in
    rw (first, bytes-below xs (λ i d below. h (suc i) d (omega arith))) refl

pub are_bytes-items : (v : Vec ℕ) → ((i d : ℕ) → i < length v.items → get_or v.items i d < 256) → are_bytes v.items ≡ true
are_bytes-items v h =
    let below : length v.items < 2 ^ 63 = omega (arith, v.ok.0, v.ok.1, v.small) in
    rw (is_count-from_below (length v.items) below, bytes-below v.items h) refl
