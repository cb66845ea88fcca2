-- What fits, from its range: a count below 2^63, and bytes.
use Rattle.std.proofs.Common.{◌≡◌, ℕ, zero, suc, ◌^◌, ◌<◌, true, nat_lt, List, [], ◌∷◌, get_or, refl, arith}
use Rattle.std.specs.List.{list_all}
use Rattle.std.proofs.lemmas.Bool.Decides.{nat_tests}
use Rattle.avro_schema.specs.Fits.{is_count}

pub is_count-from_below : (n : ℕ) → n < 2 ^ 63 → is_count n ≡ true
is_count-from_below n h = grind (arith, nat_tests)

pub bytes-below : (xs : List ℕ) → ((i : ℕ) → get_or xs i 0 < 2 ^ 8) → list_all (λ x. nat_lt x 256) xs ≡ true
bytes-below [] h = refl
bytes-below (x ∷ xs) h =
    let first : nat_lt x 256 ≡ true = let b : x < 2 ^ 8 = h zero in grind (arith, nat_tests) in
    rw (first, bytes-below xs (λ i. h (suc i))) refl
