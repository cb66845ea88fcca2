-- A number in decimal, by its last digit and what stands before it.
use Rattle.std.proofs.Common.{◌≡◌, ℕ, ◌+◌, ◌*◌, ◌/◌, ◌%◌, ◌<◌, ◌≤◌, false, List, [], ◌∷◌, ◌++◌, map, cond, refl, ap, ◌∙◌, arith}
use Rattle.std.proofs.lemmas.Bool.{eqb-true}
use Rattle.std.proofs.lemmas.Int.Digits.{digits_of_step}
use Rattle.std.specs.Prelude.{◌==◌}
use Rattle.std.specs.Int.Digits.{digits_of}
use Rattle.avro_certificate.specs.CertificateText.{decimal}

not_zero : (n : ℕ) → 0 < n → (n == 0) ≡ false
not_zero n h = grind (arith, eqb-true)

pub above_zero : (n : ℕ) → 0 < n → decimal n ≡ map (λ d. 48 + d) (digits_of 10 n)
above_zero n h = ap (λ b. cond b (48 ∷ []) (map (λ d. 48 + d) (digits_of 10 n))) (not_zero n h)

map-append : (f : ℕ → ℕ) (xs ys : List ℕ) → map f (xs ++ ys) ≡ map f xs ++ map f ys
map-append f [] ys = refl
map-append f (x ∷ xs) ys = ap (λ l. f x ∷ l) (map-append f xs ys)

-- a number of one digit
pub decimal_digit : (d : ℕ) → d < 10 → decimal d ≡ (48 + d) ∷ []
decimal_digit d h = grind (arith, above_zero, digits_of_step)

-- a digit more
pub decimal_push : (n d : ℕ) → 0 < n → d < 10 → decimal (n * 10 + d) ≡ decimal n ++ ((48 + d) ∷ [])
decimal_push n d some small = grind (arith, above_zero, digits_of_step, map-append)

-- the last digit, behind the others
pub decimal_step : (n : ℕ) → 10 ≤ n → decimal n ≡ decimal (n / 10) ++ ((48 + n % 10) ∷ [])
decimal_step n big =
    let whole : n ≡ n / 10 * 10 + n % 10 = omega arith in
    ap decimal whole ∙ decimal_push (n / 10) (n % 10) (omega arith) (omega arith)
