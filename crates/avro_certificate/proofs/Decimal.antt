-- Numbers in decimal, digit by digit.
use Rattle.std.proofs.Common.{◌≡◌, ℕ, zero, suc, ◌+◌, ◌*◌, ◌<◌, ◌≤◌, ◌⊎◌, inl, inr, List, [], ◌∷◌, ◌++◌, length, get_or, take, map, refl, sym, ap, ◌∙◌, arith, add-one, take-suc, take_all}
use Rattle.std.proofs.lemmas.List.{length-map}
use Rattle.std.proofs.lemmas.Int.Digits.{first_digits_of, all_below_base_digits_of, length-digits_of_step}
use Rattle.std.proofs.lemmas.Grind.{common_steps}
use Rattle.std.specs.Prelude.{min}
use Rattle.std.specs.Int.Digits.{digits_of, AllBelowBase}
use Rattle.avro_certificate.specs.CertificateText.{decimal}
use Rattle.avro_certificate.specs.inside.CertificateLines.{bounded}
use Rattle.avro_certificate.proofs.public.Digits.{above_zero, decimal_digit, decimal_push}

digit_at : (ds : List ℕ) (i : ℕ) → AllBelowBase 10 ds → i < length ds → (48 ≤ get_or (map (λ d. 48 + d) ds) i 0) × (get_or (map (λ d. 48 + d) ds) i 0 < 58)
digit_at [] i all here = absurd (omega arith)
digit_at (d ∷ ds) zero all here = (omega arith, omega arith)
digit_at (d ∷ ds) (suc i) all here = digit_at ds i all.1 (omega arith)

pub length_digits : (n : ℕ) → 0 < n → length (decimal n) ≡ length (digits_of 10 n)
length_digits n h = ap length (above_zero n h) ∙ length-map (digits_of 10 n) (λ d. 48 + d)

-- each byte is a digit
pub decimal_digits : (n i : ℕ) → i < length (decimal n) → (48 ≤ get_or (decimal n) i 0) × (get_or (decimal n) i 0 < 58)
decimal_digits n i here = grind (arith, above_zero, all_below_base_digits_of, digit_at, length_digits)

-- there is a digit
pub decimal_some : (n : ℕ) → 0 < length (decimal n)
decimal_some n = grind (arith, length-digits_of_step, length_digits)

first_of_map : (ds : List ℕ) → 0 < length ds → get_or (map (λ d. 48 + d) ds) 0 0 ≡ 48 + get_or ds 0 0
first_of_map [] h = absurd (omega arith)
first_of_map (d ∷ ds) h = refl

-- no number but 0 begins with the digit 0
pub decimal_first : (n : ℕ) → 0 < n → 48 < get_or (decimal n) 0 0
decimal_first n h = grind (arith, above_zero, first_digits_of, first_of_map, length-digits_of_step)

-- the number that is kept, digit by digit
pub bounded_digit : (d : ℕ) → d < 10 → min 4096 (0 * 10 + d) ≡ bounded d
bounded_digit d h = grind (arith, common_steps)

pub bounded_push : (n d : ℕ) → d < 10 → min 4096 (bounded n * 10 + d) ≡ bounded (n * 10 + d)
bounded_push n d h = grind (arith, common_steps)

pub bounded_zero : (n : ℕ) → bounded n ≡ 0 → n ≡ 0
bounded_zero n h = grind (arith, common_steps)

-- The first bytes of a text are a number, of which this is kept.
abbrev pub Begins : List ℕ → ℕ → ℕ → Type 0
Begins bs i number = (i ≡ 0 → number ≡ 0) × (0 < i → (n : ℕ) × (take i bs ≡ decimal n) × (number ≡ bounded n))

one_more : (bs : List ℕ) (i : ℕ) → i < length bs → take (i + 1) bs ≡ take i bs ++ (get_or bs i 0 ∷ [])
one_more bs i here = rw add-one (take-suc bs i 0 here)

-- one digit more
pub begins_more : (bs : List ℕ) (i number d : ℕ) → i < length bs → get_or bs i 0 ≡ 48 + d → d < 10 → Begins bs i number → (0 < i → number ≡ 0 → ⊥)
    → Begins bs (i + 1) (min 4096 (number * 10 + d))
begins_more bs i number d here digit small begun more = (λ z. absurd (omega arith), λ _. longer (order_zero i))
  where
    order_zero : (k : ℕ) → (k ≡ 0) ⊎ (0 < k)
    order_zero k = grind arith

    longer : (i ≡ 0) ⊎ (0 < i) → (n : ℕ) × (take (i + 1) bs ≡ decimal n) × (min 4096 (number * 10 + d) ≡ bounded n)
    longer (inl z) = (
      d,
      one_more bs i here ∙ ap (λ c. take i bs ++ (c ∷ [])) digit ∙ ap (λ k. take k bs ++ ((48 + d) ∷ [])) z ∙ sym (decimal_digit d small),
      ap (λ k. min 4096 (k * 10 + d)) (begun.0 z) ∙ bounded_digit d small,
    )
    longer (inr some) =
        let before = begun.1 some in
        let n = before.0 in
        let above : 0 < n = positive n (λ z. more some (before.2 ∙ ap bounded z)) in (
          n * 10 + d,
          one_more bs i here ∙ ap (λ c. take i bs ++ (c ∷ [])) digit ∙ ap (λ l. l ++ ((48 + d) ∷ [])) before.1 ∙ sym (decimal_push n d above small),
          ap (λ k. min 4096 (k * 10 + d)) before.2 ∙ bounded_push n d small,
        )
      where
        positive : (k : ℕ) → (k ≡ 0 → ⊥) → 0 < k
        positive k h = grind arith

-- a text with a byte that is no digit is no number
pub no_digit : (bs : List ℕ) (i n : ℕ) → i < length bs → (48 ≤ get_or bs i 0 → get_or bs i 0 < 58 → ⊥) → bs ≡ decimal n → ⊥
no_digit bs i n here other e = grind (arith, decimal_digits)

first_of_take : (bs : List ℕ) (i : ℕ) → 0 < i → get_or (take i bs) 0 0 ≡ get_or bs 0 0
first_of_take bs i h = grind arith

-- nor one with digits behind a leading zero
pub no_leading_zero : (bs : List ℕ) (i n : ℕ) → 0 < i → i < length bs → Begins bs i 0 → bs ≡ decimal n → ⊥
no_leading_zero bs i n some here begun e =
    let before = begun.1 some in
    let zeros : take i bs ≡ decimal 0 = before.1 ∙ ap decimal (bounded_zero before.0 (sym before.2)) in
    let first : get_or bs 0 0 ≡ 48 = sym (first_of_take bs i some) ∙ ap (λ (l : List ℕ). get_or l 0 0) zeros in
    let single : length (take i bs) ≡ 1 = ap length zeros in
    cases n e first single
  where
    cases : (m : ℕ) → bs ≡ decimal m → get_or bs 0 0 ≡ 48 → length (take i bs) ≡ 1 → ⊥
    cases m e first single = grind (arith, decimal_first)

-- nor an empty one
pub no_empty : (bs : List ℕ) (n : ℕ) → length bs ≡ 0 → bs ≡ decimal n → ⊥
no_empty bs n none e = omega (arith, decimal_some n, ap length e)

-- a whole text
pub begins_whole : (bs : List ℕ) (number : ℕ) → 0 < length bs → Begins bs (length bs) number → (n : ℕ) × (bs ≡ decimal n) × (number ≡ bounded n)
begins_whole bs number some begun = grind (arith, take_all)
