-- How long the text of a certificate is at most.
use Rattle.std.proofs.Common.{◌≡◌, ℕ, suc, ◌+◌, ◌*◌, ◌<◌, ◌≤◌, Bool, true, not, List, [], ◌∷◌, ◌++◌, length, map, flat_map, refl, ap, arith, length-append}
use Rattle.std.proofs.lemmas.Bool.Decides.{nat_tests}
use Rattle.std.proofs.lemmas.Int.Digits.{length-digits_of-le}
use Rattle.std.specs.Prelude.{nat_lt, codes}
use Rattle.std.specs.List.{list_all}
use Rattle.avro_compare.specs.Children.{Pair}
use Rattle.avro_certificate.specs.CertificateText.{CertText, decimal, dead_line, pair_line, is_rising, is_before, is_small, is_small_pair, are_small}
use Rattle.avro_certificate.proofs.public.Tests.{and_left, and_right}
use Rattle.avro_certificate.proofs.Decimal.{length_digits}
use Rattle.avro_certificate.proofs.public.Rising.{both_true}

-- numbers that rise between two bounds are no more than lie between them
count_rising : (xs : List ℕ) (low high : ℕ) → list_all (λ x. not (nat_lt x low)) xs ≡ true → list_all (λ x. nat_lt x high) xs ≡ true
    → is_rising nat_lt xs ≡ true → low ≤ high → low + length xs ≤ high
count_rising [] low high from_low to_high rising between = omega arith
count_rising (x ∷ xs) low high from_low to_high rising between =
    let above : low ≤ x = let h = and_left (not (nat_lt x low)) _ from_low in grind (arith, nat_tests) in
    let below : x < high = let h = and_left (nat_lt x high) _ to_high in grind (arith, nat_tests) in
    let rest = count_rising xs (x + 1) high (later xs (and_left (list_all (nat_lt x) xs) _ rising)) (and_right (nat_lt x high) _ to_high)
    (and_right (list_all (nat_lt x) xs) _ rising) (omega arith) in
    omega arith
  where
    later : (ys : List ℕ) → list_all (nat_lt x) ys ≡ true → list_all (λ y. not (nat_lt y (x + 1))) ys ≡ true
    later [] h = refl
    later (y ∷ ys) h = both_true (not (nat_lt y (x + 1))) _ (let k = and_left (nat_lt x y) _ h in grind (arith, nat_tests)) (later ys (and_right (nat_lt x y) _ h))

-- a pair as one number
key : Pair → ℕ
key p = p.w * 4096 + p.r

key_rises : (p q : Pair) → is_small_pair p ≡ true → is_small_pair q ≡ true → is_before p q ≡ true → nat_lt (key p) (key q) ≡ true
unfolding key
key_rises p q small theirs h = grind (arith, nat_tests)

key_small : (p : Pair) → is_small_pair p ≡ true → nat_lt (key p) 16777216 ≡ true
unfolding key
key_small p small = grind (arith, nat_tests)

keys_small : (ps : List Pair) → list_all is_small_pair ps ≡ true → list_all (λ x. nat_lt x 16777216) (map key ps) ≡ true
keys_small [] h = refl
keys_small (p ∷ ps) h = both_true (nat_lt (key p) 16777216) _ (key_small p (and_left (is_small_pair p) _ h)) (keys_small ps (and_right (is_small_pair p) _ h))

keys_after : (p : Pair) (ps : List Pair) → is_small_pair p ≡ true → list_all is_small_pair ps ≡ true → list_all (is_before p) ps ≡ true → list_all (nat_lt (key p)) (map key ps) ≡ true
keys_after p [] small theirs h = refl
keys_after p (q ∷ ps) small theirs h =
    both_true (nat_lt (key p) (key q)) _ (key_rises p q small (and_left (is_small_pair q) _ theirs) (and_left (is_before p q) _ h))
    (keys_after p ps small (and_right (is_small_pair q) _ theirs) (and_right (is_before p q) _ h))

keys_rise : (ps : List Pair) → list_all is_small_pair ps ≡ true → is_rising is_before ps ≡ true → is_rising nat_lt (map key ps) ≡ true
keys_rise [] small h = refl
keys_rise (p ∷ ps) small h =
    both_true (list_all (nat_lt (key p)) (map key ps)) _
    (keys_after p ps (and_left (is_small_pair p) _ small) (and_right (is_small_pair p) _ small) (and_left (list_all (is_before p) ps) _ h))
    (keys_rise ps (and_right (is_small_pair p) _ small) (and_right (list_all (is_before p) ps) _ h))

length-keys : (ps : List Pair) → length (map key ps) ≡ length ps
length-keys [] = refl
length-keys (p ∷ ps) = ap suc (length-keys ps)

all_from_zero : (xs : List ℕ) → list_all (λ x. not (nat_lt x 0)) xs ≡ true
all_from_zero [] = refl
all_from_zero (x ∷ xs) = both_true (not (nat_lt x 0)) _ (grind (arith, nat_tests)) (all_from_zero xs)

-- a number up to 4,095 has four digits at most
length_small : (n : ℕ) → is_small n ≡ true → length (decimal n) ≤ 4
length_small n h = grind (arith, length-digits_of-le, length_digits)

length-dead_line : (n : ℕ) → is_small n ≡ true → length (dead_line n) ≤ 10
length-dead_line n h = omega (arith, length-append (decimal n) (10 ∷ []), length_small n h)

length-pair_line : (p : Pair) → is_small_pair p ≡ true → length (pair_line p) ≤ 15
length-pair_line p h = grind (arith, and_left, and_right, length-append, length_small)

length-lines : {A : Type 0} (line : A → List ℕ) (test : A → Bool) (most : ℕ) → ((a : A) → test a ≡ true → length (line a) ≤ most) → (xs : List A) → list_all test xs ≡ true
    → length (flat_map line xs) ≤ most * length xs
length-lines line test most each [] h = omega arith
length-lines line test most each (x ∷ xs) h =
    let here = each x (and_left (test x) _ h) in
    let rest = length-lines line test most each xs (and_right (test x) _ h) in
    grind (arith, length-append (line x) (flat_map line xs))

-- each certificate's text is read
pub length-certificate : (dead : List ℕ) (pairs : List Pair) (text : List ℕ) → CertText dead pairs text → are_small dead pairs ≡ true → length text ≤ 268435456
length-certificate dead pairs text certified small =
    let nodes = and_left (list_all is_small dead) _ small in
    let them = and_right (list_all is_small dead) _ small in
    let few = count_rising dead 0 4096 (all_from_zero dead) nodes certified.rising (omega arith) in
    let few_pairs = count_rising (map key pairs) 0 16777216 (all_from_zero (map key pairs)) (keys_small pairs them) (keys_rise pairs them certified.rising_pairs) (omega arith) in
    let lines = length-lines dead_line is_small 10 length-dead_line dead nodes in
    let pair_lines = length-lines pair_line is_small_pair 15 length-pair_line pairs them in
    let front = codes "approval 1\n" ++ flat_map dead_line dead in
    omega (
      arith,
      ap length certified.written,
      length-append (flat_map dead_line dead ++ flat_map pair_line pairs) (codes "end\n"),
      length-append (flat_map dead_line dead) (flat_map pair_line pairs),
      length-keys pairs,
      few,
      few_pairs,
      lines,
      pair_lines,
    )
