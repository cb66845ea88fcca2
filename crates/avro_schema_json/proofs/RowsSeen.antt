-- Rows of bits, word by word.
use Rattle.avro_schema_json.proofs.Words.{◌≡◌, ℕ, ◌/◌, ◌%◌, ◌^◌, ◌*◌, ◌<◌, Bool, true, ◌==◌, List, length, get_or, set, refl, arith, bit_at, bit_or, get_or-set_same, get_or-set_other, bit_at_or, bit_at_and, bit_at-lt, bit_at_set_same, bit_at-zero, Decides-eqb, has_place, IsWithin, RowWord, Some, slice_get}
unfoldable use Rattle.avro_schema_json.specs.inside.Parents.{has_bit}
use lib.Bits.{bit_and}
use mir.Syntax.{w64}

one : (a : ℕ) → (a == 1) ≡ true → a ≡ 1
one a h = (Decides-eqb a 1).0 h

is_one : (a : ℕ) → a ≡ 1 → (a == 1) ≡ true
is_one a h = (Decides-eqb a 1).1 h

-- a bit that is in a word is in one with more bits
pub more-left : (a b i : ℕ) → bit_at a i ≡ 1 → bit_at (bit_or a b) i ≡ 1
more-left a b i h = let sum = bit_at_or a b i in let few = bit_at-lt b i in omega (arith, h, sum, few)

pub more-right : (a b i : ℕ) → bit_at b i ≡ 1 → bit_at (bit_or a b) i ≡ 1
more-right a b i h = let sum = bit_at_or a b i in let few = bit_at-lt a i in omega (arith, h, sum, few)

or-left : (a b i : ℕ) → (bit_at a i == 1) ≡ true → (bit_at (bit_or a b) i == 1) ≡ true
or-left a b i h = is_one (bit_at (bit_or a b) i) (more-left a b i (one (bit_at a i) h))

or-right : (a b i : ℕ) → (bit_at b i == 1) ≡ true → (bit_at (bit_or a b) i == 1) ≡ true
or-right a b i h = is_one (bit_at (bit_or a b) i) (more-right a b i (one (bit_at b i) h))

and-both : (a b i : ℕ) → (bit_at a i == 1) ≡ true → (bit_at b i == 1) ≡ true → (bit_at (bit_and a b) i == 1) ≡ true
and-both a b i h k = grind (arith, bit_at_and, is_one, one)

-- rows by their words
pub within-words : (row other : List ℕ) → ((k i : ℕ) → k < 64 → (bit_at (get_or row k 0) i == 1) ≡ true → (bit_at (get_or other k 0) i == 1) ≡ true) → IsWithin row other
within-words row other words p = grind arith

pub or-within : (row old other : List ℕ) → ((k : ℕ) → k < 64 → get_or row k 0 ≡ bit_or (get_or old k 0) (get_or other k 0)) → IsWithin old row × IsWithin other row
or-within row old other words = (
  within-words old row (λ k i below there. rw (words k below) (or-left (get_or old k 0) (get_or other k 0) i there)),
  within-words other row (λ k i below there. rw (words k below) (or-right (get_or old k 0) (get_or other k 0) i there)),
)

pub and-within : (row old other : List ℕ) → ((k : ℕ) → k < 64 → get_or row k 0 ≡ bit_and (get_or old k 0) (get_or other k 0))
    → (p : ℕ) → has_place old p ≡ true → has_place other p ≡ true → has_place row p ≡ true
and-within row old other words p = grind (arith, and-both)

-- bits of one word more
pub put-within : (row : List ℕ) (w bits : ℕ) → w < length row → IsWithin row (set row w (bit_or (get_or row w 0) bits))
put-within row w bits below = within-words row _ (λ k i inside there. by k i there (k == w) refl)
  where
    by : (k i : ℕ) → (bit_at (get_or row k 0) i == 1) ≡ true → (b : Bool) → (k == w) ≡ b
        → (bit_at (get_or (set row w (bit_or (get_or row w 0) bits)) k 0) i == 1) ≡ true
    by k i there b h = grind (arith, get_or-set_other, get_or-set_same, or-left)

pub put-added : (row : List ℕ) (w bits p : ℕ) → w < length row → p / 64 ≡ w → bit_at bits (p % 64) ≡ 1 → has_place (set row w (bit_or (get_or row w 0) bits)) p ≡ true
put-added row w bits p below here there = grind (arith, get_or-set_same, is_one, or-right)

-- the bit of a place itself
pub bit-itself : (k : ℕ) → k < 64 → bit_at (1 * 2 ^ k % 18446744073709551616) k ≡ 1
bit-itself k below =
    let bit = 1 * 2 ^ k % 18446744073709551616 in
    let whole : bit_at (bit_or 0 bit) k ≡ 1 = bit_at_set_same w64 0 k (omega (arith, below)) in
    let sum = bit_at_or 0 bit k in
    let zero = bit_at-zero k in
    let few = bit_at-lt bit k in
    omega (arith, whole, sum, zero, few)

-- 0 has no bit
pub no-bit : (i n : ℕ) → n ≡ 0 → bit_at n i ≡ 1 → ⊥
no-bit i n none h = let w : bit_at 0 i ≡ 1 = rw none at h in absurd (omega (arith, w, bit_at-zero i))

-- words with a bit
pub bit-of : (words : List RowWord) (p : ℕ) → has_bit words p
    → (at : ℕ) × (word : RowWord) × (slice_get words at ≡ Some word) × (word.index ≡ p / 64) × (bit_at word.bits (p % 64) ≡ 1)
unfolding has_bit
bit-of words p h = h

pub of-bit : (words : List RowWord) (at p : ℕ) (word : RowWord) → slice_get words at ≡ Some word → word.index ≡ p / 64 → bit_at word.bits (p % 64) ≡ 1 → has_bit words p
unfolding has_bit
of-bit words at p word there here bit = (at, word, there, here, bit)
