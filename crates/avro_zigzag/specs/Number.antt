-- How a whole number is spelled (Avro 1.11, "Binary Encoding", "Primitive Types").
use Rattle.std.specs.Prelude.{◌≡◌, ℕ, zero, suc, ◌+◌, ◌*◌, ◌/◌, ◌%◌, ◌-◌, ◌^◌, ◌≤◌, ℤ, pos, negsuc, Bool, true, false, ◌&&◌, List, [], ◌∷◌, length, nat_lt, nat_le, int_le}

-- the zig-zag number of a whole number: 2v for v from 0 on, and -2v - 1 below it
abbrev pub zigzag : ℤ → ℕ
zigzag (pos n) = 2 * n
zigzag (negsuc n) = 2 * n + 1

-- groups of seven bits, each in a byte: the high bit is set on all but the last
abbrev pub are_groups : List ℕ → Bool
are_groups [] = false
are_groups (b ∷ []) = nat_lt b 128
are_groups (b ∷ c ∷ bytes) = nat_le 128 b && nat_lt b 256 && are_groups (c ∷ bytes)

-- what the groups stand for, the least first
abbrev pub groups_value : List ℕ → ℕ
groups_value [] = 0
groups_value (b ∷ bytes) = b % 128 + 128 * groups_value bytes

-- groups of n, and not too many
pub record AreGroups (most n : ℕ) (bytes : List ℕ) : Type 0 where
  pub groups : are_groups bytes ≡ true
  pub value : groups_value bytes ≡ n
  pub few : length bytes ≤ most

-- the bytes spell the number v as a long: its groups, at most 10, the last of which may be 0
abbrev pub SpellsLong : ℤ → List ℕ → Type 0
SpellsLong v bytes = AreGroups 10 (zigzag v) bytes

-- the bytes spell the number v as an int: its groups, at most 5, the last of which may be 0
abbrev pub SpellsInt : ℤ → List ℕ → Type 0
SpellsInt v bytes = AreGroups 5 (zigzag v) bytes

-- the groups of n, and no fewer groups have that value
pub record AreLeastGroups (n : ℕ) (bytes : List ℕ) : Type 0 where
  pub groups : are_groups bytes ≡ true
  pub value : groups_value bytes ≡ n
  pub shortest : (others : List ℕ) → are_groups others ≡ true → groups_value others ≡ n → length bytes ≤ length others

-- the shortest spelling of the number v, which is the one that is written
abbrev pub IsShortest : ℤ → List ℕ → Type 0
IsShortest v bytes = AreLeastGroups (zigzag v) bytes

-- the groups of n, where `more` is at least the number of groups after the first; n itself is always enough
abbrev pub groups_within : ℕ → ℕ → List ℕ
groups_within zero n = n ∷ []
groups_within (suc more) n = elim (nat_lt n 128) [
  | true ↦ n ∷ []
  | false ↦ (128 + n % 128) ∷ groups_within more (n / 128)
]

-- the shortest spelling of a number, computed
abbrev pub number_bytes : ℤ → List ℕ
number_bytes v = groups_within (zigzag v) (zigzag v)

-- the number fits in 32 bits
abbrev pub is_int : ℤ → Bool
is_int v = int_le (negsuc (2 ^ 31 - 1)) v && int_le v (pos (2 ^ 31 - 1))

-- the number fits in 64 bits
abbrev pub is_long : ℤ → Bool
is_long v = int_le (negsuc (2 ^ 63 - 1)) v && int_le v (pos (2 ^ 63 - 1))
