-- What is wrong with bytes that begin with no encoding within limits, and where.
use Rattle.std.specs.Prelude.{ℕ, ◌+◌}

-- A fault of bytes. The place is the offset of the part that fails: of the number, the boolean or the content; of the
-- size of a block, and of the length of a key.
pub data ReadFault : Type 0 where
  -- the input ends in the part
  end_of_input : (place : ℕ) → ReadFault
  -- a number that is too large
  invalid_number : (place : ℕ) → ReadFault
  -- a boolean's byte over 1
  invalid_boolean : (place : ℕ) → ReadFault
  -- a string's or a key's content is not UTF-8
  invalid_text : (place : ℕ) → ReadFault
  -- there is no such branch or symbol
  unknown_index : (place : ℕ) → ReadFault
  -- a negative length or size of a block, or the count -2^63
  invalid_length : (place : ℕ) → ReadFault
  -- the size of a block is not that of its items
  wrong_block_size : (place : ℕ) → ReadFault
  -- a key occurs twice in one map; the place is that of the second key's length
  duplicate_key : (place : ℕ) → ReadFault
  -- a limit is passed
  limit_exceeded : ReadFault

-- the same fault when a number of other bytes come before
abbrev pub behind : ℕ → ReadFault → ReadFault
behind n (end_of_input place) = end_of_input (n + place)
behind n (invalid_number place) = invalid_number (n + place)
behind n (invalid_boolean place) = invalid_boolean (n + place)
behind n (invalid_text place) = invalid_text (n + place)
behind n (unknown_index place) = unknown_index (n + place)
behind n (invalid_length place) = invalid_length (n + place)
behind n (wrong_block_size place) = wrong_block_size (n + place)
behind n (duplicate_key place) = duplicate_key (n + place)
behind n limit_exceeded = limit_exceeded
