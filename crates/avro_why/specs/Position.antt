-- Where a byte of a text is: its line, and its column in bytes, both counted from 1.
use Rattle.std.specs.Prelude.{◌≡◌, ◌≢◌, ◌+◌, ◌≤◌, ℕ, List, [], ◌∷◌, ◌++◌, length, take, All}

-- bytes of one line
abbrev pub AreInLine : List ℕ → Type 0
AreInLine bytes = All (λ (b : ℕ). b ≢ 10) bytes

-- whole lines, each with the line feed that ends it, and how many they are
pub data AreLines : List ℕ → ℕ → Type 0 where
  none : AreLines [] 0
  one_more : (lines bytes : List ℕ) (n : ℕ) → AreLines lines n → AreInLine bytes → AreLines (lines ++ bytes ++ 10 ∷ []) (n + 1)

-- A text ends at this line and column: before its end are whole lines, and bytes of one line.
pub record EndsAt (text : List ℕ) (line column : ℕ) : Type 0 where
  pub lines : List ℕ
  pub bytes : List ℕ
  pub number : ℕ
  pub parted : text ≡ lines ++ bytes
  pub whole : AreLines lines number
  pub in_line : AreInLine bytes
  pub line_is : line ≡ number + 1
  pub column_is : column ≡ length bytes + 1

-- the place at an offset of a text has this line and column: what stands before it ends there
pub record IsPosition (text : List ℕ) (offset line column : ℕ) : Type 0 where
  pub inside : offset ≤ length text
  pub ends : EndsAt (take offset text) line column
