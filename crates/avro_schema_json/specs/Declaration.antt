-- The tree of a JSON text.
use Rattle.std.specs.Prelude.{◌≡◌, ℕ, List, Some, IsUtf8}
use Rattle.serde_json.specs.Data.{Data}
use Rattle.serde_json.specs.Read.{read}

-- the greatest length of a text
abbrev pub max_text : ℕ
max_text = 1048576

-- the text is JSON in UTF-8, nests 127 levels at most, and this is its tree
abbrev pub HasTree : List ℕ → Data → Type 0
HasTree text tree = IsUtf8 text × (read text ≡ Some tree)

-- a text without a tree
abbrev pub IsNoJson : List ℕ → Type 0
IsNoJson text = (tree : Data) → ¬ (HasTree text tree)
