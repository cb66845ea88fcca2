-- How the indices of symbols are looked up.
use Rattle.std.specs.Prelude.{◌≡◌, ℕ, List, String}
use Rattle.std.specs.declared.alloc.Global.{Global}
use Rattle.indexmap.specs.IndexMap.{IndexMap, get_by_text}
use Rattle.avro_texts.specs.declared.seeded.Seeded.{Seeded}
use Rattle.avro_schema_json.specs.DeclaredAttributes.{symbol_index}

-- a map finds the first index of each symbol, and no other word
abbrev pub FindsSymbols : List (List ℕ) → IndexMap (String Global) ℕ Seeded → Type 0
FindsSymbols symbols indices = (word : List ℕ) → get_by_text indices word ≡ symbol_index word symbols
