-- The indices of symbols, as they are gathered from the last.
use Rattle.avro_schema_json.proofs.Words.{◌≡◌, ℕ, suc, ◌+◌, ◌<◌, cond, List, ◌∷◌, length, Option, Some, option_map, get_or, drop, drop-cons, ap, sym, ◌∙◌, arith, String, string_bytes, bytes_eq, Global, texts_of, symbol_index, bytes_eq-sym}

-- the first index of a word among the symbols from an index on
abbrev pub index_from : List ℕ → List (String Global) → ℕ → Option ℕ
index_from word symbols n = option_map (λ k. k + n) (symbol_index word (texts_of (drop n symbols)))

one_later : (o : Option ℕ) (n : ℕ) → option_map (λ k. k + n) (option_map suc o) ≡ option_map (λ k. k + suc n) o
one_later o n = grind arith

pub next_here : (symbols : List (String Global)) (n : ℕ) (symbol : String Global) → n < length symbols → symbol ≡ get_or symbols n symbol
    → drop n symbols ≡ symbol ∷ drop (suc n) symbols
next_here symbols n symbol within is = drop-cons symbols n symbol within ∙ ap (λ s. s ∷ drop (suc n) symbols) (sym is)

pub index_next : (symbols : List (String Global)) (n : ℕ) (symbol key : String Global) (index : ℕ) (word : List ℕ) (before after : Option ℕ)
    → n < length symbols → symbol ≡ get_or symbols n symbol → string_bytes key ≡ string_bytes symbol → index ≡ n → before ≡ index_from word symbols (suc n)
    → after ≡ cond (bytes_eq (string_bytes key) word) (Some index) before → after ≡ index_from word symbols n
index_next symbols n symbol key index word before after within at copied indexed known put = grind (arith, bytes_eq-sym, next_here, one_later)
