-- The symbols of an enum, one after another.
use Rattle.avro_schema_json.proofs.Words.{◌≡◌, ℕ, suc, ◌+◌, ◌<◌, ◌≤◌, Bool, true, false, List, [], ◌∷◌, length, get_or, Some, refl, sym, ap, ◌∙◌, arith, false≢true, length-map, bytes_eq-Decides, texts_of, symbol_index}
use Rattle.std.specs.Prelude.{String, slice_get, is_some, bytes_eq, option_map, string_bytes}
use Rattle.std.specs.declared.alloc.Global.{Global}
use Rattle.avro_schema_json.proofs.CoversSeen.{mapped}
use Rattle.avro_schema_json.proofs.EachSeen.{mapped-at, Before, before-next, before-all}

-- a symbol is one of the symbols
symbol-at : (word : List ℕ) (symbols : List (List ℕ)) → is_some (symbol_index word symbols) ≡ true → (k : ℕ) × (slice_get symbols k ≡ Some word)
symbol-at word [] h = absurd (false≢true h)
symbol-at word (symbol ∷ symbols) h = by (bytes_eq word symbol) refl (λ later. symbol-at word symbols later)
  where
    by : (b : Bool) → bytes_eq word symbol ≡ b → (is_some (symbol_index word symbols) ≡ true → (k : ℕ) × (slice_get symbols k ≡ Some word))
        → (k : ℕ) × (slice_get (symbol ∷ symbols) k ≡ Some word)
    by true e others = (0, ap Some (sym ((bytes_eq-Decides word symbol).0 e)))
    by false e others =
        let later : is_some (option_map suc (symbol_index word symbols)) ≡ true = rw e at h in
        let found = others (sym (mapped suc (symbol_index word symbols)) ∙ later) in
        (suc found.0, found.1)

-- what is so of each word before one
abbrev pub BeforeWord : List (String Global) → (List ℕ → Type 0) → ℕ → Type 0
BeforeWord words P i = Before (texts_of words) (λ k word. P word) i

pub next-word : (words : List (String Global)) (i : ℕ) (word : String Global) (P Q : List ℕ → Type 0) → i < length words → word ≡ get_or words i word
    → ((t : List ℕ) → P t → Q t) → Q (string_bytes word) → BeforeWord words P i → BeforeWord words Q (i + 1)
next-word words i word P Q below at kept =
    before-next (texts_of words) i (string_bytes word) (λ k t. P t) (λ k t. Q t) (mapped-at (λ (t : String Global). string_bytes t) words i word below at) (λ k t. kept t)

pub all-words : (words : List (String Global)) (i : ℕ) (P : List ℕ → Type 0) → length words ≤ i → BeforeWord words P i
    → (word : List ℕ) → is_some (symbol_index word (texts_of words)) ≡ true → P word
all-words words i P past each word h =
    let count : length (texts_of words) ≡ length words = simp length-map in
    let found = symbol-at word (texts_of words) h in
    before-all (texts_of words) i (λ k t. P t) (omega (arith, past, count)) each found.0 word found.1
