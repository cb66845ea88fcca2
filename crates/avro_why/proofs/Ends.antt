-- A text that ends at a line and a column, and one more byte.
use Rattle.std.proofs.Common.{◌≡◌, ◌≢◌, ◌+◌, ◌<◌, ℕ, List, [], ◌∷◌, ◌++◌, length, take, get_or, refl, sym, ap, ◌∙◌, subst, append_assoc, length-append, arith}
use Rattle.std.proofs.lemmas.List.{append-nil, take_more}
use Rattle.std.proofs.lemmas.List.Elements.{All-nil, All-push}
use Rattle.avro_why.specs.Position.{AreInLine, AreLines, EndsAt}

no-bytes : AreInLine []
no-bytes = All-nil (λ (b : ℕ). b ≢ 10)

pub ends-empty : EndsAt [] 1 1
ends-empty = record { lines = []; bytes = []; number = 0; parted = refl; whole = AreLines.none; in_line = no-bytes; line_is = refl; column_is = refl }

pub ends-feed : (text : List ℕ) (line column : ℕ) → EndsAt text line column → EndsAt (text ++ 10 ∷ []) (line + 1) 1
ends-feed text line column e = record {
  lines = e.lines ++ e.bytes ++ 10 ∷ [];
  bytes = [];
  number = e.number + 1;
  parted = ap (λ (bs : List ℕ). bs ++ 10 ∷ []) e.parted ∙ sym (append-nil (e.lines ++ e.bytes ++ 10 ∷ []));
  whole = AreLines.one_more e.lines e.bytes e.number e.whole e.in_line;
  in_line = no-bytes;
  line_is = ap (λ n. n + 1) e.line_is;
  column_is = refl;
}

pub ends-more : (text : List ℕ) (line column b : ℕ) → b ≢ 10 → EndsAt text line column → EndsAt (text ++ b ∷ []) line (column + 1)
ends-more text line column b other e = record {
  lines = e.lines;
  bytes = e.bytes ++ b ∷ [];
  number = e.number;
  parted = ap (λ (bs : List ℕ). bs ++ b ∷ []) e.parted ∙ append_assoc e.lines e.bytes (b ∷ []);
  whole = e.whole;
  in_line = All-push (λ (c : ℕ). c ≢ 10) e.bytes b e.in_line other;
  line_is = e.line_is;
  column_is = grind (arith, e.column_is, length-append e.bytes (b ∷ []));
}

-- the same of the bytes before an index
pub ends-at-feed : (text : List ℕ) (i line column : ℕ) → i < length text → get_or text i 0 ≡ 10 → EndsAt (take i text) line column → EndsAt (take (i + 1) text) (line + 1) 1
ends-at-feed text i line column here feed e =
    subst (λ (bs : List ℕ). EndsAt bs (line + 1) 1) (ap (λ (b : ℕ). take i text ++ b ∷ []) (sym feed) ∙ sym (take_more text i 0 here)) (ends-feed (take i text) line column e)

pub ends-at-more : (text : List ℕ) (i line column : ℕ) → i < length text → get_or text i 0 ≢ 10 → EndsAt (take i text) line column → EndsAt (take (i + 1) text) line (column + 1)
ends-at-more text i line column here other e =
    subst (λ (bs : List ℕ). EndsAt bs line (column + 1)) (sym (take_more text i 0 here)) (ends-more (take i text) line column (get_or text i 0) other e)
