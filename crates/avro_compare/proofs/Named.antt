-- Symbols of enums by their indices.
use Rattle.std.proofs.Common.{◌≡◌, ℕ, suc, ◌<◌, ◌^◌, List, [], ◌∷◌, length, Option, Some, None, refl, ap, sym, ◌∙◌, arith}
use Rattle.std.specs.Prelude.{String, slice_get, unwrap_or, option_and_then, bytes_eq, position, IfSome}
use Rattle.std.specs.declared.alloc.Global.{Global}
use Rattle.std.proofs.lemmas.List.Quantifiers.{position-Some}
use Rattle.avro_schema.specs.Node.{Node, symbols_of}
use Rattle.avro_schema.specs.Seen.{texts_of}
use Rattle.avro_schema.proofs.public.Choices.{HasFewChoices}
use Rattle.avro_compare.specs.Resolve.{symbol_at}
use Rattle.avro_compare.specs.inside.NameTables.{symbols_at}

pub texts_count : (symbols : List (String Global)) → length (texts_of symbols) ≡ length symbols
texts_count [] = refl
texts_count (s ∷ ss) = ap suc (texts_count ss)

pub symbol_text : (w : Node) (k : ℕ) (writes : List (List ℕ)) → writes ≡ unwrap_or (symbols_of w) [] → symbol_at w k ≡ unwrap_or (slice_get writes k) []
symbol_text w k writes e = by (symbols_of w) ∙ ap (λ (ts : List (List ℕ)). unwrap_or (slice_get ts k) []) (sym e)
  where
    by : (o : Option (List (List ℕ))) → unwrap_or (option_and_then (λ symbols. slice_get symbols k) o) [] ≡ unwrap_or (slice_get (unwrap_or o []) k) []
    by None = refl
    by (Some symbols) = refl

-- an index among them is an int
pub few_choices : (n : Node) (word : List ℕ) (o : Option ℕ) → HasFewChoices n → o ≡ position (λ s. bytes_eq s word) (symbols_at n) → IfSome o (λ k. k < 2 ^ 32)
few_choices n word None few e = tt
few_choices (Node.enum name aliases symbols default) word (Some k) few e = let low = (position-Some (λ s. bytes_eq s word) symbols k [] (sym e)).0 in omega (arith, low, few)
few_choices _ word (Some k) few e = absurd (cc)
