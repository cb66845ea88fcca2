-- The symbols for which none is found are those that the reader lacks, where it has no default.
use Rattle.std.proofs.Common.{◌≡◌, ◌∙◌, ℕ, suc, ◌+◌, ◌<◌, Bool, true, false, not, cond, List, [], ◌∷◌, ◌++◌, Option, Some, None, drop, length, is_some, refl, sym, ap, subst, arith, String, bytes_eq, is_none, unwrap_or}
use Rattle.std.proofs.Math.Seq.{drop-length}
use Rattle.std.proofs.lemmas.Bool.{false≢true, true≢false}
use Rattle.std.proofs.lemmas.List.{append-nil}
use Rattle.std.proofs.lemmas.Iterator.Adapters.{position_from-zero}
use Rattle.std.specs.List.{list_any, position_from}
use Rattle.std.specs.declared.alloc.Global.{Global}
use Rattle.avro_name.specs.Name.{Name}
use Rattle.avro_schema.specs.Node.{Node, symbols_of}
use Rattle.avro_schema.specs.Seen.{texts_of}
use Rattle.avro_compare.specs.Children.{first_lacking, lacks}
use Rattle.avro_compare.specs.Pairs.{IsSymbol}
use Rattle.avro_compare.specs.Resolve.{enum_as, symbol_at}
use Rattle.avro_compare.proofs.public.Symbols.{lacks_is, symbols_there}
use Rattle.avro_explain.specs.Details.{lacking_one, lacking_from, lacking}
use Rattle.avro_explain.specs.inside.Walks.{untaken_one, untaken_from}
use Rattle.avro_explain.specs.declared.found.Detail.{Detail}
use Rattle.avro_explain.specs.declared.found.Detail.TheVariants.{NoSymbol}

one_same : (index : ℕ) (f : Option ℕ) (lacked : Bool) → is_none f ≡ lacked → cond lacked (NoSymbol index ∷ []) [] ≡ untaken_one index f
one_same index None true e = refl
one_same index None false e = absurd (true≢false e)
one_same index (Some k) true e = absurd (false≢true e)
one_same index (Some k) false e = refl

-- one symbol more
pub untaken_next : (w q : Node) (i : ℕ) (f : Option ℕ) (symbols : List (List ℕ)) → symbols ≡ unwrap_or (symbols_of w) [] → i < length symbols
    → IsSymbol (enum_as (symbol_at w i) q) f → untaken_from q i (drop i symbols) ≡ untaken_one i f ++ untaken_from q (i + 1) (drop (i + 1) symbols)
untaken_next w q i f symbols e low h =
    let more : suc i ≡ i + 1 = omega arith in
    ap (untaken_from q i) (ap (λ (ss : List (List ℕ)). drop i ss) e ∙ symbols_there w i (subst (λ (ss : List (List ℕ)). i < length ss) e low))
    ∙ ap (λ (ds : List Detail). ds ++ untaken_from q (suc i) (drop (i + 1) (unwrap_or (symbols_of w) []))) (one_same i f (lacks q (symbol_at w i)) (lacks_is q (symbol_at w i) f h))
    ∙ ap (λ (n : ℕ). untaken_one i f ++ untaken_from q n (drop (i + 1) (unwrap_or (symbols_of w) []))) more
    ∙ ap (λ (ss : List (List ℕ)). untaken_one i f ++ untaken_from q (i + 1) (drop (i + 1) ss)) (sym e)

pub texts_many : (symbols : List (String Global)) → length (texts_of symbols) ≡ length symbols
texts_many [] = refl
texts_many (s ∷ ss) = ap suc (texts_many ss)

pub untaken_end : (q : Node) (n : ℕ) (symbols : List (List ℕ)) (found : List Detail) → n ≡ length symbols → found ++ untaken_from q n (drop n symbols) ≡ found
untaken_end q n symbols found e =
    ap (λ (ss : List (List ℕ)). found ++ untaken_from q n ss) (ap (λ (m : ℕ). drop m symbols) e ∙ drop-length symbols) ∙ append-nil found

none_from : (q : Node) (n index : ℕ) (symbols : List (List ℕ)) → is_some (position_from (lacks q) n symbols) ≡ false → untaken_from q index symbols ≡ []
none_from q n index [] h = refl
none_from q n index (s ∷ ss) h = chosen (lacks q s) h (λ later. none_from q (n + 1) (suc index) ss later)
  where
    chosen : (t : Bool) → is_some (cond t (Some n) (position_from (lacks q) (n + 1) ss)) ≡ false
        → (is_some (position_from (lacks q) (n + 1) ss) ≡ false → untaken_from q (suc index) ss ≡ []) → cond t (NoSymbol index ∷ []) [] ++ untaken_from q (suc index) ss ≡ []
    chosen true h later = absurd (true≢false h)
    chosen false h later = later h

-- where none is the first that the reader lacks
pub none_untaken : (w q : Node) (first : Option ℕ) (symbols : List (List ℕ)) → symbols ≡ unwrap_or (symbols_of w) [] → first ≡ first_lacking w q → is_some first ≡ false
    → untaken_from q 0 symbols ≡ []
none_untaken w q first symbols e is h =
    none_from q 0 0 symbols (ap (λ (ss : List (List ℕ)). is_some (position_from (lacks q) 0 ss)) e
    ∙ sym (ap (λ (o : Option ℕ). is_some o) (is ∙ position_from-zero (lacks q) (unwrap_or (symbols_of w) []))) ∙ h)

module _ (b : Name) (ys : List Name) (theirs : List (List ℕ)) where
  alone : (index : ℕ) (symbols : List (List ℕ)) → untaken_from (Node.enum b ys theirs None) index symbols ≡ lacking_from index symbols theirs
  alone index [] = refl
  alone index (s ∷ ss) =
      ap (λ (ds : List Detail). ds ++ untaken_from (Node.enum b ys theirs None) (suc index) ss) (turned (list_any (bytes_eq s) theirs))
      ∙ ap (λ (ds : List Detail). lacking_one index s theirs ++ ds) (alone (suc index) ss)
    where
      turned : (t : Bool) → cond (not t) (NoSymbol index ∷ []) [] ≡ cond t [] (NoSymbol index ∷ [])
      turned true = refl
      turned false = refl

  always : (d index : ℕ) (symbols : List (List ℕ)) → untaken_from (Node.enum b ys theirs (Some d)) index symbols ≡ []
  always d index [] = refl
  always d index (s ∷ ss) = always d (suc index) ss

  pub untaken_lacking : (symbols : List (List ℕ)) (y : Option ℕ) → untaken_from (Node.enum b ys theirs y) 0 symbols ≡ lacking symbols theirs y
  untaken_lacking symbols None = alone 0 symbols
  untaken_lacking symbols (Some d) = always d 0 symbols
