-- The symbols that a reader's enum lacks.
use Rattle.std.proofs.Common.{◌≡◌, ◌∙◌, ◌||◌, ◌&&◌, ◌+◌, ◌<◌, ℕ, Bool, true, false, not, List, [], ◌∷◌, Option, Some, None, Err, drop, length, is_some, cond, refl, sym, ap}
use Rattle.std.specs.Prelude.{bytes_eq, position, is_none, unwrap_or}
use Rattle.std.specs.List.{list_any, position_from}
use Rattle.std.proofs.lemmas.Slice.Eq.{bytes_eq-Decides}
use Rattle.std.proofs.lemmas.Iterator.Adapters.{position_from-zero}
use Rattle.std.proofs.lemmas.Option.{slice_get-get_or}
use Rattle.avro_schema.specs.Node.{Node, symbols_of}
use Rattle.avro_compare.specs.Children.{lacks, lacks_symbol}
use Rattle.avro_compare.specs.Fault.{fault_here, no_symbol}
use Rattle.avro_compare.specs.Pairs.{IsSymbol}
use Rattle.avro_compare.specs.Resolve.{enum_as, enum_or_default, symbol_at}
use Rattle.avro_compare.proofs.Named.{symbol_text}
use Rattle.avro_compare.proofs.public.Lists.{next_in}

-- equality of texts is symmetric
pub bytes_eq-sym : (a b : List ℕ) → bytes_eq a b ≡ bytes_eq b a
bytes_eq-sym a b = same (bytes_eq a b) (bytes_eq b a)
    (λ h. (bytes_eq-Decides b a).1 (sym ((bytes_eq-Decides a b).0 h))) (λ h. (bytes_eq-Decides a b).1 (sym ((bytes_eq-Decides b a).0 h)))
  where
    same : (x y : Bool) → (x ≡ true → y ≡ true) → (y ≡ true → x ≡ true) → x ≡ y
    same true true f g = refl
    same false false f g = refl
    same true false f g = sym (f refl)
    same false true f g = g refl

some_from : (s : List ℕ) (n : ℕ) (ts : List (List ℕ)) → is_some (position_from (λ t. bytes_eq t s) n ts) ≡ list_any (bytes_eq s) ts
some_from s n [] = refl
some_from s n (t ∷ ts) =
    here (bytes_eq t s) (position_from (λ u. bytes_eq u s) (n + 1) ts) (some_from s (n + 1) ts) ∙ ap (λ (b : Bool). b || list_any (bytes_eq s) ts) (bytes_eq-sym t s)
  where
    here : (b : Bool) (o : Option ℕ) → is_some o ≡ list_any (bytes_eq s) ts → is_some (cond b (Some n) o) ≡ (b || list_any (bytes_eq s) ts)
    here true o e = refl
    here false o e = e

pub some_position : (s : List ℕ) (ts : List (List ℕ)) → is_some (position (λ t. bytes_eq t s) ts) ≡ list_any (bytes_eq s) ts
some_position s ts = ap (λ (o : Option ℕ). is_some o) (position_from-zero (λ t. bytes_eq t s) ts) ∙ some_from s 0 ts

-- a symbol has none of the reader's exactly where it is none of them, and there is no default
pub lacks_here : (y f : Option ℕ) (s : List ℕ) (theirs : List (List ℕ)) → IsSymbol (enum_or_default (position (λ t. bytes_eq t s) theirs) y) f
    → is_none f ≡ (is_none y && not (list_any (bytes_eq s) theirs))
lacks_here y f s theirs h = chosen (position (λ t. bytes_eq t s) theirs) y f (some_position s theirs) h
  where
    chosen : (o y f : Option ℕ) → is_some o ≡ list_any (bytes_eq s) theirs → IsSymbol (enum_or_default o y) f → is_none f ≡ (is_none y && not (list_any (bytes_eq s) theirs))
    chosen (Some k) None (Some j) e h = ap not e
    chosen (Some k) (Some d) (Some j) e h = refl
    chosen (Some k) y None e h = absurd cc
    chosen None None (Some j) e h = absurd cc
    chosen None None None e h = ap not e
    chosen None (Some d) (Some j) e h = refl
    chosen None (Some d) None e h = absurd cc

-- there is no symbol where the reader's node has neither it nor a default
pub lacks_is : (q : Node) (symbol : List ℕ) (found : Option ℕ) → IsSymbol (enum_as symbol q) found → is_none found ≡ lacks q symbol
lacks_is (Node.enum b ys theirs y) symbol found h = lacks_here y found symbol theirs h
lacks_is _ symbol found h = others found h
  where
    others : (found : Option ℕ) → IsSymbol (Err (fault_here no_symbol)) found → is_none found ≡ true
    others None h = refl
    others (Some k) h = absurd cc

-- the symbols from an index on
pub symbols_there : (w : Node) (i : ℕ) → i < length (unwrap_or (symbols_of w) []) → drop i (unwrap_or (symbols_of w) []) ≡ symbol_at w i ∷ drop (i + 1) (unwrap_or (symbols_of w) [])
symbols_there w i low =
    next_in (unwrap_or (symbols_of w) []) i [] low
    ∙ ap (λ (s : List ℕ). s ∷ drop (i + 1) (unwrap_or (symbols_of w) []))
    (sym (ap (λ (o : Option (List ℕ)). unwrap_or o []) (slice_get-get_or (unwrap_or (symbols_of w) []) i [] low)) ∙ sym (symbol_text w i (unwrap_or (symbols_of w) []) refl))

-- there is a first one exactly where some pass
some_first : (test : List ℕ → Bool) (n : ℕ) (xs : List (List ℕ)) → is_some (position_from test n xs) ≡ list_any test xs
some_first test n [] = refl
some_first test n (x ∷ xs) = here (test x) (position_from test (n + 1) xs) ∙ ap (λ (b : Bool). test x || b) (some_first test (n + 1) xs)
  where
    here : (b : Bool) (o : Option ℕ) → is_some (cond b (Some n) o) ≡ (b || is_some o)
    here true o = refl
    here false o = refl

none_of_default : (d : ℕ) (symbols theirs : List (List ℕ)) → list_any (λ s. is_none (Some d) && not (list_any (bytes_eq s) theirs)) symbols ≡ false
none_of_default d [] theirs = refl
none_of_default d (s ∷ ss) theirs = none_of_default d ss theirs

-- there is a first one that the reader lacks exactly where it lacks a symbol
pub lacking_some : (symbols theirs : List (List ℕ)) (y lacking : Option ℕ) → lacking ≡ position (λ s. is_none y && not (list_any (bytes_eq s) theirs)) symbols
    → is_some lacking ≡ lacks_symbol symbols theirs y
lacking_some symbols theirs y lacking e =
    ap (λ (o : Option ℕ). is_some o) (e ∙ position_from-zero (λ s. is_none y && not (list_any (bytes_eq s) theirs)) symbols)
    ∙ some_first (λ s. is_none y && not (list_any (bytes_eq s) theirs)) 0 symbols ∙ by_default y
  where
    by_default : (y : Option ℕ) → list_any (λ s. is_none y && not (list_any (bytes_eq s) theirs)) symbols ≡ lacks_symbol symbols theirs y
    by_default None = refl
    by_default (Some d) = none_of_default d symbols theirs
