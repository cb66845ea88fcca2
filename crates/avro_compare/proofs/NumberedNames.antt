-- Names by number: lists of numbers as they grow, and a number's place in one as that of its name.
use Rattle.std.proofs.Common.{◌≡◌, ◌∙◌, ℕ, zero, suc, ◌+◌, ◌<◌, ◌==◌, Bool, true, false, cond, List, [], ◌∷◌, ◌++◌, length, Option, Some, None, refl, sym, ap, subst, arith}
use Rattle.std.specs.Prelude.{String, string_bytes, option_map, slice_get, slice_index_or, bytes_eq, position, unwrap_or}
use Rattle.std.specs.Global.{Vec}
use Rattle.std.specs.List.{IsDistinct, position_from}
use Rattle.std.specs.declared.alloc.Global.{Global}
use Rattle.std.proofs.lemmas.Bool.{eq-eqb, eqb-true}
use Rattle.std.proofs.lemmas.Iterator.Adapters.{position_from-zero}
use Rattle.std.proofs.lemmas.Slice.Eq.{bytes_eq-Decides}
use Rattle.avro_texts.specs.Texts.{AreDistinct, KeepsNumbers}
use Rattle.avro_texts.proofs.public.Numbers.{one_number}
use Rattle.avro_schema.specs.Node.{Node, FieldNode, node_at}
use Rattle.avro_schema.specs.Seen.{texts_of}
use Rattle.avro_compare.specs.Resolve.{fields_at, symbol_at}
use Rattle.avro_compare.specs.Source.{field_index, first_index, or_else}
use Rattle.avro_compare.specs.inside.NameTables.{symbols_at}
use Rattle.avro_compare.specs.inside.PartNumbers.{aliases_at, AreAliases, AreLists, AreNumbersOf, AreParts, Grows, HasList, HasOwn, IsItemAt, KeepsLists, Lists, first_number, first_of, names_of}
use Rattle.avro_compare.specs.declared.part_numbers.NodeParts.{NodeParts}
use Rattle.avro_compare.proofs.Named.{symbol_text}
use Rattle.avro_compare.proofs.public.Planning.{Holds, holds_push, same_some}

-- ---- Texts and lists that are added

pub grows_none : (texts : List (List ℕ)) → Grows texts texts
grows_none texts = record { kept = λ i t is. is; distinct = λ d. d }

pub grows_more : (a b c : List (List ℕ)) → Grows a b → Grows b c → Grows a c
grows_more a b c g h = record { kept = λ i t is. h.kept i t (g.kept i t is); distinct = λ d. h.distinct (g.distinct d) }

pub lists_none : (lists : Lists) → KeepsLists lists lists
lists_none lists = λ i list is. is

pub lists_more : (a b c : Lists) → KeepsLists a b → KeepsLists b c → KeepsLists a c
lists_more a b c g h = λ i list is. h i list (g i list is)

pub got_more : {A : Type 0} (xs : List A) (x y : A) (k : ℕ) → slice_get xs k ≡ Some y → slice_get (xs ++ x ∷ []) k ≡ Some y
got_more [] x y k e = absurd (cc)
got_more (z ∷ xs) x y zero e = e
got_more (z ∷ xs) x y (suc k) e = got_more xs x y k e

pub got_low : {A : Type 0} (xs : List A) (y : A) (k : ℕ) → slice_get xs k ≡ Some y → k < length xs
got_low [] y k e = absurd (cc)
got_low (z ∷ xs) y zero e = omega arith
got_low (z ∷ xs) y (suc k) e = let low = got_low xs y k e in omega (arith, low)

pub lists_put : (lists new : Lists) (list : Vec ℕ) → new ≡ lists ++ list ∷ [] → KeepsLists lists new
lists_put lists new list e = λ i one is. ap (λ (ls : Lists). slice_get ls i) e ∙ got_more lists list one i is

module _ (T U : List (List ℕ)) (g : Grows T U) where
  pub numbers_kept : (names : List (List ℕ)) (ks : List ℕ) → AreNumbersOf T names ks → AreNumbersOf U names ks
  numbers_kept names ks h = (λ k n got t is. g.kept n t (h.0 k n got t is), h.1)

  module _ (L M : Lists) (f : KeepsLists L M) where
    pub list_kept : (id : ℕ) (names : List (List ℕ)) → HasList T L id names → HasList U M id names
    list_kept id names h = record { list = h.list; there = f id h.list h.there; are = numbers_kept names h.list.items h.are }

    pub own_kept : (id : Option ℕ) (names : List (List ℕ)) → HasOwn T L id names → HasOwn U M id names
    own_kept None names h = h
    own_kept (Some id) names h = list_kept id names h

    pub lists_kept : (names : ℕ → List (List ℕ)) (ids : List (Option ℕ)) → AreLists T L names ids → AreLists U M names ids
    lists_kept names ids h = λ k id got. own_kept id (names k) (h k id got)

    pub aliases_kept : (nodes : List Node) (all : List (Vec (Option ℕ))) → AreAliases T L nodes all → AreAliases U M nodes all
    aliases_kept nodes all h = λ k ids got j id is. own_kept id (aliases_at (fields_at (node_at nodes k)) j) (h k ids got j id is)

  pub parts_kept : (L M : Lists) → KeepsLists L M → (N O : Lists) → KeepsLists N O → (nodes : List Node) (all : List NodeParts) → AreParts T L N nodes all → AreParts U M O nodes all
  parts_kept L M f N O s nodes all h = λ k parts got.
      let has = h k parts got in
      let n = node_at nodes k in
      (own_kept L M f parts.fields (names_of (fields_at n)) has.0, own_kept N O s parts.symbols (symbols_at n) has.1)

-- ---- The numbers of some names, as one is added

-- the numbers of the names before an index
abbrev pub AreBefore : List (List ℕ) → List (List ℕ) → ℕ → List ℕ → Type 0
AreBefore texts names i numbers = Holds (λ k n. (t : List ℕ) → slice_get names k ≡ Some t → slice_get texts n ≡ Some t) numbers × (length numbers ≡ i)

pub number_more : (names T U : List (List ℕ)) (ks new : List ℕ) (i n : ℕ) (t : List ℕ) → slice_get names i ≡ Some t → slice_get U n ≡ Some t → KeepsNumbers T U → new ≡ ks ++ n ∷ []
    → AreBefore T names i ks → AreBefore U names (i + 1) new
number_more names T U ks new i n t at is kept put h =
    holds_push (λ k m. (u : List ℕ) → slice_get names k ≡ Some u → slice_get U m ≡ Some u) ks new n i put ((λ k m got u e. kept m u (h.0 k m got u e)), h.1)
    (λ u e. is ∙ sym at ∙ e)

pub text_there : (ss : List (String Global)) (i : ℕ) (s : String Global) → i < length ss → s ≡ slice_index_or ss i s → slice_get (texts_of ss) i ≡ Some (string_bytes s)
text_there [] i s low is = absurd (omega (arith, low))
text_there (r ∷ ss) zero s low is = ap (λ (q : String Global). Some (string_bytes q)) (sym is)
text_there (r ∷ ss) (suc i) s low is = text_there ss i s (omega (arith, low)) is

pub name_there : (fields : List FieldNode) (i : ℕ) (f : FieldNode) → slice_get fields i ≡ Some f → slice_get (names_of fields) i ≡ Some f.name
name_there [] i f e = absurd (cc)
name_there (g ∷ fs) zero f e = let same : g ≡ f = cc in ap (λ (h : FieldNode). Some h.name) same
name_there (g ∷ fs) (suc i) f e = name_there fs i f e

pub names_count : (fields : List FieldNode) → length (names_of fields) ≡ length fields
names_count [] = refl
names_count (f ∷ fs) = ap suc (names_count fs)

pub none_where : (names : List (List ℕ)) (n : ℕ) → length names ≡ n → n ≡ 0 → names ≡ []
none_where [] n e z = refl
none_where (t ∷ ts) n e z = absurd (omega (arith, e, z))

-- ---- A number's place is that of its name

same : (x y : Bool) → (x ≡ true → y ≡ true) → (y ≡ true → x ≡ true) → x ≡ y
same true true f g = refl
same false false f g = refl
same true false f g = sym (f refl)
same false true f g = g refl

rest_of : (T : List (List ℕ)) (t : List ℕ) (ts : List (List ℕ)) (k : ℕ) (ks : List ℕ) → AreNumbersOf T (t ∷ ts) (k ∷ ks) → AreNumbersOf T ts ks
rest_of T t ts k ks h = ((λ j n got u is. h.0 (suc j) n got u is), omega (arith, h.1))

module _ (T : List (List ℕ)) (distinct : AreDistinct T) where
  place_from : (n : ℕ) (t : List ℕ) → slice_get T n ≡ Some t → (at : ℕ) (names : List (List ℕ)) (ks : List ℕ) → AreNumbersOf T names ks
      → position_from (λ k. k == n) at ks ≡ position_from (λ s. bytes_eq s t) at names
  place_from n t is at [] [] h = refl
  place_from n t is at [] (k ∷ ks) h = absurd (omega (arith, h.1))
  place_from n t is at (u ∷ us) [] h = absurd (omega (arith, h.1))
  place_from n t is at (u ∷ us) (k ∷ ks) h =
      let here : slice_get T k ≡ Some u = h.0 0 k refl u refl in
      let one : (k == n) ≡ bytes_eq u t = same (k == n) (bytes_eq u t)
      (λ e. (bytes_eq-Decides u t).1 (same_some here (ap (slice_get T) (eqb-true k n e) ∙ is)))
      (λ e. eq-eqb k n (one_number T t k n distinct (here ∙ ap (λ (v : List ℕ). Some v) ((bytes_eq-Decides u t).0 e)) is)) in
      ap (λ b. cond b (Some at) (position_from (λ j. j == n) (at + 1) ks)) one
      ∙ ap (λ o. cond (bytes_eq u t) (Some at) o) (place_from n t is (at + 1) us ks (rest_of T u us k ks h))

  pub place_is : (n : ℕ) (t : List ℕ) (names : List (List ℕ)) (ks : List ℕ) → slice_get T n ≡ Some t → AreNumbersOf T names ks → first_of ks n ≡ position (λ s. bytes_eq s t) names
  place_is n t names ks is h =
      position_from-zero (λ k. k == n) ks ∙ place_from n t is 0 names ks h ∙ sym (position_from-zero (λ s. bytes_eq s t) names)

  name_from : (t : List ℕ) (at : ℕ) (fields : List FieldNode) → position_from (λ s. bytes_eq s t) at (names_of fields) ≡ position_from (λ f. bytes_eq f.name t) at fields
  name_from t at [] = refl
  name_from t at (f ∷ fs) = ap (λ o. cond (bytes_eq f.name t) (Some at) o) (name_from t (at + 1) fs)

  -- the index of the field of a name
  pub field_place : (n : ℕ) (t : List ℕ) (fields : List FieldNode) (ks : List ℕ) → slice_get T n ≡ Some t → AreNumbersOf T (names_of fields) ks → first_of ks n ≡ field_index fields t
  field_place n t fields ks is h =
      position_from-zero (λ k. k == n) ks ∙ place_from n t is 0 (names_of fields) ks h ∙ name_from t 0 fields ∙ sym (position_from-zero (λ f. bytes_eq f.name t) fields)

  -- the index of the first of some names that is a field's
  pub first_place : (fields : List FieldNode) (ks : List ℕ) → AreNumbersOf T (names_of fields) ks → (names : List (List ℕ)) (ms : List ℕ) → AreNumbersOf T names ms
      → first_number ks ms ≡ first_index fields names
  first_place fields ks h [] [] g = refl
  first_place fields ks h [] (m ∷ ms) g = absurd (omega (arith, g.1))
  first_place fields ks h (t ∷ ts) [] g = absurd (omega (arith, g.1))
  first_place fields ks h (t ∷ ts) (m ∷ ms) g =
      ap (λ o. or_else o (first_number ks ms)) (field_place m t fields ks (g.0 0 m refl t refl) h)
      ∙ ap (λ o. or_else (field_index fields t) o) (first_place fields ks h ts ms (rest_of T t ts m ms g))

pub none_distinct : AreDistinct []
unfolding IsDistinct
none_distinct = tt

-- ---- Numbers that are found

pub number_of_list : (T : List (List ℕ)) (L : Lists) (id index n : ℕ) (names : List (List ℕ)) → HasList T L id names → IsItemAt L id index n → (t : List ℕ) → slice_get names index ≡ Some t
    → slice_get T n ≡ Some t
number_of_list T L id index n names has at t is =
    has.are.0 index n (subst (λ (v : Vec ℕ). slice_get v.items index ≡ Some n) (same_some at.there has.there) at.is) t is

got_there : (xs : List (List ℕ)) (k : ℕ) → k < length xs → slice_get xs k ≡ Some (unwrap_or (slice_get xs k) [])
got_there [] k low = absurd (omega (arith, low))
got_there (x ∷ xs) zero low = refl
got_there (x ∷ xs) (suc k) low = got_there xs k (omega (arith, low))

pub number_of_symbol : (T : List (List ℕ)) (L : Lists) (id index n : ℕ) (w : Node) → HasList T L id (symbols_at w) → IsItemAt L id index n → slice_get T n ≡ Some (symbol_at w index)
number_of_symbol T L id index n w has at =
    let low = got_low has.list.items n index (subst (λ (v : Vec ℕ). slice_get v.items index ≡ Some n) (same_some at.there has.there) at.is) in
    number_of_list T L id index n (symbols_at w) has at (symbol_at w index)
    (got_there (symbols_at w) index (omega (arith, low, has.are.1)) ∙ ap (λ (t : List ℕ). Some t) (sym (symbol_text w index (symbols_at w) refl)))

pub aliases_of_field : (T : List (List ℕ)) (L : Lists) (nodes : List Node) (all : List (Vec (Option ℕ))) (r index : ℕ) (id : Option ℕ) (f : FieldNode) → AreAliases T L nodes all → IsItemAt all r index id
    → slice_get (fields_at (node_at nodes r)) index ≡ Some f → HasOwn T L id f.aliases
aliases_of_field T L nodes all r index id f are at is =
    subst (λ (names : List (List ℕ)). HasOwn T L id names) (ap (λ (o : Option FieldNode). unwrap_or (option_map (λ (g : FieldNode). g.aliases) o) []) is) (are r at.list at.there index id at.is)
