-- The places of numbers in lists, as those of one more list are put in.
use Rattle.std.proofs.Common.{◌≡◌, ◌∙◌, ℕ, ◌+◌, ◌<◌, ◌≤◌, ◌==◌, ◌&&◌, Bool, true, false, cond, List, ◌∷◌, length, Option, Some, None, drop, refl, sym, ap, subst, arith, ⊎_elim}
use Rattle.std.specs.Prelude.{slice_get, slice_index_or}
use Rattle.std.specs.Global.{Vec}
use Rattle.std.specs.List.{position_from}
use Rattle.std.proofs.Math.Seq.{drop-length}
use Rattle.std.proofs.lemmas.Bool.{cases_eq, eq-eqb, eqb-true, false_from_ne_true}
use Rattle.std.proofs.lemmas.Iterator.Adapters.{position_from-zero}
use Rattle.indexmap.specs.IndexMap.{get}
use Rattle.avro_compare.specs.Source.{or_else}
use Rattle.avro_compare.specs.inside.PartNumbers.{FindsAll, FindsIn, Lists, Places, first_of, same_place}
use Rattle.avro_compare.specs.declared.place.Place.{Place}
use Rattle.avro_compare.proofs.NumberedNames.{got_low}
use Rattle.avro_compare.proofs.public.Lists.{next_in}
use Rattle.avro_compare.proofs.public.Planning.{same_some}

abbrev pub at : ℕ → ℕ → Place
at list number = record { list = list; number = number }

-- ---- The numbers of one list, from an index on

-- what is found once those from an index on are put in
abbrev pub found_from : ℕ → List ℕ → ℕ → Place → Option ℕ → Option ℕ
found_from id list n key before = or_else (cond (id == key.list) (position_from (λ k. k == key.number) n (drop n list)) None) before

pub found_none : (id : ℕ) (list : List ℕ) (n : ℕ) (key : Place) (before : Option ℕ) → n ≡ length list → before ≡ found_from id list n key before
found_none id list n key before e =
    none (id == key.list) ∙ sym (ap (λ (xs : List ℕ). or_else (cond (id == key.list) (position_from (λ k. k == key.number) n xs) None) before) (ap (λ (m : ℕ). drop m list) e ∙ drop-length list))
  where
    none : (b : Bool) → before ≡ or_else (cond b None None) before
    none true = refl
    none false = refl

pub found_next : (id : ℕ) (list : List ℕ) (n x : ℕ) (key : Place) (start before after : Option ℕ) → n < length list → x ≡ slice_index_or list n 0 → before ≡ found_from id list (n + 1) key start
    → after ≡ cond (same_place (at id x) key) (Some n) before → after ≡ found_from id list n key start
found_next id list n x key start before after low is known put =
    put ∙ ap (λ (o : Option ℕ). cond (same_place (at id x) key) (Some n) o) known ∙ step (id == key.list) (x == key.number) (position_from (λ k. k == key.number) (n + 1) (drop (n + 1) list))
    ∙ sym (ap (λ (xs : List ℕ). or_else (cond (id == key.list) (position_from (λ k. k == key.number) n xs) None) start) (next_in list n 0 low ∙ ap (λ (y : ℕ). y ∷ drop (n + 1) list) (sym is)))
  where
    step : (b c : Bool) (rest : Option ℕ) → cond (b && c) (Some n) (or_else (cond b rest None) start) ≡ or_else (cond b (cond c (Some n) rest) None) start
    step true true rest = refl
    step true false rest = refl
    step false c rest = refl

pub found_all : (id : ℕ) (list : List ℕ) (n : ℕ) (key : Place) (start after : Option ℕ) → n ≡ 0 → after ≡ found_from id list n key start → after ≡ or_else (cond (id == key.list) (first_of list key.number) None) start
found_all id list n key start after e h =
    h ∙ ap (λ (m : ℕ). found_from id list m key start) e
    ∙ ap (λ (o : Option ℕ). or_else (cond (id == key.list) o None) start) (sym (position_from-zero (λ k. k == key.number) list))

-- ---- The lists before an index

-- the lists before an index are found, and no other
pub record AreFound (places : Places) (lists : Lists) (count : ℕ) : Type 0 where
  pub before : (id : ℕ) (list : Vec ℕ) → id < count → slice_get lists id ≡ Some list → FindsIn places id list.items
  pub after : (id n : ℕ) → count ≤ id → get same_place places (at id n) ≡ None

pub found_start : (places : Places) (lists : Lists) → ((key : Place) → get same_place places key ≡ None) → AreFound places lists 0
found_start places lists none = record { before = λ id list low is. absurd (omega (arith, low)); after = λ id n high. none (at id n) }

module _ (old new : Places) (lists : Lists) (count : ℕ) (list : Vec ℕ) (there : slice_get lists count ≡ Some list)
    (put : (key : Place) → get same_place new key ≡ or_else (cond (count == key.list) (first_of list.items key.number) None) (get same_place old key)) where
  others : (id n : ℕ) → (count ≡ id → ⊥) → get same_place new (at id n) ≡ get same_place old (at id n)
  others id n ne =
      put (at id n) ∙ ap (λ (b : Bool). or_else (cond b (first_of list.items n) None) (get same_place old (at id n))) (false_from_ne_true (count == id) (λ t. ne (eqb-true count id t)))

  own : (n : ℕ) → get same_place old (at count n) ≡ None → get same_place new (at count n) ≡ first_of list.items n
  own n none =
      put (at count n) ∙ ap (λ (b : Bool). or_else (cond b (first_of list.items n) None) (get same_place old (at count n))) (eq-eqb count count refl)
      ∙ ap (λ (o : Option ℕ). or_else (first_of list.items n) o) none ∙ alone (first_of list.items n)
    where
      alone : (o : Option ℕ) → or_else o None ≡ o
      alone None = refl
      alone (Some k) = refl

  pub found_more : AreFound old lists count → AreFound new lists (count + 1)
  found_more h = record { before = before; after = λ id n high. others id n (λ e. omega (arith, e, high)) ∙ h.after id n (omega (arith, high)) }
    where
      before : (id : ℕ) (one : Vec ℕ) → id < count + 1 → slice_get lists id ≡ Some one → FindsIn new id one.items
      before id one low is =
          ⊎_elim
          (λ e. subst (λ (i : ℕ). FindsIn new i one.items) e
          (λ n. own n (h.after count n (omega arith)) ∙ ap (λ (v : Vec ℕ). first_of v.items n) (same_some there (ap (slice_get lists) e ∙ is))))
          (λ ne. λ n. others id n ne ∙ h.before id one (omega (arith, low, ne)) is n)
          (cases_eq count id)

pub found_end : (places : Places) (lists : Lists) (count : ℕ) → length lists ≤ count → AreFound places lists count → FindsAll places lists
found_end places lists count all h = λ id list is. let low = got_low lists list id is in h.before id list (omega (arith, low, all)) is
