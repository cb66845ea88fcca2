-- The index in a list of the first of some numbers that it has, as the list is gone through from its last.
use Rattle.std.proofs.Common.{◌≡◌, ◌∙◌, ℕ, ◌+◌, ◌<◌, ◌≤◌, ◌==◌, Bool, true, false, cond, List, [], ◌∷◌, length, Option, Some, None, drop, refl, sym, ap, arith}
use Rattle.std.specs.Prelude.{slice_index_or, nat_lt}
use Rattle.std.specs.List.{position_from}
use Rattle.std.proofs.lemmas.Bool.{cond-true, cond-false, eq-eqb, eqb-true, lt-ltb, le-ltb}
use Rattle.std.proofs.lemmas.Iterator.Adapters.{position_from-zero}
use Rattle.avro_compare.specs.Source.{or_else}
use Rattle.avro_compare.specs.inside.Nearer.{nearer, field_in}
use Rattle.avro_compare.specs.inside.PartNumbers.{first_number, first_of}
use Rattle.avro_compare.proofs.public.Lists.{next_in}

-- the place of a number with its index in the list, if it has one, or else what is found by later ones
abbrev pub placed : ℕ → Option ℕ → Option (ℕ × ℕ) → Option (ℕ × ℕ)
placed place None rest = rest
placed place (Some index) rest = Some (place, index)

-- the first of some numbers, by their places from one on, that a list has, with its index there from another on
abbrev pub first_from : ℕ → ℕ → List ℕ → List ℕ → Option (ℕ × ℕ)
first_from place n list [] = None
first_from place n list (m ∷ ms) = placed place (position_from (λ k. k == m) n list) (first_from (place + 1) n list ms)

pub first_none : (place n : ℕ) (numbers : List ℕ) → first_from place n [] numbers ≡ None
first_none place n [] = refl
first_none place n (m ∷ ms) = first_none (place + 1) n ms

pub first_all : (place : ℕ) (list numbers : List ℕ) → field_in (first_from place 0 list numbers) ≡ first_number list numbers
first_all place list [] = refl
first_all place list (m ∷ ms) =
    part (position_from (λ k. k == m) 0 list) (first_from (place + 1) 0 list ms)
    ∙ ap (λ (o : Option ℕ). or_else (position_from (λ k. k == m) 0 list) o) (first_all (place + 1) list ms)
    ∙ ap (λ (o : Option ℕ). or_else o (first_number list ms)) (sym (position_from-zero (λ k. k == m) list))
  where
    part : (o : Option ℕ) (rest : Option (ℕ × ℕ)) → field_in (placed place o rest) ≡ or_else o (field_in rest)
    part None rest = refl
    part (Some i) rest = refl

-- ---- One more before the others

flip : (a b : ℕ) → (a == b) ≡ (b == a)
flip a b = same (a == b) (b == a) (λ e. eq-eqb b a (sym (eqb-true a b e))) (λ e. eq-eqb a b (sym (eqb-true b a e)))
  where
    same : (x y : Bool) → (x ≡ true → y ≡ true) → (y ≡ true → x ≡ true) → x ≡ y
    same true true f g = refl
    same false false f g = refl
    same true false f g = sym (f refl)
    same false true f g = g refl

place_late : (p : ℕ → Bool) (place : ℕ) (numbers : List ℕ) (k : ℕ) → position_from p place numbers ≡ Some k → place ≤ k
place_late p place [] k e = absurd (cc)
place_late p place (m ∷ ms) k e = go (p m) e (place_late p (place + 1) ms k)
  where
    go : (b : Bool) → cond b (Some place) (position_from p (place + 1) ms) ≡ Some k → (position_from p (place + 1) ms ≡ Some k → place + 1 ≤ k) → place ≤ k
    go true e later = let same : place ≡ k = cc in omega (arith, same)
    go false e later = omega (arith, later e)

first_late : (place n : ℕ) (list numbers : List ℕ) (found : ℕ × ℕ) → first_from place n list numbers ≡ Some found → place ≤ found.0
first_late place n list [] found e = absurd (cc)
first_late place n list (m ∷ ms) found e = go (position_from (λ k. k == m) n list) e (first_late (place + 1) n list ms found)
  where
    go : (o : Option ℕ) → placed place o (first_from (place + 1) n list ms) ≡ Some found → (first_from (place + 1) n list ms ≡ Some found → place + 1 ≤ found.0) → place ≤ found.0
    go None e later = omega (arith, later e)
    go (Some i) e later =
        let same : (place, i) ≡ found = cc in
        omega (arith, ap (λ (q : ℕ × ℕ). q.0) same)

choose : (alias n : ℕ) (t : Bool) (o place : Option ℕ) (rest : Option (ℕ × ℕ)) → ((found : ℕ × ℕ) → rest ≡ Some found → alias + 1 ≤ found.0) → ((k : ℕ) → place ≡ Some k → alias + 1 ≤ k)
    → placed alias (cond t (Some n) o) (nearer place n rest) ≡ nearer (cond t (Some alias) place) n (placed alias o rest)
choose alias n true None place None late later = refl
choose alias n true None place (Some found) late later =
    sym (cond-false (nat_lt found.0 alias) (Some found) (Some (alias, n)) (le-ltb _ _ (omega (arith, late found refl))))
choose alias n true (Some i) place rest late later = sym (cond-false (nat_lt alias alias) (Some (alias, i)) (Some (alias, n)) (le-ltb _ _ (omega arith)))
choose alias n false None place rest late later = refl
choose alias n false (Some i) None rest late later = refl
choose alias n false (Some i) (Some k) rest late later =
    sym (cond-true (nat_lt alias k) (Some (alias, i)) (Some (k, n)) (lt-ltb _ _ (omega (arith, later k refl))))

first_step : (place n x : ℕ) (xs numbers : List ℕ) → first_from place n (x ∷ xs) numbers ≡ nearer (position_from (λ k. k == x) place numbers) n (first_from place (n + 1) xs numbers)
first_step place n x xs [] = refl
first_step place n x xs (m ∷ ms) =
    let others = position_from (λ k. k == m) (n + 1) xs in
    let later = position_from (λ k. k == x) (place + 1) ms in
    ap (λ (rest : Option (ℕ × ℕ)). placed place (cond (x == m) (Some n) others) rest) (first_step (place + 1) n x xs ms)
    ∙ choose place n (x == m) others later (first_from (place + 1) (n + 1) xs ms) (first_late (place + 1) (n + 1) xs ms) (place_late (λ k. k == x) (place + 1) ms)
    ∙ ap (λ (t : Bool). nearer (cond t (Some place) later) n (first_from place (n + 1) xs (m ∷ ms))) (flip x m)

pub first_next : (list : List ℕ) (n x : ℕ) (numbers : List ℕ) (place : Option ℕ) (before after : Option (ℕ × ℕ)) → n < length list → x ≡ slice_index_or list n 0
    → before ≡ first_from 0 (n + 1) (drop (n + 1) list) numbers → place ≡ first_of numbers x → after ≡ nearer place n before → after ≡ first_from 0 n (drop n list) numbers
first_next list n x numbers place before after low is known found put =
    let rest = drop (n + 1) list in
    put ∙ ap (λ (o : Option (ℕ × ℕ)). nearer place n o) known ∙ ap (λ (o : Option ℕ). nearer o n (first_from 0 (n + 1) rest numbers)) (found ∙ position_from-zero (λ k. k == x) numbers)
    ∙ sym (first_step 0 n x rest numbers) ∙ sym (ap (λ (xs : List ℕ). first_from 0 n xs numbers) (next_in list n 0 low ∙ ap (λ (y : ℕ). y ∷ rest) (sym is)))
