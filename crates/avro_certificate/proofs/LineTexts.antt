-- Numbers that a byte ends, and lists of lines.
use Rattle.std.proofs.Common.{◌≡◌, ℕ, zero, suc, ◌+◌, ◌-◌, ◌<◌, Option, List, [], ◌∷◌, ◌++◌, length, get_or, take, drop, map, flat_map, refl, sym, ap, ◌∙◌, arith, append_assoc, append-nil, drop-cons, length-append, length-drop}
use Rattle.std.proofs.Math.Seq.{get_or-append_seam}
use Rattle.std.proofs.lemmas.List.{take-append-drop, take_all}
use Rattle.std.proofs.lemmas.Int.Digits.{same_from_digits_of}
use Rattle.std.proofs.lemmas.Bool.{false≢true}
use Rattle.std.specs.Prelude.{codes, MatchOption, ◌==◌}
use Rattle.std.specs.Int.Digits.{digits_of}
use Rattle.avro_compare.specs.Children.{Pair}
use Rattle.avro_certificate.specs.CertificateText.{decimal, dead_line, pair_line, certificate_text}
use Rattle.avro_certificate.specs.inside.CertificateLines.{NoneAhead}
use Rattle.avro_certificate.proofs.Decimal.{decimal_digits, decimal_first}
use Rattle.avro_certificate.proofs.public.Digits.{above_zero}

-- the byte is not there
Lacks : ℕ → List ℕ → Type 0
Lacks stop [] = Unit {0}
Lacks stop (c ∷ cs) = (c ≡ stop → ⊥) × Lacks stop cs

lacks_from : (stop : ℕ) (cs : List ℕ) → ((i : ℕ) → i < length cs → get_or cs i 0 ≡ stop → ⊥) → Lacks stop cs
unfolding Lacks
lacks_from stop [] h = tt
lacks_from stop (c ∷ cs) h = (h 0 (omega arith), lacks_from stop cs (λ i within. h (suc i) (omega arith)))

-- the first of a byte parts a text in one way
parted : (stop : ℕ) (xs ys x y : List ℕ) → Lacks stop xs → Lacks stop ys → xs ++ (stop ∷ x) ≡ ys ++ (stop ∷ y) → (xs ≡ ys) × (x ≡ y)
unfolding Lacks
parted stop [] [] x y a b e = (refl, cc)
parted stop [] (d ∷ ys) x y a b e = let h : d ≡ stop = cc in absurd (b.0 h)
parted stop (c ∷ xs) [] x y a b e = let h : c ≡ stop = cc in absurd (a.0 h)
parted stop (c ∷ xs) (d ∷ ys) x y a b e =
    let head : c ≡ d = cc in
    let tail : xs ++ (stop ∷ x) ≡ ys ++ (stop ∷ y) = cc in
    let rest = parted stop xs ys x y a.1 b.1 tail in
    (ap (λ z. z ∷ xs) head ∙ ap (λ l. d ∷ l) rest.0, rest.1)

decimal_lacks : (stop n : ℕ) → stop < 48 → Lacks stop (decimal n)
decimal_lacks stop n low = lacks_from stop (decimal n) (λ i within e. let digit = decimal_digits n i within in omega (arith, digit.0))

map_same : (xs ys : List ℕ) → map (λ d. 48 + d) xs ≡ map (λ d. 48 + d) ys → xs ≡ ys
map_same [] [] e = refl
map_same [] (y ∷ ys) e = cc
map_same (x ∷ xs) [] e = cc
map_same (x ∷ xs) (y ∷ ys) e =
    let head : 48 + x ≡ 48 + y = cc in
    let tail : map (λ d. 48 + d) xs ≡ map (λ d. 48 + d) ys = cc in
    let same : x ≡ y = omega arith in
    ap (λ z. z ∷ xs) same ∙ ap (λ l. y ∷ l) (map_same xs ys tail)

-- each number is written in one way
pub decimal_same : (m n : ℕ) → decimal m ≡ decimal n → m ≡ n
decimal_same zero zero e = refl
decimal_same zero (suc n) e = let first = decimal_first (suc n) (omega arith) in absurd (omega (arith, ap (λ (l : List ℕ). get_or l 0 0) e, first))
decimal_same (suc m) zero e = let first = decimal_first (suc m) (omega arith) in absurd (omega (arith, ap (λ (l : List ℕ). get_or l 0 0) e, first))
decimal_same (suc m) (suc n) e = same_from_digits_of 10 (suc m) (suc n) (omega arith)
    (map_same (digits_of 10 (suc m)) (digits_of 10 (suc n)) (sym (above_zero (suc m) (omega arith)) ∙ e ∙ above_zero (suc n) (omega arith)))

-- a number that a byte ends
pub number_same : (stop m n : ℕ) (x y : List ℕ) → stop < 48 → decimal m ++ (stop ∷ x) ≡ decimal n ++ (stop ∷ y) → (m ≡ n) × (x ≡ y)
number_same stop m n x y low e =
    let parts = parted stop (decimal m) (decimal n) x y (decimal_lacks stop m low) (decimal_lacks stop n low) e in
    (decimal_same m n parts.0, parts.1)

-- a text up to the first of a byte, and behind it
pub cut_at : (bs : List ℕ) (k stop : ℕ) → k < length bs → get_or bs k 0 ≡ stop → bs ≡ take k bs ++ (stop ∷ drop (k + 1) bs)
cut_at bs k stop here e = grind (arith, drop-cons, take-append-drop)

-- what is left of a text, from an index on
pub rest_of : (bs : List ℕ) (i : ℕ) → take (length bs - i) (drop i bs) ≡ drop i bs
rest_of bs i = take_all (length bs - i) (drop i bs) (omega (arith, length-drop i bs))

front_at : (bs : List ℕ) (k j : ℕ) → j < length (take k bs) → get_or (take k bs) j 0 ≡ get_or bs j 0
front_at [] zero j h = absurd (omega arith)
front_at [] (suc k) j h = absurd (omega arith)
front_at (b ∷ bs) zero j h = absurd (omega arith)
front_at (b ∷ bs) (suc k) zero h = refl
front_at (b ∷ bs) (suc k) (suc j) h = front_at bs k j (omega arith)

front_length : (bs : List ℕ) (k j : ℕ) → j < length (take k bs) → j < k
front_length [] zero j h = absurd (omega arith)
front_length [] (suc k) j h = absurd (omega arith)
front_length (b ∷ bs) zero j h = absurd (omega arith)
front_length (b ∷ bs) (suc k) zero h = omega arith
front_length (b ∷ bs) (suc k) (suc j) h = let rest = front_length bs k j (omega arith) in omega arith

-- a number at the front of a text ends at the first of the byte
pub number_in_front : (bs : List ℕ) (k stop n : ℕ) (more : List ℕ) → stop < 48 → k < length bs → get_or bs k 0 ≡ stop
    → ((j : ℕ) → j < k → get_or bs j 0 ≡ stop → ⊥) → bs ≡ decimal n ++ (stop ∷ more) → take k bs ≡ decimal n
number_in_front bs k stop n more low here e first whole =
    (parted stop (take k bs) (decimal n) (drop (k + 1) bs) more
    (lacks_from stop (take k bs) (λ j within same. first j (front_length bs k j within) (sym (front_at bs k j within) ∙ same)))
    (decimal_lacks stop n low) (sym (cut_at bs k stop here e) ∙ whole)).0

-- and there is one
pub no_number : (bs : List ℕ) (stop n : ℕ) (more : List ℕ) → ((k : ℕ) → k < length bs → get_or bs k 0 ≡ stop → ⊥) → bs ≡ decimal n ++ (stop ∷ more) → ⊥
no_number bs stop n more none e =
    none (length (decimal n)) (omega (arith, ap length e, length-append (decimal n) (stop ∷ more)))
    (ap (λ l. get_or l (length (decimal n)) 0) e ∙ get_or-append_seam (decimal n) stop more 0)

-- a line, and what follows it
pub dead_line_is : (n : ℕ) (more : List ℕ) → dead_line n ++ more ≡ codes "dead " ++ (decimal n ++ (10 ∷ more))
dead_line_is n more = simp append_assoc

pub pair_line_is : (p : Pair) (more : List ℕ) → pair_line p ++ more ≡ codes "pair " ++ (decimal p.w ++ (32 ∷ (decimal p.r ++ (10 ∷ more))))
pair_line_is p more = simp append_assoc

-- a word in front of two texts
pub word_same : (word x y : List ℕ) → word ++ x ≡ word ++ y → x ≡ y
word_same [] x y e = e
word_same (c ∷ word) x y e = word_same word x y cc

dead_line_same : (m n : ℕ) (x y : List ℕ) → dead_line m ++ x ≡ dead_line n ++ y → (m ≡ n) × (x ≡ y)
dead_line_same m n x y e = grind (arith, dead_line_is, number_same, word_same)

pub pair_path : (p q : Pair) → p.w ≡ q.w → p.r ≡ q.r → p ≡ q
pair_path p q a b = λ i. record { w = a i; r = b i }

pair_line_same : (p q : Pair) (x y : List ℕ) → pair_line p ++ x ≡ pair_line q ++ y → (p ≡ q) × (x ≡ y)
pair_line_same p q x y e = grind (arith, number_same, pair_line_is, pair_path, word_same)

module _ {A : Type 0} (line : A → List ℕ) (same : (a b : A) (x y : List ℕ) → line a ++ x ≡ line b ++ y → (a ≡ b) × (x ≡ y)) where
  -- all lines of a kind at the front of a text
  lines_same : (xs ys : List A) (x y : List ℕ) → flat_map line xs ++ x ≡ flat_map line ys ++ y → NoneAhead line x → NoneAhead line y → (xs ≡ ys) × (x ≡ y)
  lines_same [] [] x y e a b = (refl, e)
  lines_same [] (d ∷ ys) x y e a b = absurd (a d (flat_map line ys ++ y) (e ∙ append_assoc (line d) (flat_map line ys) y))
  lines_same (c ∷ xs) [] x y e a b = absurd (b c (flat_map line xs ++ x) (sym e ∙ append_assoc (line c) (flat_map line xs) x))
  lines_same (c ∷ xs) (d ∷ ys) x y e a b =
      let first = same c d (flat_map line xs ++ x) (flat_map line ys ++ y) (sym (append_assoc (line c) (flat_map line xs) x) ∙ e ∙ append_assoc (line d) (flat_map line ys) y) in
      let rest = lines_same xs ys x y first.1 a b in
      (ap (λ z. z ∷ xs) first.0 ∙ ap (λ l. d ∷ l) rest.0, rest.1)

pub dead_lines_same : (xs ys : List ℕ) (x y : List ℕ) → flat_map dead_line xs ++ x ≡ flat_map dead_line ys ++ y → NoneAhead dead_line x → NoneAhead dead_line y → (xs ≡ ys) × (x ≡ y)
dead_lines_same = lines_same dead_line dead_line_same

pub pair_lines_same : (xs ys : List Pair) (x y : List ℕ) → flat_map pair_line xs ++ x ≡ flat_map pair_line ys ++ y → NoneAhead pair_line x → NoneAhead pair_line y → (xs ≡ ys) × (x ≡ y)
pair_lines_same = lines_same pair_line pair_line_same

-- what follows the lines of the dead nodes
pub no_dead_ahead : (ps : List Pair) → NoneAhead dead_line (flat_map pair_line ps ++ codes "end\n")
no_dead_ahead [] n more e = false≢true (ap (λ (l : List ℕ). get_or l 0 0 == 100) e)
no_dead_ahead (p ∷ ps) n more e = false≢true (ap (λ (l : List ℕ). get_or l 0 0 == 100) e)

pub no_pair_ahead : NoneAhead pair_line (codes "end\n")
no_pair_ahead p more e = false≢true (ap (λ (l : List ℕ). get_or l 0 0 == 112) e)

-- the whole text, grouped from its front
pub text_is : (dead : List ℕ) (pairs : List Pair)
    → certificate_text dead pairs ≡ codes "approval 1\n" ++ (flat_map dead_line dead ++ (flat_map pair_line pairs ++ codes "end\n"))
text_is dead pairs = simp append_assoc

-- a text is that of one pair of lists at most
pub text_same : (dead others : List ℕ) (pairs them : List Pair) → certificate_text dead pairs ≡ certificate_text others them → (dead ≡ others) × (pairs ≡ them)
text_same dead others pairs them e =
    let first = dead_lines_same dead others _ _ (word_same (codes "approval 1\n") _ _ (sym (text_is dead pairs) ∙ e ∙ text_is others them))
    (no_dead_ahead pairs) (no_dead_ahead them) in
    let second = pair_lines_same pairs them _ _ first.1 no_pair_ahead no_pair_ahead in
    (first.0, second.0)

flat_map-push : {A : Type 0} (line : A → List ℕ) (xs : List A) (x : A) → flat_map line (xs ++ (x ∷ [])) ≡ flat_map line xs ++ line x
flat_map-push line [] x = append-nil (line x)
flat_map-push line (y ∷ ys) x = ap (λ l. line y ++ l) (flat_map-push line ys x) ∙ sym (append_assoc (line y) (flat_map line ys) (line x))

map-push : {A B C : Type 0} (f : A → C) (g : B → C) (xs : List A) (ys : List B) (x : A) (y : B) → map f xs ≡ map g ys → f x ≡ g y
    → map f (xs ++ (x ∷ [])) ≡ map g (ys ++ (y ∷ []))
map-push f g [] [] x y e h = ap (λ z. z ∷ []) h
map-push f g [] (b ∷ ys) x y e h = cc
map-push f g (a ∷ xs) [] x y e h = cc
map-push f g (a ∷ xs) (b ∷ ys) x y e h =
    let head : f a ≡ g b = cc in
    let tail : map f xs ≡ map g ys = cc in
    ap (λ z. z ∷ map f (xs ++ (x ∷ []))) head ∙ ap (λ l. g b ∷ l) (map-push f g xs ys x y tail h)

-- what each answer says, weakened
pub in_each : {A P P' : Type 0} {Q Q' : A → Type 0} (o : Option A) → (P → P') → ((x : A) → Q x → Q' x) → MatchOption o P Q → MatchOption o P' Q'
in_each o f g h = grind arith

-- The lines of a kind that were read, and what was kept of them.
pub record HasRead {A B : Type 0} (line : A → List ℕ) (f : B → A) (g : A → A) (kept : List B) (text rest : List ℕ) : Type 0 where
  pub values : List A
  pub written : text ≡ flat_map line values ++ rest
  pub seen : map f kept ≡ map g values

pub read_one : {A B : Type 0} (line : A → List ℕ) (f : B → A) (g : A → A) (kept : List B) (text rest more : List ℕ) (a : A) (b : B)
    → HasRead line f g kept text rest → rest ≡ line a ++ more → f b ≡ g a → HasRead line f g (kept ++ (b ∷ [])) text more
read_one line f g kept text rest more a b before e h = record {
  values = before.values ++ (a ∷ []);
  written = before.written ∙ ap (λ l. flat_map line before.values ++ l) e ∙ sym (append_assoc (flat_map line before.values) (line a) more)
      ∙ ap (λ l. l ++ more) (sym (flat_map-push line before.values a));
  seen = map-push f g kept before.values b a before.seen h;
}

-- a line has a byte at least
pub shorter : {A : Type 0} (line : A → List ℕ) (first : (a : A) → 0 < length (line a)) (a : A) (text more : List ℕ) → text ≡ line a ++ more → length more < length text
shorter line first a text more e = let some = first a in omega (arith, ap length e, length-append (line a) more, some)

pub dead_line_some : (n : ℕ) → 0 < length (dead_line n)
dead_line_some n = omega arith

pub pair_line_some : (p : Pair) → 0 < length (pair_line p)
pair_line_some p = omega arith

pub map_id : (xs : List ℕ) → map (λ (n : ℕ). n) xs ≡ xs
map_id [] = refl
map_id (x ∷ xs) = ap (λ l. x ∷ l) (map_id xs)

-- four texts, one behind the other
pub joined : (x0 x1 x2 x3 x4 a d p e : List ℕ) → x1 ≡ x0 ++ a → x2 ≡ x1 ++ d → x3 ≡ x2 ++ p → x4 ≡ x3 ++ e → x4 ≡ x0 ++ (a ++ d ++ p ++ e)
joined x0 x1 x2 x3 x4 a d p e e1 e2 e3 e4 = grind (arith, append_assoc)
