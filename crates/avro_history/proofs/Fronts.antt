-- Where the text of a certificate ends: of its lines the last one alone has an n.
use Rattle.std.proofs.Common.{◌≡◌, ℕ, zero, suc, ◌+◌, ◌<◌, inl, inr, Bool, true, false, List, [], ◌∷◌, ◌++◌, length, get_or, take, drop, map, flat_map, cond, min, refl, sym, ap, ◌∙◌, arith, append_assoc, length-append}
use Rattle.std.proofs.Math.Seq.{get_or-append_seam, take-append_seam, drop-append_seam}
use Rattle.std.proofs.lemmas.List.Folds.{list_any-append}
use Rattle.std.proofs.lemmas.Int.Digits.{all_below_base_digits_of}
use Rattle.std.proofs.lemmas.Bool.{ne_eqb, eq-eqb, or_from, or_parts, cases_order, true≢false}
use Rattle.std.specs.Prelude.{codes, ◌==◌}
use Rattle.std.specs.List.{list_any}
use Rattle.std.specs.Int.Digits.{digits_of, AllBelowBase}
use Rattle.avro_compare.specs.Children.{Pair}
use Rattle.avro_certificate.specs.CertificateText.{decimal, dead_line, pair_line}
use Rattle.avro_history.specs.HistoryText.{Sets, sets_text}

abbrev has_n : List ℕ → Bool
has_n bytes = list_any (λ c. c == 110) bytes

joined : (xs ys : List ℕ) → has_n xs ≡ false → has_n ys ≡ false → has_n (xs ++ ys) ≡ false
joined xs ys a b = list_any-append (λ c. c == 110) xs ys ∙ or_from (has_n xs) (has_n ys) a b

digits_have_none : (ds : List ℕ) → AllBelowBase 10 ds → has_n (map (λ d. 48 + d) ds) ≡ false
digits_have_none [] all = refl
digits_have_none (d ∷ ds) all = or_from (48 + d == 110) (has_n (map (λ e. 48 + e) ds)) (ne_eqb (48 + d) 110 (λ e. omega (arith, all.0))) (digits_have_none ds all.1)

either_has_none : (b : Bool) (xs ys : List ℕ) → has_n xs ≡ false → has_n ys ≡ false → has_n (cond b xs ys) ≡ false
either_has_none true xs ys h k = h
either_has_none false xs ys h k = k

decimal_has_none : (n : ℕ) → has_n (decimal n) ≡ false
decimal_has_none n =
    either_has_none (n == 0) (48 ∷ []) (map (λ d. 48 + d) (digits_of 10 n)) refl (digits_have_none (digits_of 10 n) (all_below_base_digits_of 10 n (omega arith)))

dead_line_has_none : (n : ℕ) → has_n (dead_line n) ≡ false
dead_line_has_none n = joined (codes "dead " ++ decimal n) (10 ∷ []) (joined (codes "dead ") (decimal n) refl (decimal_has_none n)) refl

pair_line_has_none : (p : Pair) → has_n (pair_line p) ≡ false
pair_line_has_none p =
    joined (codes "pair " ++ decimal p.w ++ (32 ∷ []) ++ decimal p.r) (10 ∷ [])
    (joined (codes "pair " ++ decimal p.w ++ (32 ∷ [])) (decimal p.r)
    (joined (codes "pair " ++ decimal p.w) (32 ∷ []) (joined (codes "pair ") (decimal p.w) refl (decimal_has_none p.w)) refl) (decimal_has_none p.r)) refl

lines_have_none : {A : Type 0} (line : A → List ℕ) → ((a : A) → has_n (line a) ≡ false) → (xs : List A) → has_n (flat_map line xs) ≡ false
lines_have_none line none [] = refl
lines_have_none line none (x ∷ xs) = joined (line x) (flat_map line xs) (none x) (lines_have_none line none xs)

-- what stands before the only n
front_of : Sets → List ℕ
front_of s = codes "approval 1\n" ++ flat_map dead_line s.dead ++ flat_map pair_line s.pairs ++ (101 ∷ [])

text_is : (s : Sets) → sets_text s ≡ front_of s ++ (110 ∷ 100 ∷ 10 ∷ [])
unfolding front_of
text_is s = sym (append_assoc (codes "approval 1\n" ++ flat_map dead_line s.dead ++ flat_map pair_line s.pairs) (101 ∷ []) (110 ∷ 100 ∷ 10 ∷ []))

front_has_none : (s : Sets) → has_n (front_of s) ≡ false
unfolding front_of
front_has_none s =
    joined (codes "approval 1\n" ++ flat_map dead_line s.dead ++ flat_map pair_line s.pairs) (101 ∷ [])
    (joined (codes "approval 1\n" ++ flat_map dead_line s.dead) (flat_map pair_line s.pairs)
    (joined (codes "approval 1\n") (flat_map dead_line s.dead) refl (lines_have_none dead_line dead_line_has_none s.dead))
    (lines_have_none pair_line pair_line_has_none s.pairs)) refl

-- none of these bytes is an n
none_before : (front more : List ℕ) (i : ℕ) → has_n front ≡ false → i < length front → get_or (front ++ more) i 0 ≡ 110 → ⊥
none_before [] more i none here e = absurd (omega arith)
none_before (c ∷ front) more zero none here e = true≢false (sym (eq-eqb c 110 e) ∙ (or_parts (c == 110) (has_n front) none).0)
none_before (c ∷ front) more (suc i) none here e = none_before front more i (or_parts (c == 110) (has_n front) none).1 (omega arith) e

-- the text, with what follows it
whole_is : (text : List ℕ) (s : Sets) (more : List ℕ) → text ≡ sets_text s ++ more → text ≡ front_of s ++ (110 ∷ 100 ∷ 10 ∷ more)
whole_is text s more e = e ∙ ap (λ l. l ++ more) (text_is s) ∙ append_assoc (front_of s) (110 ∷ 100 ∷ 10 ∷ []) more

n_at : (text : List ℕ) (s : Sets) (more : List ℕ) → text ≡ sets_text s ++ more → get_or text (length (front_of s)) 0 ≡ 110
n_at text s more e = ap (λ (l : List ℕ). get_or l (length (front_of s)) 0) (whole_is text s more e) ∙ get_or-append_seam (front_of s) 110 (100 ∷ 10 ∷ more) 0

lengths : (text : List ℕ) (s : Sets) (more : List ℕ) → text ≡ sets_text s ++ more
    → (length (sets_text s) ≡ length (front_of s) + 3) × (length text ≡ length (front_of s) + 3 + length more)
lengths text s more e = (
  ap length (text_is s) ∙ length-append (front_of s) (110 ∷ 100 ∷ 10 ∷ []),
  omega (arith, ap length (whole_is text s more e), length-append (front_of s) (110 ∷ 100 ∷ 10 ∷ more)),
)

-- the first n shows where the certificate ends
pub ends_at : (text : List ℕ) (i : ℕ) → i < length text → get_or text i 0 ≡ 110 → ((k : ℕ) → k < i → get_or text k 0 ≡ 110 → ⊥)
    → (s : Sets) (more : List ℕ) → text ≡ sets_text s ++ more → min (length text) (i + 3) ≡ length (sets_text s)
ends_at text i here n first s more e = elim (cases_order i (length (front_of s))) [
  | inl same ↦ omega (arith, same, (lengths text s more e).0, (lengths text s more e).1)
  | inr (inl low) ↦ absurd (none_before (front_of s) (110 ∷ 100 ∷ 10 ∷ more) i (front_has_none s) low (ap (λ (l : List ℕ). get_or l i 0) (sym (whole_is text s more e)) ∙ n))
  | inr (inr high) ↦ absurd (first (length (front_of s)) high (n_at text s more e))
]

-- and there is one
pub no_end : (text : List ℕ) → ((k : ℕ) → k < length text → get_or text k 0 ≡ 110 → ⊥) → (s : Sets) (more : List ℕ) → text ≡ sets_text s ++ more → ⊥
no_end text none s more e = none (length (front_of s)) (omega (arith, (lengths text s more e).1)) (n_at text s more e)

-- a text, split after what stands at its front
pub parted_at : (text front more : List ℕ) (k : ℕ) → k ≡ length front → text ≡ front ++ more → (take k text ≡ front) × (drop k text ≡ more)
parted_at text front more k same e = (
  ap (λ j. take j text) same ∙ ap (take (length front)) e ∙ take-append_seam front more,
  ap (λ j. drop j text) same ∙ ap (drop (length front)) e ∙ drop-append_seam front more,
)
