-- What was read of the certificates of a history, and what is left of it.
use Rattle.std.proofs.Common.{◌≡◌, ℕ, ◌+◌, ◌<◌, Bool, true, false, List, [], ◌∷◌, ◌++◌, length, get_or, flat_map, refl, sym, ap, ◌∙◌, arith, append_assoc, append-nil, length-append}
use Rattle.std.proofs.lemmas.List.Folds.{list_all-append}
use Rattle.std.proofs.lemmas.Bool.{true≢false, false≢true, and_from, and_parts, and_left, and_right}
use Rattle.std.specs.Prelude.{codes, ◌==◌}
use Rattle.std.specs.List.{list_all}
use Rattle.avro_compare.specs.Children.{Pair}
use Rattle.avro_certificate.specs.CertificateText.{CertText, are_small}
use Rattle.avro_history.specs.HistoryText.{Sets, sets_text, do_rise, has_small, all_small}
use Rattle.avro_history.specs.inside.CertificatesRead.{lines_of, AreLines}

sets_path : (s t : Sets) → s.dead ≡ t.dead → s.pairs ≡ t.pairs → s ≡ t
sets_path s t a b = λ i. record { dead = a i; pairs = b i }

flat_map-append : {A : Type 0} (f : A → List ℕ) (xs ys : List A) → flat_map f (xs ++ ys) ≡ flat_map f xs ++ flat_map f ys
flat_map-append f [] ys = refl
flat_map-append f (x ∷ xs) ys = ap (λ l. f x ++ l) (flat_map-append f xs ys) ∙ sym (append_assoc (f x) (flat_map f xs) (flat_map f ys))

-- one after the others
flat_map-push : (sets : List Sets) (s : Sets) → flat_map sets_text (sets ++ (s ∷ [])) ≡ flat_map sets_text sets ++ sets_text s
flat_map-push sets s = flat_map-append sets_text sets (s ∷ []) ∙ ap (λ l. flat_map sets_text sets ++ l) (append-nil (sets_text s))

all-push : (test : Sets → Bool) (sets : List Sets) (s : Sets) → list_all test sets ≡ true → test s ≡ true → list_all test (sets ++ (s ∷ [])) ≡ true
all-push test sets s h k = list_all-append test sets (s ∷ []) ∙ and_from (list_all test sets) (list_all test (s ∷ [])) h (and_from (test s) true k refl)

-- what is left of the sets of a text
pub record Left (sets kept : List Sets) (rest : List ℕ) (great : Bool) : Type 0 where
  pub later : List Sets
  pub lines : AreLines later rest
  pub small : all_small sets ≡ true → (sets ≡ kept ++ later) × (all_small later ≡ true) × (great ≡ false)

-- the sets that were passed; they are kept, unless a number is too great
pub record ReadSoFar (text rest : List ℕ) (kept : List Sets) (great : Bool) : Type 0 where
  pub passed : List Sets
  pub front : text ≡ flat_map sets_text passed ++ rest
  pub same : great ≡ false → passed ≡ kept
  pub over : great ≡ true → all_small passed ≡ false
  pub rising : list_all do_rise kept ≡ true
  pub small : all_small kept ≡ true
  pub left : (sets : List Sets) → AreLines sets text → Left sets kept rest great

-- how a text is split
abbrev pub PartedFirst : List ℕ → List ℕ → List ℕ → Type 0
PartedFirst rest front more = (s : Sets) (m : List ℕ) → rest ≡ sets_text s ++ m → (front ≡ sets_text s) × (more ≡ m)

-- the next of the sets that are left
record Next (later : List Sets) (front more : List ℕ) : Type 0 where
  pub first : Sets
  pub others : List Sets
  pub is : later ≡ first ∷ others
  pub text : CertText first.dead first.pairs front
  pub lines : AreLines others more

next_of : (later : List Sets) (rest front more : List ℕ) → AreLines later rest → (rest ≡ codes "end\n" → ⊥) → PartedFirst rest front more → Next later front more
next_of [] rest front more lines goes_on parted = absurd (goes_on lines.written)
next_of (s ∷ others) rest front more lines goes_on parted =
    let rises = and_parts (do_rise s) (list_all do_rise others) lines.rising in
    let both = and_parts _ _ rises.0 in
    let parts = parted s (lines_of others) (lines.written ∙ append_assoc (sets_text s) (flat_map sets_text others) (codes "end\n")) in
    record {
      first = s;
      others = others;
      is = refl;
      text = record { rising = both.0; rising_pairs = both.1; written = parts.0 };
      lines = record { rising = rises.1; written = parts.1 };
    }

-- the texts that were passed, and one more
passed_more : (text rest front more : List ℕ) (passed : List Sets) (s : Sets) → text ≡ flat_map sets_text passed ++ rest → rest ≡ front ++ more → front ≡ sets_text s
    → text ≡ flat_map sets_text (passed ++ (s ∷ [])) ++ more
passed_more text rest front more passed s e whole written =
    e ∙ ap (λ l. flat_map sets_text passed ++ l) (whole ∙ ap (λ l. l ++ more) written)
    ∙ sym (append_assoc (flat_map sets_text passed) (sets_text s) more) ∙ ap (λ l. l ++ more) (sym (flat_map-push passed s))

module _ (text rest front more : List ℕ) (kept : List Sets) (great : Bool) (before : ReadSoFar text rest kept great) (goes_on : rest ≡ codes "end\n" → ⊥)
    (whole : rest ≡ front ++ more) (parted : PartedFirst rest front more) where
  ahead : (sets : List Sets) → (lines : AreLines sets text) → Next (before.left sets lines).later front more
  ahead sets lines = next_of (before.left sets lines).later rest front more (before.left sets lines).lines goes_on parted

  -- where the numbers of the whole text are small, so are those of the next
  small_ahead : (sets : List Sets) (lines : AreLines sets text) → all_small sets ≡ true
      → (has_small (ahead sets lines).first ≡ true) × (all_small (ahead sets lines).others ≡ true)
  small_ahead sets lines h =
      let n = ahead sets lines in
      and_parts (has_small n.first) (all_small n.others) (ap all_small (sym n.is) ∙ ((before.left sets lines).small h).1)

  -- a certificate was read
  pub read_one : (s : Sets) → CertText s.dead s.pairs front → are_small s.dead s.pairs ≡ true
      → ((dead : List ℕ) (pairs : List Pair) → CertText dead pairs front → are_small dead pairs ≡ true → (s.dead ≡ dead) × (s.pairs ≡ pairs))
      → ReadSoFar text more (kept ++ (s ∷ [])) great
  read_one s found small complete = record {
    passed = before.passed ++ (s ∷ []);
    front = passed_more text rest front more before.passed s before.front whole found.written;
    same = λ e. ap (λ l. l ++ (s ∷ [])) (before.same e);
    over = λ e. list_all-append has_small before.passed (s ∷ []) ∙ and_left (all_small before.passed) (all_small (s ∷ [])) (before.over e);
    rising = all-push do_rise kept s before.rising (and_from _ _ found.rising found.rising_pairs);
    small = all-push has_small kept s before.small small;
    left = λ sets lines. record {
      later = (ahead sets lines).others;
      lines = (ahead sets lines).lines;
      small = λ h.
          let l = (before.left sets lines).small h in
          let n = ahead sets lines in
          let c = complete n.first.dead n.first.pairs n.text (small_ahead sets lines h).0 in (
            l.0 ∙ ap (λ z. kept ++ z) (n.is ∙ ap (λ z. z ∷ n.others) (sym (sets_path s n.first c.0 c.1))) ∙ sym (append_assoc kept (s ∷ []) n.others),
            (small_ahead sets lines h).1,
            l.2,
          );
    };
  }

  -- one with a number that is too great
  pub read_great : (s : Sets) → front ≡ sets_text s → are_small s.dead s.pairs ≡ false
      → ((dead : List ℕ) (pairs : List Pair) → CertText dead pairs front → are_small dead pairs ≡ true → ⊥)
      → ReadSoFar text more kept true
  read_great s written over none = record {
    passed = before.passed ++ (s ∷ []);
    front = passed_more text rest front more before.passed s before.front whole written;
    same = λ e. absurd (true≢false e);
    over = λ _. list_all-append has_small before.passed (s ∷ [])
        ∙ and_right (all_small before.passed) (all_small (s ∷ [])) (and_left (has_small s) true over);
    rising = before.rising;
    small = before.small;
    left = λ sets lines. record {
      later = (ahead sets lines).others;
      lines = (ahead sets lines).lines;
      small = λ h. let n = ahead sets lines in absurd (none n.first.dead n.first.pairs n.text (small_ahead sets lines h).0);
    };
  }

  -- one that is none
  pub no_lines : ((dead : List ℕ) (pairs : List Pair) → CertText dead pairs front → ⊥) → (sets : List Sets) → AreLines sets text → ⊥
  no_lines none sets lines = let n = ahead sets lines in none n.first.dead n.first.pairs n.text

  pub no_small_lines : ((dead : List ℕ) (pairs : List Pair) → CertText dead pairs front → are_small dead pairs ≡ true → ⊥)
      → (sets : List Sets) → AreLines sets text → all_small sets ≡ true → ⊥
  no_small_lines none sets lines h = let n = ahead sets lines in none n.first.dead n.first.pairs n.text (small_ahead sets lines h).0

  pub longer : (n : ℕ) → n < length front → n < length text
  longer n h = omega (arith, h, ap length before.front, length-append (flat_map sets_text before.passed) rest, ap length whole, length-append front more)

no_more : (later : List Sets) (rest : List ℕ) → AreLines later rest → rest ≡ codes "end\n" → later ≡ []
no_more [] rest lines e = refl
no_more (s ∷ others) rest lines e = absurd (false≢true (ap (λ (l : List ℕ). get_or l 0 0 == 101) (sym lines.written ∙ e)))

module _ (text rest : List ℕ) (kept : List Sets) (great : Bool) (read : ReadSoFar text rest kept great) (ends : rest ≡ codes "end\n") where
  pub all_kept : (sets : List Sets) → AreLines sets text → all_small sets ≡ true → kept ≡ sets
  all_kept sets lines h =
      let l = read.left sets lines in
      sym ((l.small h).0 ∙ ap (λ z. kept ++ z) (no_more l.later rest l.lines ends) ∙ append-nil kept)
