-- What the lists that were kept of a text say of it.
use Rattle.std.proofs.Common.{◌≡◌, ℕ, ◌⊎◌, inl, inr, Bool, true, false, List, map, sym, ap, ◌∙◌}
use Rattle.std.proofs.lemmas.Bool.{true≢false}
use Rattle.std.specs.Prelude.{nat_lt, Err}
use Rattle.avro_compare.specs.Children.{Pair}
use Rattle.avro_certificate.specs.CertificateText.{CertText, certificate_text, is_rising, is_before, are_small}
use Rattle.avro_certificate.specs.inside.CertificateLines.{bounded, bounded_pair}
use Rattle.avro_certificate.specs.CertificateRead.{HasGreatNumber, Refuses, UnlessOutOfMemory}
use Rattle.avro_certificate.specs.inside.CertificateSets.{RefusesSets}
use Rattle.avro_certificate.specs.SeenPair.{pairs_of}
use Rattle.avro_certificate.specs.declared.error.CertError.{CertError}
use Rattle.avro_certificate.specs.declared.kept.Certificate.{Certificate}
use Rattle.avro_certificate.proofs.LineTexts.{text_same}
use Rattle.avro_certificate.proofs.public.Rising.{kept_small, kept_same}

-- the lists of a text, and what was kept of them
pub record AreKept (text dead : List ℕ) (pairs : List Pair) : Type 0 where
  pub theirs : List ℕ
  pub their_pairs : List Pair
  pub written : text ≡ certificate_text theirs their_pairs
  pub numbers : dead ≡ map bounded theirs
  pub kept_pairs : pairs ≡ map bounded_pair their_pairs

pub kept_of : (text dead : List ℕ) (pairs : List Pair) (theirs : List ℕ) (their_pairs : List Pair) → text ≡ certificate_text theirs their_pairs
    → dead ≡ map bounded theirs → pairs ≡ map bounded_pair their_pairs → AreKept text dead pairs
kept_of text dead pairs theirs their_pairs e n p = record { theirs = theirs; their_pairs = their_pairs; written = e; numbers = n; kept_pairs = p }

-- what a test of slices says of the lists
pub small_at : (d d' : List ℕ) (p p' : List (ℕ × ℕ)) (r b : Bool) → r ≡ are_small d' (pairs_of p') → d' ≡ d → p' ≡ p → r ≡ b → are_small d (pairs_of p) ≡ b
small_at d d' p p' r b e n m t = ap (λ l. are_small l (pairs_of p)) (sym n) ∙ ap (λ l. are_small d' (pairs_of l)) (sym m) ∙ sym e ∙ t

pub rising_at : (d d' : List ℕ) (r b : Bool) → r ≡ is_rising nat_lt d' → d' ≡ d → r ≡ b → is_rising nat_lt d ≡ b
rising_at d d' r b e n t = ap (is_rising nat_lt) (sym n) ∙ sym e ∙ t

pub pairs_rising_at : (p p' : List (ℕ × ℕ)) (r b : Bool) → r ≡ is_rising is_before (pairs_of p') → p' ≡ p → r ≡ b → is_rising is_before (pairs_of p) ≡ b
pairs_rising_at p p' r b e n t = ap (λ l. is_rising is_before (pairs_of l)) (sym n) ∙ sym e ∙ t

-- the lines were refused
pub no_lines : (e : CertError) (text : List ℕ) (P : Certificate → Type 0) (dead : List ℕ) (pairs : List Pair) → RefusesSets e text → CertText dead pairs text
    → UnlessOutOfMemory (Err e) P
no_lines CertError.Malformed text P dead pairs refused certified = refused dead pairs certified.written
no_lines CertError.NumberTooLarge text P dead pairs refused certified = refused
no_lines CertError.OutOfMemory text P dead pairs refused certified = tt

pub refusal : (e : CertError) (text : List ℕ) → RefusesSets e text → Refuses e text
refusal CertError.Malformed text refused = inr (λ dead pairs certified. refused dead pairs certified.written)
refusal CertError.NumberTooLarge text refused = absurd refused
refusal CertError.OutOfMemory text refused = tt

module _ (text dead : List ℕ) (pairs : List Pair) (kept : AreKept text dead pairs) where
  small_alike : are_small dead pairs ≡ are_small kept.theirs kept.their_pairs
  small_alike = ap (λ l. are_small l pairs) kept.numbers ∙ ap (are_small (map bounded kept.theirs)) kept.kept_pairs ∙ kept_small kept.theirs kept.their_pairs

  -- a number that is too great
  pub great_number : are_small dead pairs ≡ false → HasGreatNumber text
  great_number e = record { dead = kept.theirs; pairs = kept.their_pairs; written = kept.written; great = sym small_alike ∙ e }

  -- lists that rise, of numbers that are not
  pub read_text : are_small dead pairs ≡ true → is_rising nat_lt dead ≡ true → is_rising is_before pairs ≡ true → CertText dead pairs text
  read_text small rising rising_pairs =
      let same = kept_same kept.theirs kept.their_pairs (sym small_alike ∙ small) in
      let numbers : kept.theirs ≡ dead = sym same.0 ∙ sym kept.numbers in
      let their_pairs : kept.their_pairs ≡ pairs = sym same.1 ∙ sym kept.kept_pairs in
      record {
        rising = rising;
        rising_pairs = rising_pairs;
        written = kept.written ∙ ap (λ l. certificate_text l kept.their_pairs) numbers ∙ ap (certificate_text dead) their_pairs;
      }

  -- the lists of a certificate's text are kept
  pub text_kept : (others : List ℕ) (them : List Pair) → CertText others them text → are_small others them ≡ true → (dead ≡ others) × (pairs ≡ them)
  text_kept others them certified small =
      let same = text_same kept.theirs others kept.their_pairs them (sym kept.written ∙ certified.written) in
      let unchanged = kept_same others them small in
      (kept.numbers ∙ ap (map bounded) same.0 ∙ unchanged.0, kept.kept_pairs ∙ ap (map bounded_pair) same.1 ∙ unchanged.1)

  pub small_text : (others : List ℕ) (them : List Pair) → CertText others them text → are_small others them ≡ true → are_small dead pairs ≡ false → ⊥
  small_text others them certified small e =
      let same = text_kept others them certified small in
      true≢false (sym small ∙ ap (λ l. are_small l them) (sym same.0) ∙ ap (are_small dead) (sym same.1) ∙ e)

  -- lists that do not rise are no certificate's; the premise is that the numbers are small
  pub falling_text : are_small dead pairs ≡ true → (is_rising nat_lt dead ≡ false) ⊎ (is_rising is_before pairs ≡ false)
      → (others : List ℕ) (them : List Pair) → CertText others them text → ⊥
  falling_text small fall others them certified =
      let same = text_same kept.theirs others kept.their_pairs them (sym kept.written ∙ certified.written) in
      let unchanged = kept_same kept.theirs kept.their_pairs (sym small_alike ∙ small) in
      let numbers : dead ≡ others = kept.numbers ∙ unchanged.0 ∙ same.0 in
      let their_pairs : pairs ≡ them = kept.kept_pairs ∙ unchanged.1 ∙ same.1 in
      elim fall [
        | inl e ↦ true≢false (sym certified.rising ∙ ap (is_rising nat_lt) (sym numbers) ∙ e)
        | inr e ↦ true≢false (sym certified.rising_pairs ∙ ap (is_rising is_before) (sym their_pairs) ∙ e)
      ]
