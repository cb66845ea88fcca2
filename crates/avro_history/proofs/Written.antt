-- The texts of the first of several certificates.
use Rattle.std.proofs.Common.{◌≡◌, ℕ, suc, ◌+◌, ◌<◌, true, List, ◌∷◌, ◌++◌, length, get_or, drop, map, flat_map, sym, ap, ◌∙◌, arith, append_assoc, drop-cons}
use Rattle.std.proofs.lemmas.Bool.{and_from}
use Rattle.std.specs.List.{list_all}
use Rattle.avro_certificate.specs.declared.kept.Certificate.{Certificate}
use Rattle.avro_history.specs.HistoryText.{sets_text, do_rise}
use Rattle.avro_history.specs.SeenHistory.{set_of}

-- what stands from an index on
pub from_index : {A : Type 0} (xs : List A) (i : ℕ) (x : A) → i < length xs → x ≡ get_or xs i x → drop i xs ≡ x ∷ drop (i + 1) xs
from_index xs i x below at =
    let next : suc i ≡ i + 1 = omega arith in
    drop-cons xs i x below ∙ ap (λ y. y ∷ drop (suc i) xs) (sym at) ∙ ap (λ j. x ∷ drop j xs) next

module _ (certificates : List Certificate) (i : ℕ) (certificate : Certificate) where
  pub text_more : (before after : List ℕ) → i < length certificates → certificate ≡ get_or certificates i certificate → after ≡ before ++ sets_text (set_of certificate)
      → after ++ flat_map sets_text (map set_of (drop (i + 1) certificates)) ≡ before ++ flat_map sets_text (map set_of (drop i certificates))
  text_more before after below at e =
      ap (λ l. l ++ flat_map sets_text (map set_of (drop (i + 1) certificates))) e
      ∙ append_assoc before (sets_text (set_of certificate)) (flat_map sets_text (map set_of (drop (i + 1) certificates)))
      ∙ ap (λ (l : List Certificate). before ++ flat_map sets_text (map set_of l)) (sym (from_index certificates i certificate below at))

  pub rising_more : i < length certificates → certificate ≡ get_or certificates i certificate → do_rise (set_of certificate) ≡ true
      → list_all do_rise (map set_of (drop (i + 1) certificates)) ≡ true → list_all do_rise (map set_of (drop i certificates)) ≡ true
  rising_more below at rises others =
      ap (λ (l : List Certificate). list_all do_rise (map set_of l)) (from_index certificates i certificate below at)
      ∙ and_from (do_rise (set_of certificate)) (list_all do_rise (map set_of (drop (i + 1) certificates))) rises others
