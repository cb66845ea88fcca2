-- What is answered of the faults that were found, and of too many pairs.
use Rattle.std.proofs.Common.{◌≡◌, ◌∙◌, ℕ, ◌⊎◌, Bool, true, false, List, [], ◌∷◌, inl, inr, length, refl, sym, ap, arith}
use Rattle.std.proofs.lemmas.Bool.{true≢false, eqb-true}
use Rattle.std.specs.Prelude.{◌==◌, codes}
use Rattle.avro_schema.specs.Node.{Node}
use Rattle.avro_certificate.specs.Compatible.{AreCompatible}
use Rattle.avro_answer.specs.JudgeAnswer.{IsYes}
use Rattle.avro_answer.specs.ExplainAnswer.{AreAllFaults, IsOverPairs, IsOverLimit, FaultsAnswer, FaultsStatus}

-- what the test of a list says of it
pub no_member : {A : Type 0} (xs : List A) (count : ℕ) (test : Bool) → count ≡ length xs → test ≡ (count == 0) → test ≡ true → xs ≡ []
no_member [] count test counted is passed = refl
no_member (x ∷ xs) count test counted is passed = absurd (omega (arith, counted, eqb-true count 0 (sym is ∙ passed)))

pub some_member : {A : Type 0} (xs : List A) (count : ℕ) (test : Bool) → count ≡ length xs → test ≡ (count == 0) → test ≡ false → xs ≡ [] → ⊥
some_member [] count test counted is failed none = true≢false (sym (is ∙ ap (λ (n : ℕ). n == 0) counted) ∙ failed)
some_member (x ∷ xs) count test counted is failed none = absurd (omega (arith, ap length none))

module _ (writer reader : List Node) (limit : ℕ) where
  pub yes_status : (IsOverLimit writer reader limit → ⊥) → AreCompatible writer reader → FaultsStatus writer reader limit 0
  yes_status within compatible = record {
    yes = (λ _. (within, compatible), λ _. refl);
    no = (λ h. absurd (omega (arith, h)), λ h. absurd (h.1 compatible));
    undecided = (λ h. absurd (omega (arith, h)), λ over. absurd (within over));
    known = inl refl;
  }

  pub no_status : (IsOverLimit writer reader limit → ⊥) → (AreCompatible writer reader → ⊥) → FaultsStatus writer reader limit 1
  no_status within faulty = record {
    yes = (λ h. absurd (omega (arith, h)), λ h. absurd (faulty h.1));
    no = (λ _. (within, faulty), λ _. refl);
    undecided = (λ h. absurd (omega (arith, h)), λ over. absurd (within over));
    known = inr (inl refl);
  }

  pub over_status : IsOverLimit writer reader limit → FaultsStatus writer reader limit 2
  over_status over = record {
    yes = (λ h. absurd (omega (arith, h)), λ h. absurd (h.0 over));
    no = (λ h. absurd (omega (arith, h)), λ h. absurd (h.0 over));
    undecided = (λ _. over, λ _. refl);
    known = inr (inr refl);
  }

  -- the text of a yes and that of an undecided go with their statuses
  pub with_texts : (text : List ℕ) (status : ℕ) → FaultsStatus writer reader limit status → (status ≡ 0 → text ≡ codes "yes\n")
      → (status ≡ 2 → text ≡ codes "undecided Pairs\n") → (status ≡ 1 → AreAllFaults writer reader text) → FaultsAnswer writer reader limit text status
  with_texts text status own is_yes is_over all = record {
    yes = (λ h. own.yes.0 h.1, λ h. (is_yes (own.yes.1 h), own.yes.1 h));
    no = own.no;
    faults = all;
    undecided = (λ h. own.undecided.0 h.1, λ h. (is_over (own.undecided.1 h), own.undecided.1 h));
    known = texts_known own.known;
  }
    where
      texts_known : (status ≡ 0) ⊎ (status ≡ 1) ⊎ (status ≡ 2) → IsYes text status ⊎ (status ≡ 1) ⊎ IsOverPairs text status
      texts_known (inl h) = inl (is_yes h, h)
      texts_known (inr (inl h)) = inr (inl h)
      texts_known (inr (inr h)) = inr (inr (is_over h, h))
