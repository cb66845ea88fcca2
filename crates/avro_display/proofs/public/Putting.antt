-- Text that goes out in pieces, one part after another.
use Rattle.std.proofs.Common.{◌≡◌, ℕ, List, [], ◌++◌, Result, Ok, Err, refl, sym, ap, ◌∙◌, append_assoc}
use Rattle.std.specs.Prelude.{OnOk}
use Rattle.avro_display.specs.Pieces.{PutsText}

pub on_ok : {A E P Q : Type 0} → (P → Q) → (r : Result A E) → OnOk r P → OnOk r Q
on_ok f (Ok a) h = f h
on_ok f (Err e) h = tt

module _ {O : Type 0} (keeps : O → List ℕ → O → Type 0) where
  -- nothing is put yet
  pub puts_none : (none : (s : O) → keeps s [] s) (s : O) (held bytes : List ℕ) → PutsText keeps s held bytes s (held ++ bytes)
  puts_none none s held bytes = ([], none s, refl)

  -- what was appended before is held
  pub puts_opened : (s t : O) (held front rest text left : List ℕ) → text ≡ held ++ front → PutsText keeps s text rest t left → PutsText keeps s held (front ++ rest) t left
  puts_opened s t held front rest text left has (put, kept, is) = (put, kept, sym (append_assoc held front rest) ∙ ap (λ b. b ++ rest) (sym has) ∙ is)

  module _ (chain : (s t u : O) (front back : List ℕ) → keeps s front t → keeps t back u → keeps s (front ++ back) u) where
    -- of what is left, some is held now, and the next part is put then
    pub puts_more : (s t u : O) (held whole left text part then rest : List ℕ) → left ≡ text ++ (part ++ rest) → PutsText keeps s held whole t left
        → PutsText keeps t text part u then → PutsText keeps s held whole u (then ++ rest)
    puts_more s t u held whole left text part then rest is (put, kept, all) (more, later, cut) = (
      put ++ more,
      chain s t u put more kept later,
      all ∙ ap (λ l. put ++ l) (is ∙ sym (append_assoc text part rest) ∙ ap (λ l. l ++ rest) cut ∙ append_assoc more then rest)
          ∙ sym (append_assoc put more (then ++ rest)),
    )

    -- the last part
    pub puts_last : (s t u : O) (held whole left text part then : List ℕ) → left ≡ text ++ part → PutsText keeps s held whole t left
        → PutsText keeps t text part u then → PutsText keeps s held whole u then
    puts_last s t u held whole left text part then is (put, kept, all) (more, later, cut) =
        (put ++ more, chain s t u put more kept later, all ∙ ap (λ l. put ++ l) (is ∙ cut) ∙ sym (append_assoc put more then))

    -- two parts
    pub puts_both : (s t u : O) (held first text second then : List ℕ) → PutsText keeps s held first t text → PutsText keeps t text second u then
        → PutsText keeps s held (first ++ second) u then
    puts_both s t u held first text second then (put, kept, all) (more, later, cut) = (
      put ++ more,
      chain s t u put more kept later,
      sym (append_assoc held first second) ∙ ap (λ b. b ++ second) all ∙ append_assoc put text second ∙ ap (λ b. put ++ b) cut ∙ sym (append_assoc put more then),
    )
