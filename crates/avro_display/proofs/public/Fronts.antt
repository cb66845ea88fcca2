-- What was put where a text goes out in pieces and a step fails: a prefix of what was to be put.
use Rattle.std.proofs.Common.{◌≡◌, ℕ, List, ◌++◌, Result, Ok, Err, sym, ap, subst, ◌∙◌, append_assoc}
use Rattle.std.specs.Prelude.{OnErr}
use Rattle.avro_device.specs.PutFront.{PutsFrontOf}
use Rattle.avro_display.specs.Pieces.{PutsText}

-- what holds anyway
pub on_any_err : {A E P : Type 0} → P → (r : Result A E) → OnErr r P
on_any_err h (Ok a) = tt
on_any_err h (Err e) = h

module _ {O : Type 0} (keeps : O → List ℕ → O → Type 0) where
  -- a prefix of a prefix
  pub fronts_longer : (s t : O) (held first second : List ℕ) → PutsFrontOf keeps s t (held ++ first) → PutsFrontOf keeps s t (held ++ (first ++ second))
  fronts_longer s t held first second f = record {
    front = f.front;
    later = f.later ++ second;
    kept = f.kept;
    split = sym (append_assoc held first second) ∙ ap (λ b. b ++ second) f.split ∙ append_assoc f.front f.later second;
  }

  -- what was appended before is held
  pub fronts_opened : (s t : O) (held front rest text : List ℕ) → text ≡ held ++ front → PutsFrontOf keeps s t (text ++ rest) → PutsFrontOf keeps s t (held ++ (front ++ rest))
  fronts_opened s t held front rest text has f = subst (λ b. PutsFrontOf keeps s t b) (ap (λ b. b ++ rest) has ∙ append_assoc held front rest) f

  -- nothing was put after a part
  pub fronts_held : (s t : O) (held whole left : List ℕ) → PutsText keeps s held whole t left → PutsFrontOf keeps s t (held ++ whole)
  fronts_held s t held whole left (put, kept, all) = record { front = put; later = left; kept = kept; split = all }

  module _ (chain : (s t u : O) (front back : List ℕ) → keeps s front t → keeps t back u → keeps s (front ++ back) u) where
    -- all of what is left was to be put, and a prefix was
    pub fronts_last : (s t u : O) (held whole left : List ℕ) → PutsText keeps s held whole t left → PutsFrontOf keeps t u left → PutsFrontOf keeps s u (held ++ whole)
    fronts_last s t u held whole left (put, kept, all) f = record {
      front = put ++ f.front;
      later = f.later;
      kept = chain s t u put f.front kept f.kept;
      split = all ∙ ap (λ b. put ++ b) f.split ∙ sym (append_assoc put f.front f.later);
    }

    -- of what is left, some was held, and a prefix of that and of the next part was put
    pub fronts_more : (s t u : O) (held whole left text part rest : List ℕ) → left ≡ text ++ (part ++ rest) → PutsText keeps s held whole t left
        → PutsFrontOf keeps t u (text ++ part) → PutsFrontOf keeps s u (held ++ whole)
    fronts_more s t u held whole left text part rest is had f =
        fronts_last s t u held whole left had (subst (λ b. PutsFrontOf keeps t u b) (sym is) (fronts_longer t u text part rest f))

    -- the second of two parts
    pub fronts_both : (s t u : O) (held first text second : List ℕ) → PutsText keeps s held first t text → PutsFrontOf keeps t u (text ++ second)
        → PutsFrontOf keeps s u (held ++ (first ++ second))
    fronts_both s t u held first text second (put, kept, all) f = fronts_last s t u held (first ++ second) (text ++ second)
        (put, kept, sym (append_assoc held first second) ∙ ap (λ b. b ++ second) all ∙ append_assoc put text second) f
