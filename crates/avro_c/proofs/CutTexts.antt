-- The front of a text that was cut for the buffer.
use Rattle.std.proofs.Common.{◌≡◌, ◌∙◌, ℕ, zero, suc, List, [], ◌∷◌, ◌++◌, length, take, drop, refl, ap}
use Rattle.avro_c.specs.Buffer.{IsPut}

take_twice : (n : ℕ) (text : List ℕ) → take n (take n text) ≡ take n text
take_twice zero text = refl
take_twice (suc n) [] = refl
take_twice (suc n) (x ∷ text) = ap (λ rest. x ∷ rest) (take_twice n text)

-- behind what is put there is as much left as there is behind the whole text
drop_cut : (before text : List ℕ) → drop (length (take (length before) text)) before ≡ drop (length text) before
drop_cut [] [] = refl
drop_cut [] (x ∷ text) = refl
drop_cut (b ∷ before) [] = refl
drop_cut (b ∷ before) (x ∷ text) = drop_cut before text

pub cut_put : (text cut before after : List ℕ) (some wanted : ℕ) → cut ≡ take (length before) text → wanted ≡ length text
    → IsPut cut before after some → IsPut text before after wanted
cut_put text cut before after some wanted is whole put = record {
  front = put.front
      ∙ ap (λ (c : List ℕ). take (length before) c ++ drop (length c) before) is
      ∙ ap (λ (t : List ℕ). t ++ drop (length (take (length before) text)) before) (take_twice (length before) text)
      ∙ ap (λ (t : List ℕ). take (length before) text ++ t) (drop_cut before text);
  whole = whole;
}
