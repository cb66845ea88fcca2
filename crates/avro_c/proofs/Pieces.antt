-- A text that is copied piece by piece, the last first.
use Rattle.std.proofs.Common.{◌≡◌, ◌∙◌, ℕ, ◌≤◌, List, ◌++◌, length, take, drop, refl, sym, subst, ap, inl, inr, ◌-◌, arith, append_assoc, eq-zero-or-pos, length-take, take-append-drop}
use Rattle.std.proofs.lemmas.List.{length-take-le, take_all, take-take, take-append-le, drop_all, drop-append-le}
use lib.Seq.{drop-append_seam}

-- so many bytes of a text are still to be copied to the front of some others, and the rest was copied
abbrev pub Copied : List ℕ → List ℕ → List ℕ → ℕ → Type 0
Copied text before now n = now ≡ take n before ++ (drop n text ++ drop (length text) before)

module _ (text before now : List ℕ) (n : ℕ) (within : n ≤ length text) (room : n ≤ length before) (copied : Copied text before now n) where
  -- what stands behind them
  behind : drop n now ≡ drop n text ++ drop (length text) before
  behind = ap (drop n) copied ∙ ap (λ (k : ℕ). drop k (take n before ++ (drop n text ++ drop (length text) before))) (sym (length-take-le n before room))
      ∙ drop-append_seam (take n before) (drop n text ++ drop (length text) before)

  -- one piece more
  pub piece_more : (from : ℕ) (left then : List ℕ) → from ≤ n → left ≡ take n text → then ≡ take from now ++ (drop from left ++ drop (length left) now) → Copied text before then from
  piece_more from left then less is more =
      let long : length left ≡ n = ap length is ∙ length-take-le n text within in
      let front : take from now ≡ take from before =
      ap (take from) copied ∙ take-append-le from (take n before) (drop n text ++ drop (length text) before) (omega (arith, less, length-take-le n before room)) ∙ take-take from n before less in
      let piece : drop from left ++ drop n text ≡ drop from text =
      ap (λ (l : List ℕ). drop from l ++ drop n text) is ∙ sym (drop-append-le from (take n text) (drop n text) (omega (arith, less, length-take-le n text within))) ∙ ap (drop from) (take-append-drop n text) in
      more ∙ rw (long, behind, front, ← piece) (simp append_assoc)

  -- all of them
  pub piece_last : (left then : List ℕ) → left ≡ take n text → then ≡ take (length now) left ++ drop (length left) now → length now ≡ length before → then ≡ text ++ drop (length text) before
  piece_last left then is more same =
      let long : length left ≡ n = ap length is ∙ length-take-le n text within in
      let all : take (length now) left ≡ left = take_all (length now) left (omega (arith, long, same, room)) in
      more ∙ rw (all, long, behind, is, ← append_assoc, take-append-drop n text) refl

-- the front of a text that there was room for
pub front_copied : (whole before then : List ℕ) → then ≡ take (length before) whole ++ drop (length (take (length before) whole)) before → then ≡ take (length before) whole ++ drop (length whole) before
front_copied whole before then is =
    elim (eq-zero-or-pos (length whole - length before)) [
      | inl e ↦ subst (λ (l : List ℕ). then ≡ take (length before) whole ++ drop (length l) before) (take_all (length before) whole (omega (arith, e))) is
      | inr g ↦
          let past : drop (length (take (length before) whole)) before ≡ drop (length whole) before =
          drop_all (length (take (length before) whole)) before (omega (arith, g, length-take (length before) whole)) ∙ sym (drop_all (length whole) before (omega (arith, g))) in
          is ∙ ap (λ (l : List ℕ). take (length before) whole ++ l) past
    ]
