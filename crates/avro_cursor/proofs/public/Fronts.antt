-- Bytes that two lists are the front of.
use Rattle.std.proofs.Common.{◌≡◌, ℕ, pos, List, [], ◌∷◌, ◌++◌, length, refl, sym, ap, ◌∙◌, append_assoc, arith}
use Rattle.std.proofs.lemmas.List.{append_cancel_left}

-- fronts of one length
pub same_front : (a b x y : List ℕ) → length a ≡ length b → a ++ x ≡ b ++ y → (a ≡ b) × (x ≡ y)
same_front [] [] x y l e = (refl, e)
same_front [] (d ∷ b) x y l e = absurd (omega arith)
same_front (c ∷ a) [] x y l e = absurd (omega arith)
same_front (c ∷ a) (d ∷ b) x y l e = let tail : a ++ x ≡ b ++ y = cc in let rest = same_front a b x y (omega arith) tail in (cc, rest.1)

-- what follows the same front is the same
pub same_behind : (a b x y : List ℕ) → a ≡ b → a ++ x ≡ b ++ y → x ≡ y
same_behind a b x y same e = append_cancel_left b x y (ap (λ (front : List ℕ). front ++ x) (sym same) ∙ e)

pub joined_three : (a b c x : List ℕ) → a ++ b ++ c ++ x ≡ a ++ (b ++ (c ++ x))
joined_three a b c x = append_assoc (a ++ b) c x ∙ append_assoc a b (c ++ x)

pub same_from_pos : (m n : ℕ) → pos m ≡ pos n → m ≡ n
same_from_pos m n e = cc
