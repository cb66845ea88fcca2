-- What is at the front of bytes that are cut into blocks.
use Rattle.std.proofs.Common.{◌≡◌, ℕ, List, [], ◌∷◌, ◌++◌, length, None, refl, sym, ap, ◌∙◌, subst, append_assoc, append-nil, arith}
use Rattle.std.specs.List.{concat}
use Rattle.avro_cursor.specs.Blocks.{IsInBlocks, no_more, counted, sized}
use Rattle.avro_cursor.specs.Breaks.{Head}
use Rattle.avro_binary.proofs.BlockViews.{head_at, first_block}
use Rattle.avro_cursor.proofs.public.Fronts.{joined_three, same_behind}

-- each item
abbrev pub Each : (List ℕ → Type 0) → List (List ℕ) → Type 0
Each P [] = Unit {0}
Each P (item ∷ items) = P item × Each P items

pub Each-parts : (P : List ℕ → Type 0) (a b : List (List ℕ)) → Each P (a ++ b) → Each P a × Each P b
Each-parts P [] b h = (tt, h)
Each-parts P (item ∷ a) b h = let rest = Each-parts P a b h.1 in ((h.0, rest.0), rest.1)

-- no other item begins bytes that this one begins
abbrev pub IsAlone : (List ℕ → Type 0) → List ℕ → Type 0
IsAlone P item = (other x y : List ℕ) → P other → item ++ x ≡ other ++ y → item ≡ other

-- as many items at the front are the same
pub same_run : (P : List ℕ → Type 0) (block other : List (List ℕ)) (x y : List ℕ) → Each (IsAlone P) block → Each P other → length block ≡ length other
    → concat block ++ x ≡ concat other ++ y → (block ≡ other) × (x ≡ y)
same_run P [] [] x y alone are l e = (refl, e)
same_run P [] (j ∷ other) x y alone are l e = absurd (omega arith)
same_run P (i ∷ block) [] x y alone are l e = absurd (omega arith)
same_run P (i ∷ block) (j ∷ other) x y alone are l e =
    let joined : i ++ (concat block ++ x) ≡ j ++ (concat other ++ y) = sym (append_assoc i (concat block) x) ∙ e ∙ append_assoc j (concat other) y in
    let same : i ≡ j = alone.0 j (concat block ++ x) (concat other ++ y) are.0 joined in
    let rest = same_run P block other x y alone.1 are.1 (omega arith) (same_behind i j (concat block ++ x) (concat other ++ y) same joined) in
    (cc, rest.1)

-- bytes that are cut into blocks tell where they end, and which items they hold
pub same_blocks : (P : List ℕ → Type 0) (items others : List (List ℕ)) (a b x y : List ℕ) → Each (IsAlone P) items → Each P others
    → IsInBlocks items a → IsInBlocks others b → a ++ x ≡ b ++ y → (items ≡ others) × (a ≡ b)
same_blocks P _ others a b x y alone are (no_more s) blocks' e =
    let end = head_at 0 None a others b x y s blocks' (sym e) in
    (sym end.3.0, sym (end.1 ∙ ap (λ (f : List ℕ). a ++ f) end.3.1 ∙ append-nil a))
same_blocks P items others a b x y alone are (counted block later count rest e' some few s split blocks) blocks' e =
    let first = first_block (length block) (Head.counted (length block) count) others b (concat block ++ (rest ++ x)) y (some, few, omega arith, s) blocks'
    (sym e ∙ ap (λ (f : List ℕ). f ++ x) split ∙ joined_three count (concat block) rest x) in
    let left = Each-parts (IsAlone P) block later (subst (Each (IsAlone P)) e' alone) in
    let right = Each-parts P first.block first.later (subst (Each P) first.items_are are) in
    let run = same_run P block first.block (rest ++ x) (first.rest ++ y) left.0 right.0 (sym first.counted) first.split in
    let after = same_blocks P later first.later rest first.rest x y left.1 right.1 blocks first.blocks run.1 in
    let items_are = first.items_are in
    let front_is = first.front_is in
    let joined = append_assoc count (concat block) rest in
    (cc, cc)
same_blocks P items others a b x y alone are (sized block later count size rest e' some few short s t split blocks) blocks' e =
    let first = first_block (length block) (Head.sized (length block) (length (concat block)) count size) others b (concat block ++ (rest ++ x)) y
    (some, few, omega arith, short, s, t) blocks' (sym e ∙ ap (λ (f : List ℕ). f ++ x) split ∙ joined_three (count ++ size) (concat block) rest x) in
    let left = Each-parts (IsAlone P) block later (subst (Each (IsAlone P)) e' alone) in
    let right = Each-parts P first.block first.later (subst (Each P) first.items_are are) in
    let run = same_run P block first.block (rest ++ x) (first.rest ++ y) left.0 right.0 (sym first.counted) first.split in
    let after = same_blocks P later first.later rest first.rest x y left.1 right.1 blocks first.blocks run.1 in
    let items_are = first.items_are in
    let front_is = first.front_is in
    let joined = append_assoc (count ++ size) (concat block) rest in
    (cc, cc)
