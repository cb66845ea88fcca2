-- What the bytes of blocks begin with: a head and the items of its block, or the end.
use Rattle.std.proofs.Common.{◌≡◌, ℕ, ◌+◌, ◌≤◌, List, [], ◌++◌, length, Option, Some, None, refl, sym, ap, ◌∙◌, subst, append_assoc, append-nil, length-append, arith}
use Rattle.std.specs.List.{concat}
use Rattle.avro_cursor.specs.Blocks.{IsInBlocks, no_more, counted, sized}
use Rattle.avro_cursor.specs.Breaks.{Head, head_count, head_bytes, IsHead, HasSize}
use Rattle.avro_cursor.specs.BlockHeads.{IsHeadOrEnd}
use Rattle.avro_cursor.proofs.public.Fronts.{same_behind}
use Rattle.avro_cursor.proofs.public.HeadLaws.{head_part}

-- what is after a head, or after the end
abbrev BehindHead : Option Head → List (List ℕ) → List ℕ → Type 0
BehindHead None items rest = (items ≡ []) × (rest ≡ [])
BehindHead (Some head) items rest =
    (block later : List (List ℕ)) × (more : List ℕ) × (items ≡ block ++ later) × (length block ≡ head_count head) × (rest ≡ concat block ++ more)
    × IsInBlocks later more × HasSize head (length (concat block))

-- the head at the front of blocks, or the end
pub record FirstHead (items : List (List ℕ)) (front : List ℕ) : Type 0 where
  pub head : Option Head
  pub number : List ℕ
  pub rest : List ℕ
  pub stands : IsHeadOrEnd (length items) head number
  pub split : front ≡ number ++ rest
  pub behind : BehindHead head items rest

pub first_head : (items : List (List ℕ)) (front : List ℕ) → IsInBlocks items front → FirstHead items front
first_head _ front (no_more s) = record { head = None; number = front; rest = []; stands = s; split = sym (append-nil front); behind = (refl, refl) }
first_head items front (counted block later count rest e some few s split blocks) = record {
  head = Some (Head.counted (length block) count);
  number = count;
  rest = concat block ++ rest;
  stands = ((some, few, omega (arith, ap length e, length-append block later), s), refl);
  split = split ∙ append_assoc count (concat block) rest;
  behind = (block, later, rest, e, refl, refl, blocks, tt);
}
first_head items front (sized block later count size rest e some few short s t split blocks) = record {
  head = Some (Head.sized (length block) (length (concat block)) count size);
  number = count ++ size;
  rest = concat block ++ rest;
  stands = ((some, few, omega (arith, ap length e, length-append block later), short, s, t), refl);
  split = split ∙ append_assoc (count ++ size) (concat block) rest;
  behind = (block, later, rest, e, refl, refl, blocks, refl);
}

-- so where more nodes are left
pub head-among : (m n : ℕ) (head : Option Head) (bytes : List ℕ) → m ≤ n → IsHeadOrEnd m head bytes → IsHeadOrEnd n head bytes
head-among m n None bytes l is = is
head-among m n (Some (Head.counted count number)) bytes l is = let few = is.0.2 in ((is.0.0, is.0.1, omega arith, is.0.3), is.1)
head-among m n (Some (Head.sized count size number more)) bytes l is = let few = is.0.2 in ((is.0.0, is.0.1, omega arith, is.0.3, is.0.4, is.0.5), is.1)

-- a head at the front of blocks is theirs
pub head_at : (left : ℕ) (head : Option Head) (number : List ℕ) (items : List (List ℕ)) (front x y : List ℕ) → IsHeadOrEnd left head number → IsInBlocks items front
    → front ++ y ≡ number ++ x → (rest : List ℕ) × (front ≡ number ++ rest) × (x ≡ rest ++ y) × BehindHead head items rest
head_at left head number items front x y is blocks e =
    let first = first_head items front blocks in
    let all = left + length items in
    let joined : number ++ x ≡ first.number ++ (first.rest ++ y) = sym e ∙ ap (λ (f : List ℕ). f ++ y) first.split ∙ append_assoc first.number first.rest y in
    let same = (head_part all).one head first.head number first.number x (first.rest ++ y) (head-among left all head number (omega arith) is)
    (head-among (length items) all first.head first.number (omega arith) first.stands) joined in (
      first.rest,
      first.split ∙ ap (λ (f : List ℕ). f ++ first.rest) (sym same.0),
      same_behind number first.number x (first.rest ++ y) same.0 joined,
      subst (λ (h : Option Head). BehindHead h items first.rest) (sym same.1) first.behind,
    )

-- the block after a head
pub record FirstBlock (head : Head) (items : List (List ℕ)) (front x y : List ℕ) : Type 0 where
  pub block : List (List ℕ)
  pub later : List (List ℕ)
  pub rest : List ℕ
  pub front_is : front ≡ head_bytes head ++ (concat block ++ rest)
  pub items_are : items ≡ block ++ later
  pub counted : length block ≡ head_count head
  pub split : x ≡ concat block ++ (rest ++ y)
  pub blocks : IsInBlocks later rest
  pub has_size : HasSize head (length (concat block))

pub first_block : (left : ℕ) (head : Head) (items : List (List ℕ)) (front x y : List ℕ) → IsHead left head → IsInBlocks items front
    → front ++ y ≡ head_bytes head ++ x → FirstBlock head items front x y
first_block left head items front x y is blocks e =
    let at = head_at left (Some head) (head_bytes head) items front x y (is, refl) blocks e in
    let rest = at.3.2 in
    record {
      block = at.3.0;
      later = at.3.1;
      rest = rest;
      front_is = at.1 ∙ ap (λ (f : List ℕ). head_bytes head ++ f) at.3.5;
      items_are = at.3.3;
      counted = at.3.4;
      split = at.2 ∙ ap (λ (f : List ℕ). f ++ y) at.3.5 ∙ append_assoc (concat at.3.0) rest y;
      blocks = at.3.6;
      has_size = at.3.7;
    }
