-- Blocks have at most one fault.
use Rattle.std.proofs.Common.{◌≡◌, ◌⊎◌, inl, inr, ℕ, ◌<◌, List, ◌++◌, length, Some, refl, sym, ap, ◌∙◌, subst, append_assoc, arith}
use Rattle.std.proofs.lemmas.Bool.{cases_lt}
use Rattle.std.proofs.lemmas.List.{append_cancel_left}
use Rattle.avro_cursor.specs.Fault.{ReadFault, wrong_block_size, behind}
use Rattle.avro_cursor.specs.Breaks.{Left, BreaksAfter, Head, counted, sized, head_count, head_bytes, IsHead, HasSize, HeadBreaks, BlocksBreak}
use Rattle.avro_cursor.proofs.public.Fronts.{same_behind}
use Rattle.avro_cursor.proofs.public.HeadLaws.{head_part}
use Rattle.avro_cursor.proofs.public.Behind.{same_moved}

-- whole items and one that breaks tell each other
pub record ItemsOne (are_whole : Left → ℕ → List ℕ → Left → Type 0) (item_breaks : Left → List ℕ → ReadFault → Type 0) : Type 0 where
  pub one : (left : Left) (bytes : List ℕ) (f g : ReadFault) → item_breaks left bytes f → item_breaks left bytes g → f ≡ g
  pub same : (left : Left) (count : ℕ) (a b x y : List ℕ) (then_left after_left : Left) → are_whole left count a then_left → are_whole left count b after_left
      → a ++ x ≡ b ++ y → (a ≡ b) × (then_left ≡ after_left)
  pub none : (left : Left) (done count : ℕ) (a b x y : List ℕ) (then_left after_left : Left) (f : ReadFault) → done < count → are_whole left done a then_left
      → are_whole left count b after_left → a ++ x ≡ b ++ y → item_breaks then_left x f → ⊥

-- the fault of a size that is another
abbrev size_fault : Head → ReadFault
size_fault (counted count count_bytes) = wrong_block_size (length count_bytes)
size_fault (sized count size count_bytes size_bytes) = wrong_block_size (length count_bytes)

-- what breaks behind a head that stands; `Later` is said of the blocks that follow
pub data BehindHead (are_whole : Left → ℕ → List ℕ → Left → Type 0) (item_breaks : Left → List ℕ → ReadFault → Type 0) (Later : Left → List ℕ → ReadFault → Type 0) (left : Left) (head : Head) (bytes : List ℕ) (f : ReadFault) : Type 0 where
  fails : (done : ℕ) (front : List ℕ) (then_left : Left) → done < head_count head → are_whole left done front then_left
      → BreaksAfter (item_breaks then_left) (head_bytes head ++ front) bytes f → BehindHead are_whole item_breaks Later left head bytes f
  differs : (front rest : List ℕ) (then_left : Left) → are_whole left (head_count head) front then_left → bytes ≡ head_bytes head ++ front ++ rest
      → (HasSize head (length front) → ⊥) → f ≡ size_fault head → BehindHead are_whole item_breaks Later left head bytes f
  later : (front rest : List ℕ) (then_left : Left) (fault : ReadFault) → are_whole left (head_count head) front then_left → HasSize head (length front)
      → bytes ≡ head_bytes head ++ front ++ rest → Later then_left rest fault → f ≡ behind (length (head_bytes head ++ front)) fault
      → BehindHead are_whole item_breaks Later left head bytes f

-- the first head breaks, or it stands and what is behind it breaks
abbrev BlocksView : (Left → ℕ → List ℕ → Left → Type 0) → (Left → List ℕ → ReadFault → Type 0) → (Left → List ℕ → ReadFault → Type 0) → Left → List ℕ → ReadFault → Type 0
BlocksView are_whole item_breaks Later left bytes f =
    HeadBreaks left.nodes bytes f
    ⊎ ((head : Head) × (rest : List ℕ) × IsHead left.nodes head × (bytes ≡ head_bytes head ++ rest) × BehindHead are_whole item_breaks Later left head bytes f)

-- one of two numbers is the smaller, or they are the same
pub compared : (m n : ℕ) → (m < n) ⊎ (n < m) ⊎ (m ≡ n)
compared m n = elim (cases_lt m n) [
  | inl below ↦ inl below
  | inr from ↦ elim (cases_lt n m) [ inl above ↦ inr (inl above) | inr to ↦ inr (inr (omega arith)) ]
]

same_head : (h k : Head) → Some h ≡ Some k → h ≡ k
same_head h k e = cc

-- after a head the same follows
cancelled : (h a b x y bytes : List ℕ) → bytes ≡ h ++ a ++ x → bytes ≡ h ++ b ++ y → a ++ x ≡ b ++ y
cancelled h a b x y bytes e k = append_cancel_left h (a ++ x) (b ++ y) (sym (append_assoc h a x) ∙ sym e ∙ k ∙ append_assoc h b y)

module _ (are_whole : Left → ℕ → List ℕ → Left → Type 0) (item_breaks : Left → List ℕ → ReadFault → Type 0) (kind : ItemsOne are_whole item_breaks) where
  abbrev Blocks : Left → List ℕ → ReadFault → Type 0
  Blocks = BlocksBreak are_whole item_breaks

  abbrev View : (Left → List ℕ → ReadFault → Type 0) → Left → List ℕ → ReadFault → Type 0
  View = BlocksView are_whole item_breaks

  -- no other fault breaks the blocks
  abbrev IsOne : Left → List ℕ → ReadFault → Type 0
  IsOne left bytes f = (g : ReadFault) → Blocks left bytes g → f ≡ g

  fails_one : (left then_left after_left : Left) (done count : ℕ) (h a b bytes : List ℕ) (f g : ReadFault) → are_whole left done a then_left → are_whole left count b after_left
      → BreaksAfter (item_breaks then_left) (h ++ a) bytes f → BreaksAfter (item_breaks after_left) (h ++ b) bytes g → (done < count) ⊎ (count < done) ⊎ (done ≡ count) → f ≡ g
  fails_one left then_left after_left done count h a b bytes f g are is x y (inl below) =
      absurd (kind.none left done count a b x.rest y.rest then_left after_left x.fault below are is (cancelled h a b x.rest y.rest bytes x.split y.split) x.breaks)
  fails_one left then_left after_left done count h a b bytes f g are is x y (inr (inl above)) =
      absurd (kind.none left count done b a y.rest x.rest after_left then_left y.fault above is are (cancelled h b a y.rest x.rest bytes y.split x.split) y.breaks)
  fails_one left then_left after_left done count h a b bytes f g are is x y (inr (inr equal)) =
      let split = cancelled h a b x.rest y.rest bytes x.split y.split in
      let same = kind.same left count a b x.rest y.rest then_left after_left (subst (λ (n : ℕ). are_whole left n a then_left) equal are) is split in
      let rests = same_behind a b x.rest y.rest same.0 split in
      let there = subst (λ (s : Left). item_breaks s y.rest x.fault) same.1 (subst (λ (r : List ℕ). item_breaks then_left r x.fault) rests x.breaks) in
      same_moved f g x.fault y.fault (h ++ a) (h ++ b) x.moved y.moved (ap (λ (q : List ℕ). h ++ q) same.0) (kind.one after_left y.rest x.fault y.fault there y.breaks)

  module _ (left : Left) (head : Head) (bytes : List ℕ) where
    -- items that stand as a whole don't break before their end
    fails_none : (done : ℕ) (a b rest : List ℕ) (then_left after_left : Left) (f : ReadFault) → done < head_count head
        → are_whole left done a then_left → BreaksAfter (item_breaks then_left) (head_bytes head ++ a) bytes f → are_whole left (head_count head) b after_left
        → bytes ≡ head_bytes head ++ b ++ rest → ⊥
    fails_none done a b rest then_left after_left f more are x is split =
        kind.none left done (head_count head) a b x.rest rest then_left after_left x.fault more are is (cancelled (head_bytes head) a b x.rest rest bytes x.split split) x.breaks

    -- items of two lengths aren't both whole
    differs_none : (a b x y : List ℕ) (then_left after_left : Left) → are_whole left (head_count head) a then_left → are_whole left (head_count head) b after_left
        → bytes ≡ head_bytes head ++ a ++ x → bytes ≡ head_bytes head ++ b ++ y → (HasSize head (length a) → ⊥) → HasSize head (length b) → ⊥
    differs_none a b x y then_left after_left are is split split' other has =
        let same = kind.same left (head_count head) a b x y then_left after_left are is (cancelled (head_bytes head) a b x y bytes split split') in
        other (subst (λ (q : List ℕ). HasSize head (length q)) (sym same.0) has)

    behind_one : (f g : ReadFault) → BehindHead are_whole item_breaks IsOne left head bytes f → BehindHead are_whole item_breaks Blocks left head bytes g → f ≡ g
    behind_one f g (BehindHead.fails done a then_left more are x) (BehindHead.fails count b after_left less is y) =
        fails_one left then_left after_left done count (head_bytes head) a b bytes f g are is x y (compared done count)
    behind_one f g (BehindHead.fails done a then_left more are x) (BehindHead.differs b rest after_left is split other e) =
        absurd (fails_none done a b rest then_left after_left f more are x is split)
    behind_one f g (BehindHead.fails done a then_left more are x) (BehindHead.later b rest after_left fault is has split blocks moved) =
        absurd (fails_none done a b rest then_left after_left f more are x is split)
    behind_one f g (BehindHead.differs a rest then_left are split other e) (BehindHead.fails done b after_left more is y) =
        absurd (fails_none done b a rest after_left then_left g more is y are split)
    behind_one f g (BehindHead.differs a rest then_left are split other e) (BehindHead.differs b rest' after_left is split' other' k) = e ∙ sym k
    behind_one f g (BehindHead.differs a rest then_left are split other e) (BehindHead.later b rest' after_left fault is has split' blocks moved) =
        absurd (differs_none a b rest rest' then_left after_left are is split split' other has)
    behind_one f g (BehindHead.later a rest then_left fault are has split ones moved) (BehindHead.fails done b after_left more is y) =
        absurd (fails_none done b a rest after_left then_left g more is y are split)
    behind_one f g (BehindHead.later a rest then_left fault are has split ones moved) (BehindHead.differs b rest' after_left is split' other e) =
        absurd (differs_none b a rest' rest after_left then_left is are split' split other has)
    behind_one f g (BehindHead.later a rest then_left fault are has split ones moved) (BehindHead.later b rest' after_left fault' is has' split' blocks moved') =
        let joined = cancelled (head_bytes head) a b rest rest' bytes split split' in
        let same = kind.same left (head_count head) a b rest rest' then_left after_left are is joined in
        let rests = same_behind a b rest rest' same.0 joined in
        let there = subst (λ (s : Left). IsOne s rest' fault) same.1 (subst (λ (r : List ℕ). IsOne then_left r fault) rests ones) in
        same_moved f g fault fault' (head_bytes head ++ a) (head_bytes head ++ b) moved moved' (ap (λ (q : List ℕ). head_bytes head ++ q) same.0) (there fault' blocks)

  views_one : (left : Left) (bytes : List ℕ) (f g : ReadFault) → View IsOne left bytes f → View Blocks left bytes g → f ≡ g
  views_one left bytes f g (inl b) (inl c) = (head_part left.nodes).one_fault bytes f g b c
  views_one left bytes f g (inl b) (inr c) =
      absurd ((head_part left.nodes).excludes (Some c.0) (head_bytes c.0) c.1 f (c.2, refl) (subst (λ (k : List ℕ). HeadBreaks left.nodes k f) c.3 b))
  views_one left bytes f g (inr b) (inl c) =
      absurd ((head_part left.nodes).excludes (Some b.0) (head_bytes b.0) b.1 g (b.2, refl) (subst (λ (k : List ℕ). HeadBreaks left.nodes k g) b.3 c))
  views_one left bytes f g (inr b) (inr c) =
      let heads = (head_part left.nodes).one (Some b.0) (Some c.0) (head_bytes b.0) (head_bytes c.0) b.1 c.1 (b.2, refl) (c.2, refl) (sym b.3 ∙ c.3) in
      behind_one left c.0 bytes f g (subst (λ (h : Head). BehindHead are_whole item_breaks IsOne left h bytes f) (same_head b.0 c.0 heads.1) b.4) c.4

  -- with what is said of the blocks after the first
  view : (Later : Left → List ℕ → ReadFault → Type 0) (left : Left) (head : Head) (bytes front rest : List ℕ) (f : ReadFault) → IsHead left.nodes head
      → bytes ≡ head_bytes head ++ front ++ rest → BehindHead are_whole item_breaks Later left head bytes f → View Later left bytes f
  view Later left head bytes front rest f is split b = inr (head, front ++ rest, is, split ∙ append_assoc (head_bytes head) front rest, b)

  view_of : {left : Left} {bytes : List ℕ} {f : ReadFault} → Blocks left bytes f → View Blocks left bytes f
  view_of (BlocksBreak.head_breaks b) = inl b
  view_of (BlocksBreak.item_fails {left = left} {bytes = bytes} {f = f} head done front then_left is more are after) =
      view Blocks left head bytes front after.rest f is after.split (BehindHead.fails done front then_left more are after)
  view_of (BlocksBreak.size_differs {left = left} {bytes = bytes} count size count_bytes size_bytes front rest then_left is are split other) =
      view Blocks left (sized count size count_bytes size_bytes) bytes front rest (wrong_block_size (length count_bytes)) is split (BehindHead.differs front rest then_left are split other refl)
  view_of (BlocksBreak.later_breaks {left = left} {bytes = bytes} {f = f} head front rest then_left fault is are has split blocks moved) =
      view Blocks left head bytes front rest f is split (BehindHead.later front rest then_left fault are has split blocks moved)

  pub blocks_one : {left : Left} {bytes : List ℕ} {f : ReadFault} → Blocks left bytes f → IsOne left bytes f
  blocks_one (BlocksBreak.head_breaks {left = left} {bytes = bytes} {f = f} b) g c = views_one left bytes f g (inl b) (view_of c)
  blocks_one (BlocksBreak.item_fails {left = left} {bytes = bytes} {f = f} head done front then_left is more are after) g c =
      views_one left bytes f g (view IsOne left head bytes front after.rest f is after.split (BehindHead.fails done front then_left more are after)) (view_of c)
  blocks_one (BlocksBreak.size_differs {left = left} {bytes = bytes} count size count_bytes size_bytes front rest then_left is are split other) g c =
      let fault = wrong_block_size (length count_bytes) in
      views_one left bytes fault g (view IsOne left (sized count size count_bytes size_bytes) bytes front rest fault is split (BehindHead.differs front rest then_left are split other refl)) (view_of c)
  blocks_one (BlocksBreak.later_breaks {left = left} {bytes = bytes} {f = f} head front rest then_left fault is are has split blocks moved) g c =
      views_one left bytes f g (view IsOne left head bytes front rest f is split (BehindHead.later front rest then_left fault are has split (λ h d. blocks_one blocks h d) moved)) (view_of c)
