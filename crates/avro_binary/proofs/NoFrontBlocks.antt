-- Blocks that break begin with no blocks of any items.
use Rattle.std.proofs.Common.{◌≡◌, ℕ, ◌+◌, ◌<◌, ◌≤◌, List, [], ◌∷◌, ◌++◌, length, refl, sym, ap, ◌∙◌, subst, append_assoc, append-nil, length-append, arith}
use Rattle.std.specs.List.{concat}
use Rattle.avro_cursor.specs.Blocks.{IsInBlocks}
use Rattle.avro_cursor.specs.Fault.{ReadFault, invalid_length, limit_exceeded, behind}
use Rattle.avro_cursor.specs.Breaks.{Left, Head, head_bytes, HeadBreaks, BlocksBreak}
use Rattle.avro_binary.proofs.BlockViews.{first_head, head-among, first_block}
use Rattle.avro_cursor.proofs.public.HeadLaws.{head_part}

-- a limit after bytes is a limit
pub behind_limit : (f fault : ReadFault) (n : ℕ) (W : Type 0) → f ≡ behind n fault → (f ≡ limit_exceeded → W) → fault ≡ limit_exceeded → W
behind_limit f fault n W moved limit e = limit (moved ∙ ap (behind n) e)

-- a block is cut where the items of some bytes end
pub record IsCut (Follows : Left → List (List ℕ) → Type 0) (then_left : Left) (done : ℕ) (front : List ℕ) (block later : List (List ℕ)) (x y : List ℕ) : Type 0 where
  pub before : List (List ℕ)
  pub after : List (List ℕ)
  pub parts : block ≡ before ++ after
  pub counted : length before ≡ done
  pub same : front ≡ concat before
  pub split : y ≡ concat after ++ x
  pub follows : Follows then_left (after ++ later)

-- How whole items and one that breaks go with items that follow. A limit that is passed tells W, and W that the items
-- that follow are within limits.
pub record ItemsFollow (W : Type 0) (are_whole : Left → ℕ → List ℕ → Left → Type 0) (item_breaks : Left → List ℕ → ReadFault → Type 0) (Follows : Left → List (List ℕ) → Type 0) : Type 0 where
  pub few : (left : Left) (items : List (List ℕ)) → Follows left items → W → length items ≤ left.nodes
  pub cut : (left then_left : Left) (done : ℕ) (front : List ℕ) (block later : List (List ℕ)) (x y : List ℕ) → are_whole left done front then_left
      → Follows left (block ++ later) → done ≤ length block → front ++ y ≡ concat block ++ x → IsCut Follows then_left done front block later x y
  pub none : (left : Left) (bytes : List ℕ) (f : ReadFault) (item : List ℕ) (items : List (List ℕ)) (rest : List ℕ) → item_breaks left bytes f
      → (f ≡ limit_exceeded → W) → Follows left (item ∷ items) → bytes ≡ item ++ rest → ⊥

-- nothing is left of a block whose items all come before
pub nothing_after : (block before after : List (List ℕ)) → block ≡ before ++ after → length before ≡ length block → after ≡ []
nothing_after block before [] e l = refl
nothing_after block before (item ∷ after) e l = absurd (omega (arith, ap length e, length-append before (item ∷ after)))

module _ (W : Type 0) (are_whole : Left → ℕ → List ℕ → Left → Type 0) (item_breaks : Left → List ℕ → ReadFault → Type 0) (Follows : Left → List (List ℕ) → Type 0) (kind : ItemsFollow W are_whole item_breaks Follows) where
  -- an item follows where not all of a block's items are whole, and so none breaks there
  pub none_after : (left : Left) (done : ℕ) (front rest x : List ℕ) (fault : ReadFault) (block later : List (List ℕ)) (cut : IsCut Follows left done front block later x rest)
      → done < length block → item_breaks left rest fault → (fault ≡ limit_exceeded → W) → ⊥
  none_after left done front rest x fault block later cut more breaks limit = go cut.after cut.parts cut.split cut.follows
    where
      go : (after : List (List ℕ)) → block ≡ cut.before ++ after → rest ≡ concat after ++ x → Follows left (after ++ later) → ⊥
      go [] e split follows = omega (arith, ap length e, length-append cut.before [], cut.counted)
      go (item ∷ after) e split follows =
          kind.none left rest fault item (after ++ later) (concat after ++ x) breaks limit follows (split ∙ append_assoc item (concat after) x)

  -- where all are whole, what follows the block follows
  pub all_whole : (left : Left) (front rest x : List ℕ) (block later : List (List ℕ)) (cut : IsCut Follows left (length block) front block later x rest)
      → (front ≡ concat block) × (rest ≡ x) × Follows left later
  all_whole left front rest x block later cut =
      let empty = nothing_after block cut.before cut.after cut.parts cut.counted in
      let all : block ≡ cut.before = cut.parts ∙ ap (λ (a : List (List ℕ)). cut.before ++ a) empty ∙ append-nil cut.before in (
        cut.same ∙ ap concat (sym all),
        cut.split ∙ ap (λ (a : List (List ℕ)). concat a ++ x) empty,
        subst (λ (a : List (List ℕ)). Follows left (a ++ later)) empty cut.follows,
      )

  -- no head that breaks begins blocks, where as many nodes are left as they have items
  head_apart : (nodes : ℕ) (bytes : List ℕ) (f : ReadFault) → HeadBreaks nodes bytes f → (items : List (List ℕ)) (front y : List ℕ) → IsInBlocks items front
      → bytes ≡ front ++ y → length items ≤ nodes → ⊥
  head_apart nodes bytes f b items front y blocks e few =
      let first = first_head items front blocks in
      let split : bytes ≡ first.number ++ (first.rest ++ y) = e ∙ ap (λ (g : List ℕ). g ++ y) first.split ∙ append_assoc first.number first.rest y in
      (head_part nodes).excludes first.head first.number (first.rest ++ y) f (head-among (length items) nodes first.head first.number few first.stands)
      (subst (λ (k : List ℕ). HeadBreaks nodes k f) split b)

  head_none : (left : Left) (bytes : List ℕ) (f : ReadFault) → HeadBreaks left.nodes bytes f → (f ≡ limit_exceeded → W)
      → (items : List (List ℕ)) (front y : List ℕ) → Follows left items → IsInBlocks items front → bytes ≡ front ++ y → ⊥
  head_none left bytes _ (HeadBreaks.count_over v number rest s not_least many) limit items front y follows blocks e =
      head_apart left.nodes bytes limit_exceeded (HeadBreaks.count_over v number rest s not_least many) items front y blocks e (kind.few left items follows (limit refl))
  head_none left bytes f (HeadBreaks.count_fails b) limit items front y follows blocks e =
      head_apart (length items) bytes f (HeadBreaks.count_fails b) items front y blocks e (omega arith)
  head_none left bytes _ (HeadBreaks.count_least number rest s) limit items front y follows blocks e =
      head_apart (length items) bytes (invalid_length 0) (HeadBreaks.count_least number rest s) items front y blocks e (omega arith)
  head_none left bytes f (HeadBreaks.size_fails n number s few less after) limit items front y follows blocks e =
      head_apart (left.nodes + length items) bytes f (HeadBreaks.size_fails n number s few (omega arith) after) items front y blocks e (omega arith)
  head_none left bytes _ (HeadBreaks.size_negative n m number size behind_count rest s few less split t) limit items front y follows blocks e =
      head_apart (left.nodes + length items) bytes (invalid_length (length number)) (HeadBreaks.size_negative n m number size behind_count rest s few (omega arith) split t) items front y blocks e (omega arith)

  pub blocks_none : {left : Left} {bytes : List ℕ} {f : ReadFault} → BlocksBreak are_whole item_breaks left bytes f → (f ≡ limit_exceeded → W)
      → (items : List (List ℕ)) (front y : List ℕ) → Follows left items → IsInBlocks items front → bytes ≡ front ++ y → ⊥
  blocks_none (BlocksBreak.head_breaks {left = left} {bytes = bytes} {f = f} b) limit items front y follows blocks e =
      head_none left bytes f b limit items front y follows blocks e
  blocks_none (BlocksBreak.item_fails {left = left} {bytes = bytes} {f = f} head done whole then_left is more are after) limit items front y follows blocks e =
      let first = first_block left.nodes head items front (whole ++ after.rest) y is blocks (sym e ∙ after.split ∙ append_assoc (head_bytes head) whole after.rest) in
      let at_block = kind.cut left then_left done whole first.block first.later (first.rest ++ y) after.rest are (subst (Follows left) first.items_are follows)
      (omega (arith, first.counted, more)) first.split in
      none_after then_left done whole after.rest (first.rest ++ y) after.fault first.block first.later at_block (omega (arith, first.counted, more)) after.breaks
      (behind_limit f after.fault (length (head_bytes head ++ whole)) W after.moved limit)
  blocks_none (BlocksBreak.size_differs {left = left} {bytes = bytes} count size count_bytes size_bytes whole rest then_left is are split differs) limit items front y follows blocks e =
      let head = Head.sized count size count_bytes size_bytes in
      let first = first_block left.nodes head items front (whole ++ rest) y is blocks (sym e ∙ split ∙ append_assoc (count_bytes ++ size_bytes) whole rest) in
      let at_block = kind.cut left then_left (length first.block) whole first.block first.later (first.rest ++ y) rest (subst (λ (c : ℕ). are_whole left c whole then_left) (sym first.counted) are)
      (subst (Follows left) first.items_are follows) (omega arith) first.split in
      let all = all_whole then_left whole rest (first.rest ++ y) first.block first.later at_block in
      differs (first.has_size ∙ sym (ap (λ (w : List ℕ). length w) all.0))
  blocks_none (BlocksBreak.later_breaks {left = left} {bytes = bytes} {f = f} head whole rest then_left fault is are has_size split later moved) limit items front y follows blocks e =
      let first = first_block left.nodes head items front (whole ++ rest) y is blocks (sym e ∙ split ∙ append_assoc (head_bytes head) whole rest) in
      let at_block = kind.cut left then_left (length first.block) whole first.block first.later (first.rest ++ y) rest (subst (λ (c : ℕ). are_whole left c whole then_left) (sym first.counted) are)
      (subst (Follows left) first.items_are follows) (omega arith) first.split in
      let all = all_whole then_left whole rest (first.rest ++ y) first.block first.later at_block in
      blocks_none later (behind_limit f fault (length (head_bytes head ++ whole)) W moved limit) first.later first.rest y all.2 first.blocks all.1
