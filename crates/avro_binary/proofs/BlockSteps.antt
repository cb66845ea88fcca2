-- A call that reads the blocks of an array or a map: the blocks so far, one more, and one that breaks.
use Rattle.std.proofs.Common.{◌≡◌, ℕ, ◌+◌, ◌<◌, pos, List, [], ◌++◌, length, Result, Ok, Err, Option, Some, None, refl, sym, ap, ◌∙◌, subst, append_assoc, arith}
use Rattle.std.specs.List.{concat}
use Rattle.avro_zigzag.specs.Number.{SpellsLong}
use Rattle.avro_cursor.specs.Blocks.{IsInBlocks}
use Rattle.avro_cursor.specs.Fault.{ReadFault, wrong_block_size, behind}
use Rattle.avro_cursor.specs.Breaks.{HeadBreaks, BlocksBreak, head_breaks, item_fails, size_differs, later_breaks, Head, counted, sized, head_count, head_bytes, IsHead, HasSize, Left}
use Rattle.avro_cursor.specs.BlockHeads.{IsHeadOrEnd, IsBlock, IsBlockOrEnd, EndsBlock}
use Rattle.avro_cursor.specs.CursorValue.{CursorValue, Passes}
use Rattle.avro_binary.specs.CursorReads.{Moves, ReportsFault, left_at, FindsRun, RunBreaks}
use Rattle.avro_cursor.specs.Elements.{Refuses}
use Rattle.avro_cursor.specs.declared.block.Block.{Block}
use Rattle.avro_cursor.specs.declared.error.ReadError.{ReadError}
use Rattle.avro_cursor.proofs.public.Behind.{behind-none, behind-append}
use Rattle.avro_binary.proofs.RunLaws.{Kind}
use Rattle.avro_binary.proofs.RunSteps.{moves-none, moves-passed, moves-join, report_moved}
use Rattle.avro_binary.proofs.public.Blocks.{block_first}

-- ---- Heads

-- the head of a block that was read
pub record HeadRead (before after : CursorValue) (block : Block) : Type 0 where
  pub head : Head
  pub is_head : IsHead before.nodes head
  pub passes : Passes before (head_bytes head) after
  pub is_block : IsBlock before.offset head block
  pub counted : block.count ≡ head_count head

-- a head counts something
pub some-head : (left : ℕ) (head : Head) → IsHead left head → 0 < head_count head
some-head left (counted count count_bytes) is = is.0
some-head left (sized count size count_bytes size_bytes) is = is.0

block-count : (offset : ℕ) (head : Head) (block : Block) → IsBlock offset head block → block.count ≡ head_count head
block-count offset (counted count count_bytes) block is = is.0
block-count offset (sized count size count_bytes size_bytes) block is = is.0

pub head_read : (before after : CursorValue) (block : Block)
    → (head : Option Head) × (front : List ℕ) × IsHeadOrEnd before.nodes head front × Passes before front after × IsBlockOrEnd before.offset head (Some block)
    → HeadRead before after block
head_read before after block (Some head, front, is, passes, answer) = record {
  head = head;
  is_head = is.0;
  passes = subst (λ (bytes : List ℕ). Passes before bytes after) is.1 passes;
  is_block = answer;
  counted = block-count before.offset head block answer;
}
head_read before after block (None, front, is, passes, answer) = absurd answer

-- the end that was read
pub record EndRead (before after : CursorValue) : Type 0 where
  pub front : List ℕ
  pub spelled : SpellsLong (pos 0) front
  pub passes : Passes before front after

pub end_read : (before after : CursorValue)
    → (head : Option Head) × (front : List ℕ) × IsHeadOrEnd before.nodes head front × Passes before front after × IsBlockOrEnd before.offset head None
    → EndRead before after
end_read before after (Some head, front, is, passes, answer) = absurd answer
end_read before after (None, front, is, passes, answer) = record { front = front; spelled = is; passes = passes }

abbrev ended : {A : Type 0} → A → Result A ReadError
ended x = Ok x

abbrev pub as_error : (A : Type 0) → ReadError → Result A ReadError
as_error A e = Err e

pub has_size : {A : Type 0} (x : A) (offset : ℕ) (head : Head) (n : ℕ) → EndsBlock offset head n (ended x) → HasSize head n
has_size x offset (counted count count_bytes) n ends = tt
has_size x offset (sized count size count_bytes size_bytes) n ends = ends

-- ---- The blocks so far

pub record BlocksDone {E : Type 0} (kind : Kind E) (start now : CursorValue) (keys : List (List ℕ)) (xs : List E) : Type 0 where
  pub items : List (List ℕ)
  pub front : List ℕ
  pub stand : kind.run (left_at start []) xs items (left_at now keys)
  pub moves : Moves start front now
  -- what ends the blocks after them ends them all, and what breaks them does
  pub ends : (later : List (List ℕ)) (bytes : List ℕ) → IsInBlocks later bytes → IsInBlocks (items ++ later) (front ++ bytes)
  pub breaks : (f : ReadFault) → BlocksBreak kind.are_whole kind.item_breaks (left_at now keys) now.bytes f
      → BlocksBreak kind.are_whole kind.item_breaks (left_at start []) start.bytes (behind (length front) f)

-- no blocks
pub blocks_none : {E : Type 0} (kind : Kind E) (at : CursorValue) → kind.ready (left_at at []) → BlocksDone kind at at [] []
blocks_none kind at h = record {
  items = [];
  front = [];
  stand = kind.laws.none (left_at at []) h;
  moves = moves-none at;
  ends = λ later bytes b. b;
  breaks = λ f b. subst (λ (g : ReadFault). BlocksBreak kind.are_whole kind.item_breaks (left_at at []) at.bytes g) (behind-none f) b;
}

module _ {E : Type 0} {kind : Kind E} {start now : CursorValue} {keys : List (List ℕ)} {xs : List E} (done : BlocksDone kind start now keys xs) where
  -- how the blocks break, of which these are done
  abbrev AllBreak : List ℕ → ReadFault → Type 0
  AllBreak = BlocksBreak kind.are_whole kind.item_breaks (left_at start [])

  abbrev RestBreaks : List ℕ → ReadFault → Type 0
  RestBreaks = BlocksBreak kind.are_whole kind.item_breaks (left_at now keys)

  -- a head breaks
  pub head_refused : (e : ReadError) → Refuses (HeadBreaks now.nodes) now e → ReportsFault AllBreak start e
  head_refused e refused =
      report_moved start now done.front e (HeadBreaks now.nodes) AllBreak done.moves (λ f h. done.breaks f (head_breaks h)) (rw (refused.2) (refused.0, refused.1, refl))

  module _ {mid : CursorValue} {block : Block} (head : HeadRead now mid block) where
    -- the limits of the items are those of the node
    pub depth_kept : start.depth ≡ mid.depth
    depth_kept = sym (head.passes.depth ∙ done.moves.depth)

    pub blob_kept : start.blob ≡ mid.blob
    blob_kept = sym (head.passes.blob ∙ done.moves.blob)

    -- what a run after the head is of
    run_behind : (ys : List E) (items : List (List ℕ)) (left : Left) → kind.run (left_at mid keys) ys items left → kind.run (left_at now keys) ys items left
    run_behind ys items left r = subst (λ (n : ℕ). kind.run (record { nodes = n; keys = keys }) ys items left) head.passes.nodes r

    whole_behind : (ys : List E) (items : List (List ℕ)) (left : Left) → kind.run (left_at mid keys) ys items left → kind.are_whole (left_at now keys) (length ys) (concat items) left
    whole_behind ys items left r = kind.laws.whole (left_at now keys) left ys items (run_behind ys items left r)

    split_behind : (front rest : List ℕ) → mid.bytes ≡ front ++ rest → now.bytes ≡ head_bytes head.head ++ front ++ rest
    split_behind front rest e = head.passes.split ∙ ap (λ (k : List ℕ). head_bytes head.head ++ k) e ∙ sym (append_assoc (head_bytes head.head) front rest)

    -- an item of the block breaks
    pub item_refused : (count : ℕ) (e : ReadError) → count ≡ block.count → ReportsFault (RunBreaks kind.run kind.item_breaks (left_at mid keys) count) mid e
        → ReportsFault AllBreak start e
    item_refused count e same_count reported =
        report_moved start now done.front e RestBreaks AllBreak done.moves done.breaks
        (report_moved now mid (head_bytes head.head) e (RunBreaks kind.run kind.item_breaks (left_at mid keys) count) RestBreaks
        (moves-passed now mid (head_bytes head.head) head.passes)
        (λ f r.
        item_fails head.head (length r.xs) (concat r.items) r.then_left head.is_head (let few = r.few in let same = head.counted in omega arith)
        (whole_behind r.xs r.items r.then_left r.stand) (record {
          rest = r.next.rest;
          fault = r.next.fault;
          split = split_behind (concat r.items) r.next.rest r.next.split;
          breaks = r.next.breaks;
          moved = ap (behind (length (head_bytes head.head))) r.next.moved ∙ sym (behind-append (head_bytes head.head) (concat r.items) r.next.fault);
        })) reported)

    module _ {after : CursorValue} {then_keys : List (List ℕ)} {ys : List E} (found : FindsRun kind.run mid after keys then_keys ys) (counted_is : length ys ≡ block.count) where
      whole : kind.are_whole (left_at now keys) (head_count head.head) (concat found.items) (left_at after then_keys)
      whole =
          subst (λ (n : ℕ). kind.are_whole (left_at now keys) n (concat found.items) (left_at after then_keys)) (counted_is ∙ head.counted)
          (whole_behind ys found.items (left_at after then_keys) found.stand)

      -- the offset after the items
      pub offset_is : after.offset ≡ now.offset + length (head_bytes head.head) + length (concat found.items)
      offset_is = let p = head.passes.offset in let q = found.moves.offset in omega arith

      -- fewer nodes are left after the block
      pub block_smaller : after.nodes < now.nodes
      block_smaller =
          let few = kind.laws.few (left_at mid keys) (left_at after then_keys) ys found.items found.stand in
          let same = head.passes.nodes in
          let some = some-head now.nodes head.head head.is_head in
          let k = head.counted in
          omega arith

      -- one more block
      pub blocks_push : HasSize head.head (length (concat found.items)) → BlocksDone kind start after then_keys (xs ++ ys)
      blocks_push has =
          let part : List ℕ = head_bytes head.head ++ concat found.items in
          let split = split_behind (concat found.items) after.bytes found.moves.split in
          record {
            items = done.items ++ found.items;
            front = done.front ++ part;
            stand = kind.laws.joins (left_at start []) (left_at now keys) (left_at after then_keys) xs ys done.items found.items done.stand
                (run_behind ys found.items (left_at after then_keys) found.stand);
            moves = moves-join start now after done.front part done.moves
                (moves-join now mid after (head_bytes head.head) (concat found.items) (moves-passed now mid (head_bytes head.head) head.passes) found.moves);
            ends = λ later bytes b.
                let counted_items : length found.items ≡ head_count head.head = kind.laws.counted (left_at mid keys) (left_at after then_keys) ys found.items found.stand ∙ (counted_is ∙ head.counted) in
                let one = done.ends (found.items ++ later) (part ++ bytes) (block_first now.nodes head.head found.items later bytes head.is_head counted_items has b) in
                subst (λ (q : List ℕ). IsInBlocks (done.items ++ found.items ++ later) q) (sym (append_assoc done.front part bytes))
                (subst (λ (is : List (List ℕ)). IsInBlocks is (done.front ++ (part ++ bytes))) (sym (append_assoc done.items found.items later)) one);
            breaks = λ f b.
                let one = later_breaks head.head (concat found.items) after.bytes (left_at after then_keys) f head.is_head whole has split b refl in
                subst (λ (g : ReadFault). BlocksBreak kind.are_whole kind.item_breaks (left_at start []) start.bytes g) (sym (behind-append done.front part f))
                (done.breaks (behind (length part) f) one);
          }

      -- the size of the block is another
      pub size_refused : (A : Type 0) (e : ReadError) → EndsBlock now.offset head.head (length (concat found.items)) (as_error A e) → ReportsFault AllBreak start e
      size_refused A e ends = report_moved start now done.front e RestBreaks AllBreak done.moves
          done.breaks (size-differs A e head.head head.is_head whole (split_behind (concat found.items) after.bytes found.moves.split) ends)
        where
          size-differs : (B : Type 0) (error : ReadError) (h : Head) → IsHead now.nodes h → kind.are_whole (left_at now keys) (head_count h) (concat found.items) (left_at after then_keys)
              → now.bytes ≡ head_bytes h ++ concat found.items ++ after.bytes → EndsBlock now.offset h (length (concat found.items)) (as_error B error)
              → ReportsFault RestBreaks now error
          size-differs B error (counted count count_bytes) is w split ended_so = absurd cc
          size-differs B error (sized count size count_bytes size_bytes) is w split ended_so =
              rw (ended_so.1) (
                wrong_block_size (length count_bytes),
                size_differs count size count_bytes size_bytes (concat found.items) after.bytes (left_at after then_keys) is w split ended_so.0,
                refl,
              )
