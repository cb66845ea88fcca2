-- Blocks one after another, and the whole file.
use Rattle.std.proofs.Common.{◌≡◌, ℕ, ◌+◌, ◌<◌, ◌≤◌, List, [], ◌∷◌, ◌++◌, length, refl, sym, ap, subst, ◌∙◌, arith, append_assoc, append-nil, length-append}
use Rattle.avro_schema.specs.Value.{Values, values_count}
use Rattle.avro_file.specs.BlockFails.{FileLimitValues, max_blocks}
use Rattle.avro_file.specs.File.{HeaderValue}
use Rattle.avro_file.specs.FileFault.{FileFault}
use Rattle.avro_file.specs.HeaderTaken.{TakesHeader, TakesHeaderFault}
use Rattle.avro_container.specs.Steps.{BeginsWith, total_data}
use Rattle.avro_container.specs.Checking.{Takes, IsWhole, IsFaulty}
use Rattle.avro_container.proofs.StepLaws.{AreBlocksWithin-push, IsFile-whole}
use Rattle.avro_container.specs.inside.BlocksChecked.{AreCounted, FailsAfter, IsCounted, IsFaultOf}

abbrev pub Chains : {D : Type 0} → (D → List ℕ → D → Type 0) → Type 0
Chains {D} gives = (s t u : D) (front back : List ℕ) → gives s front t → gives t back u → gives s (front ++ back) u

total-push : (blocks : List Values) (vs : Values) → total_data (blocks ++ vs ∷ []) ≡ total_data blocks + values_count vs
total-push [] vs = omega arith
total-push (block ∷ blocks) vs =
    let more = total-push blocks vs in
    omega (arith, more)

-- no block yet
pub counted-none : {I : Type 0} (gives : I → List ℕ → I → Type 0) → ((s : I) → gives s [] s) → (i : I) (limits : FileLimitValues) (h : HeaderValue)
    → Takes gives i i (AreCounted limits h 0 0)
counted-none gives none i limits h = record {
  taken = [];
  is_taken = none i;
  does = record { blocks = []; are_blocks = refl; few = omega arith; items_are = refl; blocks_are = refl };
}

-- one block more was counted
pub counted-more : {I : Type 0} (gives : I → List ℕ → I → Type 0) → Chains gives → (i0 i i' : I) (limits : FileLimitValues) (h : HeaderValue)
    (items blocks number count : ℕ) → number ≡ blocks → Takes gives i0 i (AreCounted limits h items blocks) → Takes gives i i' (IsCounted limits h number count)
    → Takes gives i0 i' (AreCounted limits h (items + count) (blocks + 1))
counted-more gives chain i0 i i' limits h items blocks number count same before next =
    let done = before.does in
    let more = next.does in
    let longer : length (done.blocks ++ more.values ∷ []) ≡ length done.blocks + 1 = length-append done.blocks (more.values ∷ []) in
    let room = more.few in
    let were = done.blocks_are in
    record {
      taken = before.taken ++ next.taken;
      is_taken = chain i0 i i' before.taken next.taken before.is_taken next.is_taken;
      does = record {
        blocks = done.blocks ++ more.values ∷ [];
        are_blocks = AreBlocksWithin-push limits h done.blocks more.values before.taken next.taken done.are_blocks more.is_block;
        few = omega (arith, longer, were, same, room);
        items_are = total-push done.blocks more.values ∙ ap (λ n. n + values_count more.values) done.items_are ∙ ap (λ n. items + n) more.counted;
        blocks_are = longer ∙ ap (λ n. n + 1) were;
      };
    }

-- the input ended after them
pub counted-end : {I : Type 0} (gives : I → List ℕ → I → Type 0) → Chains gives → (i0 i i' : I) (limits : FileLimitValues) (h : HeaderValue) (items blocks : ℕ)
    → Takes gives i0 i (AreCounted limits h items blocks) → gives i [] i' → Takes gives i0 i' (AreCounted limits h items blocks)
counted-end gives chain i0 i i' limits h items blocks before none = record {
  taken = before.taken;
  is_taken = subst (λ (b : List ℕ). gives i0 b i') (append-nil before.taken) (chain i0 i i' before.taken [] before.is_taken none);
  does = before.does;
}

-- the next one is refused
pub counted-fault : {I : Type 0} (gives : I → List ℕ → I → Type 0) → Chains gives → (i0 i i' : I) (limits : FileLimitValues) (h : HeaderValue)
    (items blocks number : ℕ) (ended : Type 0) (f : FileFault) → number ≡ blocks → Takes gives i0 i (AreCounted limits h items blocks)
    → Takes gives i i' (IsFaultOf limits h number ended f) → Takes gives i0 i' (FailsAfter limits h ended f)
counted-fault gives chain i0 i i' limits h items blocks number ended f same before next = record {
  taken = before.taken ++ next.taken;
  is_taken = chain i0 i i' before.taken next.taken before.is_taken next.is_taken;
  does = record {
    front = before.taken;
    rest = next.taken;
    blocks = before.does.blocks;
    are_blocks = before.does.are_blocks;
    few = before.does.few;
    split = refl;
    fault = subst (λ n. IsFaultOf limits h n ended f next.taken) (same ∙ sym before.does.blocks_are) next.does;
  };
}

-- the header and all blocks are the file
pub whole-file : {I : Type 0} (gives : I → List ℕ → I → Type 0) → Chains gives → (i0 i i' : I) (limits : FileLimitValues) (h : HeaderValue) (ended : Type 0)
    (items blocks : ℕ) → TakesHeader gives i0 i limits.header h → Takes gives i i' (AreCounted limits h items blocks) → ended
    → Takes gives i0 i' (IsWhole limits ended items blocks)
whole-file gives chain i0 i i' limits h ended items blocks head rest over =
    let all = rest.does in
    let within : BeginsWith limits h all.blocks (head.bytes ++ rest.taken) [] = record {
      header_bytes = head.bytes;
      block_bytes = rest.taken;
      is_header = head.stands;
      within = head.within;
      are_blocks = all.are_blocks;
      few = all.few;
      split = sym (append-nil (head.bytes ++ rest.taken));
    } in
    record {
      taken = head.bytes ++ rest.taken;
      is_taken = chain i0 i i' head.bytes rest.taken head.taken rest.is_taken;
      does = record {
        header = h;
        blocks = all.blocks;
        is_file = IsFile-whole limits h all.blocks (head.bytes ++ rest.taken) within;
        within = within;
        items_are = all.items_are;
        blocks_are = all.blocks_are;
        is_end = over;
      };
    }

-- the header is refused
pub header-fault : {I : Type 0} (gives : I → List ℕ → I → Type 0) (ended : I → Type 0) (i i' : I) (limits : FileLimitValues) (f : FileFault)
    → TakesHeaderFault gives ended i i' limits.header f → Takes gives i i' (IsFaulty limits (ended i') f)
header-fault gives ended i i' limits f took = record {
  taken = took.bytes;
  is_taken = took.taken;
  does = subst (λ g. IsFaulty limits (ended i') g took.bytes) (sym took.stands.1) (IsFaulty.of_header took.stands.2);
}

-- a block is refused
pub block-fault : {I : Type 0} (gives : I → List ℕ → I → Type 0) → Chains gives → (i0 i i' : I) (limits : FileLimitValues) (h : HeaderValue) (ended : Type 0)
    (f : FileFault) → TakesHeader gives i0 i limits.header h → Takes gives i i' (FailsAfter limits h ended f)
    → Takes gives i0 i' (IsFaulty limits ended f)
block-fault gives chain i0 i i' limits h ended f head rest =
    let fails = rest.does in
    let begins : BeginsWith limits h fails.blocks (head.bytes ++ rest.taken) fails.rest = record {
      header_bytes = head.bytes;
      block_bytes = fails.front;
      is_header = head.stands;
      within = head.within;
      are_blocks = fails.are_blocks;
      few = fails.few;
      split = ap (λ b. head.bytes ++ b) fails.split ∙ sym (append_assoc head.bytes fails.front fails.rest);
    } in
    record {
      taken = head.bytes ++ rest.taken;
      is_taken = chain i0 i i' head.bytes rest.taken head.taken rest.is_taken;
      does = subst (λ g. IsFaulty limits ended g (head.bytes ++ rest.taken)) (sym fails.fault.1)
          (IsFaulty.of_block h fails.blocks fails.rest begins refl fails.fault.2);
    }
