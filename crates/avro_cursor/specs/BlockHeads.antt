-- The heads of blocks, and what reading one returns (Avro 1.11, "Binary Encoding", "Complex Types").
use Rattle.std.specs.Prelude.{◌≡◌, ◌≢◌, ℕ, ◌+◌, ℤ, pos, neg_ℤ, Bool, true, false, List, ◌++◌, length, Option, Some, None, Result, IfOk, IsOk, IsOkAnd, OnErr}
use Rattle.std.specs.Result.{IfErr, MatchResult}
use Rattle.avro_zigzag.specs.Number.{SpellsLong}
use Rattle.avro_cursor.specs.Fault.{ReadFault, wrong_block_size, behind}
use Rattle.avro_cursor.specs.Breaks.{HeadBreaks, Head, counted, sized, head_bytes, IsHead}
use Rattle.avro_cursor.specs.Seen.{read_fault, Reports}
use Rattle.avro_cursor.specs.CursorValue.{CursorValue, Passes}
use Rattle.avro_cursor.specs.Elements.{Refuses}
use Rattle.avro_cursor.specs.declared.block.Block.{Block}
use Rattle.avro_cursor.specs.declared.error.ReadError.{ReadError}

-- the count of a head as a number: negative if there is a size
abbrev pub signed_count : Bool → ℕ → ℤ
signed_count true n = neg_ℤ (pos n)
signed_count false n = pos n

-- a head, where a number of nodes is left, or the 0 that ends the blocks
abbrev pub IsHeadOrEnd : ℕ → Option Head → List ℕ → Type 0
IsHeadOrEnd nodes (Some head) bytes = IsHead nodes head × (bytes ≡ head_bytes head)
IsHeadOrEnd nodes None bytes = SpellsLong (pos 0) bytes

-- the block is of a head that is at an offset
abbrev pub IsBlock : ℕ → Head → Block → Type 0
IsBlock offset (counted count count_bytes) block = (block.count ≡ count) × (block.size ≡ None)
IsBlock offset (sized count size count_bytes size_bytes) block =
    (block.count ≡ count)
    × (block.size ≡ Some (record { bytes = size; offset = offset + length count_bytes; items = offset + length count_bytes + length size_bytes }))

-- that, or the end of the blocks
abbrev pub IsBlockOrEnd : ℕ → Option Head → Option Block → Type 0
IsBlockOrEnd offset (Some head) (Some block) = IsBlock offset head block
IsBlockOrEnd offset (Some head) None = ⊥
IsBlockOrEnd offset None (Some block) = ⊥
IsBlockOrEnd offset None None = Unit {0}

-- A call that reads a head or the end, as one that reads an element.
pub record ReadsHead (before after : CursorValue) (result : Result (Option Block) ReadError) : Type 0 where
  pub found : IfOk result (λ r. (head : Option Head) × (front : List ℕ) × IsHeadOrEnd before.nodes head front × Passes before front after × IsBlockOrEnd before.offset head r)
  pub stands : (head : Option Head) (front rest : List ℕ) → IsHeadOrEnd before.nodes head front → before.bytes ≡ front ++ rest
      → IsOkAnd result (λ r. IsBlockOrEnd before.offset head r) × Passes before front after
  pub refused : IfErr result (Refuses (HeadBreaks before.nodes) before)
  pub breaks : (f : ReadFault) → HeadBreaks before.nodes before.bytes f → Reports result (behind before.offset f)
  pub unchanged : OnErr result (after ≡ before)

-- The end of a block whose head is at an offset and whose items are a number of bytes: it is refused where its size is
-- another.
abbrev pub EndsBlock : {A : Type 0} → ℕ → Head → ℕ → Result A ReadError → Type 0
EndsBlock offset (counted count count_bytes) n result = IsOk result
EndsBlock offset (sized count size count_bytes size_bytes) n result =
    MatchResult result (λ _. size ≡ n) (λ e. (size ≢ n) × (read_fault e ≡ Some (behind offset (wrong_block_size (length count_bytes)))))
