-- Blocks of an array or a map: one before others, and one that was written.
use Rattle.std.proofs.Common.{◌≡◌, ℕ, zero, suc, ◌<◌, pos, List, [], ◌∷◌, ◌++◌, length, refl, sym, subst, append_assoc, arith}
use Rattle.std.specs.Prelude.{neg_ℤ}
use Rattle.std.specs.List.{concat}
use Rattle.avro_zigzag.specs.Number.{SpellsLong, number_bytes}
use Rattle.avro_cursor.specs.Blocks.{IsInBlocks, counted as counted_block, sized as sized_block}
use Rattle.avro_cursor.specs.Breaks.{Head, counted, sized, head_count, head_bytes, IsHead, HasSize}
use Rattle.avro_cursor.specs.Encoding.{plain_blocks}

-- a block before others
pub block_first : (left : ℕ) (head : Head) (block later : List (List ℕ)) (rest : List ℕ) → IsHead left head → length block ≡ head_count head
    → HasSize head (length (concat block)) → IsInBlocks later rest → IsInBlocks (block ++ later) (head_bytes head ++ concat block ++ rest)
block_first left (counted count count_bytes) block later rest is same size blocks =
    let some = is.0 in
    let few = is.1 in
    counted_block block later count_bytes rest refl (omega arith) (omega arith) (subst (λ (n : ℕ). SpellsLong (pos n) count_bytes) (sym same) is.3) refl blocks
block_first left (sized count size count_bytes size_bytes) block later rest is same has blocks =
    let some = is.0 in
    let few = is.1 in
    let short = is.3 in
    sized_block block later count_bytes size_bytes rest refl (omega arith) (omega arith) (let s : size ≡ length (concat block) = has in omega arith)
    (subst (λ (n : ℕ). SpellsLong (neg_ℤ (pos n)) count_bytes) (sym same) is.4) (subst (λ (n : ℕ). SpellsLong (pos n) size_bytes) has is.5) refl blocks

-- a count, the items and the end
pub block-written : (count number : ℕ) (items old : List ℕ) → number ≡ count → 0 < count
    → ((old ++ number_bytes (pos number)) ++ items) ++ 0 ∷ [] ≡ old ++ plain_blocks count items
block-written zero number items old e h = absurd (omega arith)
block-written (suc count) number items old e h = rw e (simp append_assoc)
