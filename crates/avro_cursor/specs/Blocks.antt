-- The blocks of an array or a map (Avro 1.11, "Binary Encoding", "Complex Types").
use Rattle.std.specs.Prelude.{◌≡◌, ℕ, ◌^◌, ◌<◌, pos, neg_ℤ, List, [], ◌++◌, length}
use Rattle.std.specs.List.{concat}
use Rattle.avro_zigzag.specs.Number.{SpellsLong}

-- The items, each as its bytes, are divided into nonempty blocks, and the number 0 ends them. A block is its count and
-- its items; or its count negated, the exact number of its items' bytes, and its items.
pub data IsInBlocks : List (List ℕ) → List ℕ → Type 0 where
  no_more : {bytes : List ℕ} → SpellsLong (pos 0) bytes → IsInBlocks [] bytes
  counted : {items : List (List ℕ)} {bytes : List ℕ} (block later : List (List ℕ)) (count rest : List ℕ)
      → items ≡ block ++ later → 0 < length block → length block < 2 ^ 63
      → SpellsLong (pos (length block)) count
      → bytes ≡ count ++ concat block ++ rest → IsInBlocks later rest → IsInBlocks items bytes
  sized : {items : List (List ℕ)} {bytes : List ℕ} (block later : List (List ℕ)) (count size rest : List ℕ)
      → items ≡ block ++ later → 0 < length block → length block < 2 ^ 63 → length (concat block) < 2 ^ 63
      → SpellsLong (neg_ℤ (pos (length block))) count → SpellsLong (pos (length (concat block))) size
      → bytes ≡ count ++ size ++ concat block ++ rest → IsInBlocks later rest → IsInBlocks items bytes
