-- A block stands whole.
use Rattle.std.proofs.Common.{◌≡◌, ℕ, pos, ◌+◌, ◌<◌, ◌≤◌, List, ◌++◌, length, take, drop, Some, refl, sym, ap, subst, ◌∙◌, arith, append_assoc, length-append}
use Rattle.std.proofs.lemmas.List.{drop-drop, length-drop, length-take-le}
use Rattle.std.proofs.Math.Seq.{take-add, take-append-add}
use Rattle.std.proofs.lemmas.Option.{same_Some}
use Rattle.avro_cursor.specs.Breaks.{StartsWithLong}
use Rattle.avro_file.specs.FileFault.{FileFault, in_block, limit_passed}
use Rattle.avro_file.specs.BlockFails.{FileLimitValues, BlockBegins, BlockFails, max_blocks}
use Rattle.avro_file.specs.BlockStands.{BlockStands, IsBlockFault}

-- the count, the size, the data and the marker, of bytes that go on
pub block_stands : (new : List ℕ) (limits : FileLimitValues) (sync : List ℕ) (count size start : ℕ) → start ≤ length new
    → BlockBegins new count size (drop start new) → count ≤ limits.per_block → size ≤ limits.block → start + size + 16 ≤ length new
    → take 16 (drop (start + size) new) ≡ sync
    → BlockStands limits sync count (take size (drop start new)) (take (start + size + 16) new)
block_stands new limits sync count size start inside begins few short there marker =
    let heads = begins.count_bytes ++ begins.size_bytes in
    let rest = drop start new in
    let body = take size rest in
    let left = length-drop start new in
    let long : length body ≡ size = length-take-le size rest (omega (arith, left, there)) in
    let whole : new ≡ heads ++ rest = begins.counted.split ∙ ap (λ r. begins.count_bytes ++ r) begins.sized.split
    ∙ sym (append_assoc begins.count_bytes begins.size_bytes rest) in
    let sum : length new ≡ length heads + length rest = ap length whole ∙ length-append heads rest in
    let at : start + size + 16 ≡ length heads + (size + 16) = omega (arith, sum, left, inside) in
    let tail : take (size + 16) rest ≡ body ++ sync = take-add size 16 rest ∙ ap (λ m. body ++ m) (ap (take 16) (drop-drop size start new) ∙ marker) in
    record {
      begins = record {
        count_bytes = begins.count_bytes;
        behind_count = begins.size_bytes ++ (body ++ sync);
        size_bytes = begins.size_bytes;
        counted = record {
          spelled = begins.counted.spelled;
          in_range = begins.counted.in_range;
          split = ap (λ k. take k new) at ∙ ap (take (length heads + (size + 16))) whole ∙ take-append-add heads rest (size + 16)
              ∙ ap (λ t. heads ++ t) tail ∙ append_assoc begins.count_bytes begins.size_bytes (body ++ sync);
        };
        sized = subst (λ n. StartsWithLong (pos n) (begins.size_bytes ++ (body ++ sync)) begins.size_bytes (body ++ sync)) (sym long)
            (record { spelled = begins.sized.spelled; in_range = begins.sized.in_range; split = refl });
      };
      few = few;
      short = subst (λ n. n ≤ limits.block) (sym long) short;
    }

-- too many blocks
pub too_many : (new : List ℕ) (limits : FileLimitValues) (sync : List ℕ) (number : ℕ) (ended : Type 0) (f : FileFault) → max_blocks ≤ number → 0 < length new
    → Some (in_block number limit_passed) ≡ Some f → IsBlockFault limits sync number ended new f
too_many new limits sync number ended f many some is = λ r _ _. (limit_passed, sym (same_Some _ _ is), BlockFails.too_many_blocks many some)
