-- A block whose data are packed.
use Rattle.std.proofs.Common.{◌≡◌, ℕ, pos, ◌+◌, ◌<◌, ◌≤◌, List, ◌++◌, length, take, drop, refl, sym, ap, subst, ◌∙◌, arith, append_assoc, length-append}
use Rattle.std.proofs.lemmas.List.{take-append-drop, take_at, drop_at}
use Rattle.avro_cursor.specs.Elements.{IsLong}
use Rattle.avro_file.specs.BlockFails.{FileLimitValues, BlockFails, DataFail, max_blocks}
use Rattle.avro_file.specs.BlockStands.{BlockStands}
use Rattle.avro_file.specs.Copied.{Job}
use Rattle.avro_container.specs.inside.DataPacked.{IsCopyFault, PacksBlock, PacksData}
use Rattle.avro_file.specs.DataRead.{IsDataFault}
use Rattle.avro_file.specs.File.{HeaderValue}
use Rattle.avro_file.specs.FileFault.{FileFault}
use Rattle.avro_container.specs.Steps.{reading_of}

-- the block with what is made of it
pub block_packed : (job : Job) (limits : FileLimitValues) (h : HeaderValue) (count : ℕ) (body bytes packed : List ℕ) → length h.sync ≡ 16
    → BlockStands limits h.sync count body bytes → PacksData (reading_of job limits h) count body packed → PacksBlock job limits h count bytes packed
block_packed job limits h count body bytes packed marker stands packs =
    let whole = packs.whole in
    let begins = stands.begins in
    let split : bytes ≡ begins.count_bytes ++ (begins.size_bytes ++ (body ++ h.sync)) =
    begins.counted.split ∙ ap (λ rest. begins.count_bytes ++ rest) begins.sized.split in
    record {
      values = whole.values;
      made = packs.made;
      is_block = record {
        is_block = record {
          items = whole.items;
          fitting = whole.fitting;
          spelled = whole.spelled;
          count = begins.count_bytes;
          size = begins.size_bytes;
          counted = subst (λ n. IsLong (pos n) begins.count_bytes) (sym whole.counted) (begins.counted.in_range, begins.counted.spelled);
          sized = subst (λ b. IsLong (pos (length b)) begins.size_bytes) whole.bytes_are (begins.sized.in_range, begins.sized.spelled);
          split = split ∙ ap (λ b. begins.count_bytes ++ (begins.size_bytes ++ (b ++ h.sync))) whole.bytes_are;
        };
        few = subst (λ n. n ≤ limits.per_block) (sym whole.counted) stands.few;
        short = subst (λ b. length b ≤ limits.block) whole.bytes_are stands.short;
        data_within = whole.within;
      };
      counted = whole.counted;
      resolved = whole.resolved;
      packed_are = packs.packed_are;
      small = whole.small refl;
    }

-- a fault of the data is one of the block, with bytes after it
pub packing_fails : (job : Job) (limits : FileLimitValues) (h : HeaderValue) (number : ℕ) (ended : Type 0) (count n : ℕ) (body new : List ℕ) (f : FileFault)
    → length h.sync ≡ 16 → number < max_blocks → BlockStands limits h.sync count body (take n new)
    → IsDataFault (reading_of job limits h) number count body f → IsCopyFault job limits h number ended new f
packing_fails job limits h number ended count n body new f marker few stands fault =
    let begins = stands.begins in
    let behind = drop n new in
    let rest = (body ++ h.sync) ++ behind in
    let same : rest ≡ body ++ (h.sync ++ behind) = append_assoc body h.sync behind in
    let all : new ≡ begins.count_bytes ++ (begins.behind_count ++ behind) =
    sym (take-append-drop n new) ∙ ap (λ b. b ++ behind) begins.counted.split ∙ append_assoc begins.count_bytes begins.behind_count behind in
    let next : begins.behind_count ++ behind ≡ begins.size_bytes ++ rest =
    ap (λ b. b ++ behind) begins.sized.split ∙ append_assoc begins.size_bytes (body ++ h.sync) behind in
    let front : take (length body) rest ≡ body = ap (take (length body)) same ∙ take_at body (h.sync ++ behind) (length body) refl in
    let back : drop (length body) rest ≡ h.sync ++ behind = ap (drop (length body)) same ∙ drop_at body (h.sync ++ behind) (length body) refl in
    let marked : take 16 (drop (length body) rest) ≡ h.sync = ap (take 16) back ∙ take_at h.sync behind 16 marker in
    let long : length rest ≡ length body + (length h.sync + length behind) =
    ap length same ∙ length-append body (h.sync ++ behind) ∙ ap (λ k. length body + k) (length-append h.sync behind) in (
      fault.0,
      fault.1,
      BlockFails.data_fail count (length body) rest few
          (record {
            count_bytes = begins.count_bytes;
            behind_count = begins.behind_count ++ behind;
            size_bytes = begins.size_bytes;
            counted = record { spelled = begins.counted.spelled; in_range = begins.counted.in_range; split = all };
            sized = record { spelled = begins.sized.spelled; in_range = begins.sized.in_range; split = next };
          })
          stands.few stands.short (omega (arith, long, marker)) marked
          (subst (λ b. DataFail (reading_of job limits h) count b fault.0) (sym front) fault.2),
    )
