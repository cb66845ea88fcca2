-- A block whose data were read, and the faults of a block.
use Rattle.std.proofs.Common.{◌≡◌, ℕ, pos, ◌+◌, ◌<◌, ◌≤◌, List, [], ◌++◌, length, take, drop, refl, sym, ap, subst, ◌∙◌, arith, append-nil, length-append}
use Rattle.std.proofs.lemmas.List.{take_at, drop_at}
use Rattle.avro_schema.specs.Value.{Values}
use Rattle.avro_cursor.specs.Elements.{IsLong}
use Rattle.avro_file.specs.BlockFails.{FileLimitValues, BlockFails, DataAreWhole, DataFail, max_blocks}
use Rattle.avro_file.specs.BlockTaken.{TakesBlock, TakesFault}
use Rattle.avro_file.specs.DataRead.{IsDataFault}
use Rattle.avro_file.specs.File.{HeaderValue}
use Rattle.avro_file.specs.FileFault.{FileFault}
use Rattle.avro_container.specs.Checking.{Takes, reading_in}
use Rattle.avro_container.specs.inside.BlocksChecked.{IsCounted, IsFaultOf}

-- the block with its data
pub block_counted : {I : Type 0} (gives : I → List ℕ → I → Type 0) (i i' : I) (limits : FileLimitValues) (h : HeaderValue) (number count : ℕ) (body : List ℕ)
    → number < max_blocks → TakesBlock gives i i' limits h.sync count body → (values : Values) × DataAreWhole (reading_in limits h) count body values
    → Takes gives i i' (IsCounted limits h number count)
block_counted gives i i' limits h number count body room took whole_data =
    let begins = took.stands.begins in
    let whole = whole_data.1 in
    let split : took.bytes ≡ begins.count_bytes ++ (begins.size_bytes ++ (body ++ h.sync)) =
    begins.counted.split ∙ ap (λ rest. begins.count_bytes ++ rest) begins.sized.split in
    record {
      taken = took.bytes;
      is_taken = took.taken;
      does = record {
        values = whole.values;
        is_block = record {
          is_block = record {
            items = whole.items;
            fitting = whole.fitting;
            spelled = whole.spelled;
            count = begins.count_bytes;
            size = begins.size_bytes;
            counted = subst (λ n. IsLong (pos n) begins.count_bytes) (sym whole.counted) (begins.counted.in_range, begins.counted.spelled);
            sized = subst (λ b. IsLong (pos (length b)) begins.size_bytes) whole.bytes_are (begins.sized.in_range, begins.sized.spelled);
            split = split ∙ ap (λ b. begins.count_bytes ++ (begins.size_bytes ++ (b ++ h.sync))) whole.bytes_are;
          };
          few = subst (λ n. n ≤ limits.per_block) (sym whole.counted) took.stands.few;
          short = subst (λ b. length b ≤ limits.block) whole.bytes_are took.stands.short;
          data_within = whole.within;
        };
        counted = whole.counted;
        few = room;
      };
    }

-- a fault of its data is one of the block
pub data_fault : {I : Type 0} (gives : I → List ℕ → I → Type 0) (i i' : I) (limits : FileLimitValues) (h : HeaderValue) (number : ℕ) (ended : Type 0) (count : ℕ)
    (body : List ℕ) (f : FileFault) → length h.sync ≡ 16 → number < max_blocks → TakesBlock gives i i' limits h.sync count body
    → IsDataFault (reading_in limits h) number count body f → Takes gives i i' (IsFaultOf limits h number ended f)
data_fault gives i i' limits h number ended count body f marker room took fault =
    let rest = body ++ h.sync in
    let front : take (length body) rest ≡ body = take_at body h.sync (length body) refl in
    let back : drop (length body) rest ≡ h.sync = drop_at body h.sync (length body) refl in
    let marked : take 16 (drop (length body) rest) ≡ h.sync =
    ap (take 16) (back ∙ sym (append-nil h.sync)) ∙ take_at h.sync [] 16 marker in
    let long : length rest ≡ length body + length h.sync = length-append body h.sync in
    record {
      taken = took.bytes;
      is_taken = took.taken;
      does = (
        fault.0,
        fault.1,
        BlockFails.data_fail count (length body) rest room took.stands.begins took.stands.few took.stands.short
            (omega (arith, long, marker)) marked (subst (λ b. DataFail (reading_in limits h) count b fault.0) (sym front) fault.2),
      );
    }

-- so is one of what stands before them
pub frame_fault : {I : Type 0} (gives : I → List ℕ → I → Type 0) (ended : I → Type 0) (i i' : I) (limits : FileLimitValues) (h : HeaderValue) (number : ℕ) (f : FileFault)
    → TakesFault gives ended i i' limits h.sync number f → Takes gives i i' (IsFaultOf limits h number (ended i') f)
frame_fault gives ended i i' limits h number f took = record {
  taken = took.bytes;
  is_taken = took.taken;
  does = took.stands (reading_in limits h) refl refl;
}
