-- The data of a block after its count and its size.
use Rattle.std.proofs.Common.{◌≡◌, ℕ, ◌+◌, ◌<◌, ◌≤◌, List, ◌++◌, length, take, drop, Some, refl, sym, ap, subst, ◌∙◌, arith, append_assoc}
use Rattle.std.proofs.lemmas.List.{drop-drop, length-drop}
use Rattle.std.proofs.lemmas.Option.{same_Some, none-some}
use Rattle.avro_file.specs.declared.input.PartError.{PartError}
use Rattle.avro_file.specs.FileFault.{FileFault, in_block, cut_block, other_marker}
use Rattle.avro_file.specs.FileSeen.{part_fault}
use Rattle.avro_file.specs.Filled.{GrowsBy, UnlessDevice}
use Rattle.avro_file.specs.BlockFails.{FileLimitValues, BlockBegins, BlockFails, max_blocks}
use Rattle.avro_file.specs.BlockStands.{IsBlockFault}
use Rattle.avro_file.proofs.Cut.{grown-behind}

-- a count and a size still stand at the front
pub begins-grown : {I : Type 0} (gives : I → List ℕ → I → Type 0) (a b : I) (old new : List ℕ) (count size start : ℕ) → GrowsBy gives a b old new
    → start ≤ length old → BlockBegins old count size (drop start old) → BlockBegins new count size (drop start new)
begins-grown gives a b old new count size start p inside begins =
    let behind = grown-behind gives a b old new start p inside in
    record {
      count_bytes = begins.count_bytes;
      behind_count = begins.behind_count ++ p.bytes;
      size_bytes = begins.size_bytes;
      counted = record {
        spelled = begins.counted.spelled;
        in_range = begins.counted.in_range;
        split = p.grown ∙ ap (λ bytes. bytes ++ p.bytes) begins.counted.split ∙ append_assoc begins.count_bytes begins.behind_count p.bytes;
      };
      sized = record {
        spelled = begins.sized.spelled;
        in_range = begins.sized.in_range;
        split = ap (λ bytes. bytes ++ p.bytes) begins.sized.split ∙ append_assoc begins.size_bytes (drop start old) p.bytes
            ∙ ap (λ bytes. begins.size_bytes ++ bytes) (sym behind);
      };
    }

-- data that are not taken
pub body_stops : {I : Type 0} (gives : I → List ℕ → I → Type 0) (a b : I) (old new : List ℕ) (limits : FileLimitValues) (sync : List ℕ) (number : ℕ) (ended : Type 0)
    (count size start : ℕ) (e : PartError) (f : FileFault) → number < max_blocks → start ≤ length old → BlockBegins old count size (drop start old)
    → count ≤ limits.per_block → size ≤ limits.block → (e ≡ PartError.OutOfRange → ⊥) → (e ≡ PartError.Limit → ⊥) → (e ≡ PartError.Ended → ended)
    → (e ≡ PartError.Ended → length new < start + size + 16) → UnlessDevice e (GrowsBy gives a b old new) → part_fault number e ≡ Some f
    → IsBlockFault limits sync number ended new f
body_stops gives a b old new limits sync number ended count size start PartError.OutOfRange f few inside begins counted sized out over told short grown is = absurd (out refl)
body_stops gives a b old new limits sync number ended count size start PartError.Limit f few inside begins counted sized out over told short grown is = absurd (over refl)
body_stops gives a b old new limits sync number ended count size start PartError.Ended f few inside begins counted sized out over told short grown is = λ r same _. (
  cut_block,
  sym (same_Some _ _ is),
  BlockFails.cut count size (drop start new) few (begins-grown gives a b old new count size start grown inside begins)
      (subst (λ l. count ≤ l.per_block) (sym same) counted) (subst (λ l. size ≤ l.block) (sym same) sized)
      (omega (arith, short refl, length-drop start new)) (told refl),
)
body_stops gives a b old new limits sync number ended count size start PartError.Device f few inside begins counted sized out over told short grown is = absurd (none-some f is)
body_stops gives a b old new limits sync number ended count size start PartError.OutOfMemory f few inside begins counted sized out over told short grown is = absurd (none-some f is)

-- another marker after them
pub marker_fails : (new : List ℕ) (limits : FileLimitValues) (sync : List ℕ) (number : ℕ) (ended : Type 0) (count size start : ℕ) (f : FileFault)
    → number < max_blocks → BlockBegins new count size (drop start new) → count ≤ limits.per_block → size ≤ limits.block
    → start + size + 16 ≤ length new → (take 16 (drop (start + size) new) ≡ sync → ⊥) → Some (in_block number other_marker) ≡ Some f
    → IsBlockFault limits sync number ended new f
marker_fails new limits sync number ended count size start f few begins counted sized there other is = λ r same same_sync. (
  other_marker,
  sym (same_Some _ _ is),
  BlockFails.marker_differs count size (drop start new) few begins
      (subst (λ l. count ≤ l.per_block) (sym same) counted) (subst (λ l. size ≤ l.block) (sym same) sized)
      (omega (arith, there, length-drop start new))
      (λ p. other (ap (take 16) (sym (drop-drop size start new)) ∙ p ∙ same_sync)),
)
