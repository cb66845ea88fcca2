-- The count and the size of a block, after which the buffer may grow.
use Rattle.std.proofs.Common.{◌≡◌, ◌⊎◌, ℕ, ℤ, pos, ◌+◌, ◌<◌, ◌≤◌, List, ◌++◌, length, take, drop, Some, sym, ap, subst, ◌∙◌, arith, append_assoc, length-append}
use Rattle.std.proofs.lemmas.List.{drop-drop}
use Rattle.std.proofs.lemmas.Option.{same_Some}
use Rattle.avro_cursor.specs.Breaks.{StartsWithLong}
use Rattle.avro_file.specs.FileFault.{FileFault, in_block, limit_passed}
use Rattle.avro_file.specs.Filled.{GrowsBy}
use Rattle.avro_file.specs.BlockFails.{FileLimitValues, BlockBegins, BlockFails, max_blocks}
use Rattle.avro_file.specs.BlockStands.{IsBlockFault}
use Rattle.avro_file.proofs.Cut.{grown-behind}

-- a number at the front still stands there
pub starts-grown : {I : Type 0} (gives : I → List ℕ → I → Type 0) (a b : I) (old new : List ℕ) (v : ℤ) (len : ℕ) → GrowsBy gives a b old new
    → len ≤ length old → StartsWithLong v old (take len old) (drop len old) → StartsWithLong v new (take len old) (drop len new)
starts-grown gives a b old new v len p inside s = record {
  spelled = s.spelled;
  in_range = s.in_range;
  split = p.grown ∙ ap (λ bytes. bytes ++ p.bytes) s.split ∙ append_assoc (take len old) (drop len old) p.bytes
      ∙ ap (λ bytes. take len old ++ bytes) (sym (grown-behind gives a b old new len p inside));
}

pub head_begins : {I : Type 0} (gives : I → List ℕ → I → Type 0) (a b : I) (old new : List ℕ) (count size len more : ℕ) → GrowsBy gives a b old new
    → len ≤ length old → StartsWithLong (pos count) old (take len old) (drop len old)
    → StartsWithLong (pos size) (drop len new) (take more (drop len new)) (drop more (drop len new)) → BlockBegins new count size (drop (len + more) new)
head_begins gives a b old new count size len more p inside s z = record {
  count_bytes = take len old;
  behind_count = drop len new;
  size_bytes = take more (drop len new);
  counted = starts-grown gives a b old new (pos count) len p inside s;
  sized = subst (λ rest. StartsWithLong (pos size) (drop len new) (take more (drop len new)) rest) (drop-drop more len new) z;
}

pub grown-longer : {I : Type 0} (gives : I → List ℕ → I → Type 0) (a b : I) (old new : List ℕ) → GrowsBy gives a b old new → length old ≤ length new
grown-longer gives a b old new p = grind (arith, length-append)

-- too many data, or too many bytes of them
pub head_large : (limits : FileLimitValues) (sync : List ℕ) (number : ℕ) (ended : Type 0) (bytes : List ℕ) (f : FileFault) (count size : ℕ) (rest : List ℕ)
    → number < max_blocks → BlockBegins bytes count size rest → (limits.per_block < count) ⊎ (limits.block < size)
    → Some (in_block number limit_passed) ≡ Some f → IsBlockFault limits sync number ended bytes f
head_large limits sync number ended bytes f count size rest few begins large is = λ r same _. (
  limit_passed,
  sym (same_Some _ _ is),
  BlockFails.large count size rest few begins (subst (λ l. (l.per_block < count) ⊎ (l.block < size)) (sym same) large),
)
