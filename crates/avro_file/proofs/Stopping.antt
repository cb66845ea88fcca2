-- A count or a size that is not taken, as a fault of its block.
use Rattle.std.proofs.Common.{◌≡◌, ℕ, ℤ, pos, negsuc, ◌<◌, ◌<ℤ◌, List, length, Some, refl, subst, arith}
use Rattle.std.proofs.lemmas.Int.{ints}
use Rattle.std.proofs.lemmas.Option.{same_Some, none-some}
use Rattle.avro_zigzag.specs.NumberFault.{LongFails}
use Rattle.avro_zigzag.specs.declared.VarError.TheVariants.{EndOfInput, OutOfRange}
use Rattle.avro_cursor.specs.Breaks.{StartsWithLong}
use Rattle.avro_file.specs.declared.input.PartError.{PartError}
use Rattle.avro_file.specs.FileFault.{FileFault, in_block, negative, invalid_count, cut_block}
use Rattle.avro_file.specs.FileSeen.{part_fault}
use Rattle.avro_file.specs.BlockFails.{FileLimitValues, CountFails, BlockFails, max_blocks}
use Rattle.avro_file.specs.BlockStands.{CountStops, IsBlockFault}

pub count_stops : (number : ℕ) (ended : Type 0) (bytes : List ℕ) (e : PartError) (f : FileFault)
    → (e ≡ PartError.OutOfRange → LongFails bytes OutOfRange) → (e ≡ PartError.Limit → ⊥) → (e ≡ PartError.Ended → ended)
    → (e ≡ PartError.Ended → LongFails bytes EndOfInput) → part_fault number e ≡ Some f → CountStops number ended bytes f
count_stops number ended bytes PartError.OutOfRange f out over told cut is =
    subst (CountStops number ended bytes) (same_Some _ _ is) (CountStops.fails (CountFails.number_fails OutOfRange (out refl) (λ e. cc)))
count_stops number ended bytes PartError.Limit f out over told cut is = absurd (over refl)
count_stops number ended bytes PartError.Ended f out over told cut is =
    subst (CountStops number ended bytes) (same_Some _ _ is) (CountStops.is_cut (cut refl) (told refl))
count_stops number ended bytes PartError.Device f out over told cut is = absurd (none-some f is)
count_stops number ended bytes PartError.OutOfMemory f out over told cut is = absurd (none-some f is)

pub below_zero : (v : ℤ) → v <ℤ pos 0 → (n : ℕ) × (v ≡ negsuc n)
below_zero v h = grind (arith, ints)

-- a number below 0 is not a count
pub negative_stops : (number : ℕ) (ended : Type 0) (bytes : List ℕ) (v : ℤ) (front rest : List ℕ) (f : FileFault) → v <ℤ pos 0
    → StartsWithLong v bytes front rest → Some (in_block number (invalid_count negative)) ≡ Some f → CountStops number ended bytes f
negative_stops number ended bytes v front rest f below starts is =
    let n = below_zero v below in
    subst (CountStops number ended bytes) (same_Some _ _ is)
    (CountStops.fails (CountFails.is_negative n.0 front rest (subst (λ w. StartsWithLong w bytes front rest) n.1 starts)))

-- the count is the first part of a block, and the size the second
pub count_fault_first : (limits : FileLimitValues) (sync : List ℕ) (number : ℕ) (ended : Type 0) (bytes : List ℕ) (f : FileFault) → number < max_blocks
    → 0 < length bytes → CountStops number ended bytes f → IsBlockFault limits sync number ended bytes f
count_fault_first limits sync number ended bytes _ few some (CountStops.fails {f = g} h) = λ r _ _. (invalid_count g, refl, BlockFails.count_fails few h)
count_fault_first limits sync number ended bytes _ few some (CountStops.is_cut h told) = λ r _ _. (cut_block, refl, BlockFails.count_cut few some h told)

pub size_fault_next : (limits : FileLimitValues) (sync : List ℕ) (number : ℕ) (ended : Type 0) (bytes : List ℕ) (f : FileFault) (n : ℕ) (count rest : List ℕ)
    → number < max_blocks → StartsWithLong (pos n) bytes count rest → CountStops number ended rest f → IsBlockFault limits sync number ended bytes f
size_fault_next limits sync number ended bytes _ n count rest few starts (CountStops.fails {f = g} h) =
    λ r _ _. (invalid_count g, refl, BlockFails.size_fails n count rest few starts h)
size_fault_next limits sync number ended bytes _ n count rest few starts (CountStops.is_cut h told) =
    λ r _ _. (cut_block, refl, BlockFails.size_cut n count rest few starts h told)
