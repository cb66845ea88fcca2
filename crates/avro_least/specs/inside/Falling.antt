-- Tables whose entries fall, and a queue of those that have fallen.
use Rattle.std.specs.Prelude.{◌≡◌, ℕ, ◌+◌, ◌*◌, cond, List, Option, slice_get}
use Rattle.std.specs.BinaryHeap.{heap_len}
use Rattle.std.proofs.Math.ListN.{set}
use Rattle.avro_least.specs.SeenLeast.{seen, given_entry, improves, weights}
use Rattle.avro_least.specs.declared.kept.Least.{Least as KeptLeast}
use Rattle.avro_least.specs.declared.queue.Search.{Search}

-- the entries, with another at an index where that is better
abbrev pub lowered : List (Option KeptLeast) → ℕ → Option KeptLeast → List (Option KeptLeast)
lowered es i found = cond (improves (seen found) (given_entry (slice_get es i))) (set es i found) es

-- falls with each entry that is taken from the queue, also where entries fall after it
abbrev pub effort : Search → ℕ
effort s = 2 * weights s.entries.items + heap_len s.queue

-- no entry is in the queue
abbrev pub IsQuiet : Search → Type 0
IsQuiet s = heap_len s.queue ≡ 0
