-- Where the bytes of a part of an encoding stand, while data are read into an output, and how many are kept.
use Rattle.std.specs.Prelude.{◌≡◌, ℕ, ◌<◌, ◌≤◌, List, [], ◌++◌, length, max, Bool, true, false, Option, None, Some, pos}
use Rattle.avro_zigzag.specs.Number.{number_bytes}
use Rattle.avro_schema.specs.Value.{Value}
use Rattle.avro_schema.specs.Seen.{values_from, entries_from}
use Rattle.avro_cursor.specs.Encoding.{plain_values, plain_entries}
use Rattle.avro_binary.specs.Outputs.{Grows, StandsAt}
use Rattle.avro_packed.specs.declared.gathered.Gathered.{Gathered}
use Rattle.avro_packed.specs.declared.written.Written.{Written}

-- an output, and how many bytes of it are kept at most
pub record Output : Type 0 where
  pub bytes : List ℕ
  pub most : ℕ

-- what an output had stays, and it gets no longer than its limit
abbrev pub Keeps : Output → Output → Type 0
Keeps before after =
    (after.most ≡ before.most) × Grows before.bytes after.bytes × (length after.bytes ≤ max before.most (length before.bytes))

-- what was written is these bytes, in the output or in a buffer of their own, or this many bytes
abbrev pub Holds : List ℕ → Written → List ℕ → Type 0
Holds out (Written.Range start end) bytes = StandsAt out start end bytes
Holds out (Written.Apart buffer) bytes = bytes ≡ buffer.items
Holds out (Written.Counted count) bytes = count ≡ length bytes

-- bytes were appended to an output that is then no longer than `most`, or they would make it longer, and it is
-- unchanged
abbrev pub AppendsWithin : ℕ → List ℕ → List ℕ → List ℕ → Bool → Type 0
AppendsWithin most before after bytes true = (after ≡ before ++ bytes) × (length after ≤ most)
AppendsWithin most before after bytes false = (after ≡ before) × (most < length (before ++ bytes))

-- the index of the branch that a value goes into, if there is one
abbrev pub branch_bytes : Option ℕ → List ℕ
branch_bytes None = []
branch_bytes (Some k) = number_bytes (pos k)

-- this many items, whose plain encodings were written one after another
abbrev pub AreItems : List ℕ → Gathered → List Value → Type 0
AreItems out items vs = (items.count ≡ length vs) × Holds out items.written (plain_values (values_from vs))

-- this many entries, whose plain encodings were written one after another
abbrev pub AreEntries : List ℕ → Gathered → List (List ℕ × Value) → Type 0
AreEntries out entries es = (entries.count ≡ length es) × Holds out entries.written (plain_entries (entries_from es))
