-- Faults whose paths are kept from their ends, the slots of a record, and parts before others.
use Rattle.std.specs.Prelude.{◌≡◌, ◌<◌, ℕ, List, [], ◌∷◌, ◌++◌, Option, Some, None, reverse, slice_get}
use Rattle.avro_schema.specs.Value.{Value, Values, Entries, value, entry}
use Rattle.avro_schema.specs.Node.{FieldNode}
use Rattle.avro_schema.specs.Seen.{value_of}
use Rattle.avro_schema.specs.declared.datum.Datum.{Datum}
use Rattle.avro_compare.specs.Fields.{IsField}
use Rattle.avro_compare.specs.Fault.{ResolutionFault}
use Rattle.avro_compare.specs.Resolve.{Sourced, sourced_at}
use Rattle.avro_compare.specs.Pairs.{field_for}
use Rattle.avro_compare.specs.Source.{source_of}
use Rattle.avro_compare.specs.declared.comparison.At.TheVariants.{Pair}
use Rattle.avro_schema.specs.declared.schema.NodeId.{NodeId}
use Rattle.avro_compare.specs.Seen.{cause_of}
use Rattle.avro_compare.specs.declared.error.Fault.{Fault}

-- a fault whose path is kept from its end
abbrev pub turned : Fault → ResolutionFault
turned f = record { cause = cause_of f.kind; path = reverse f.path.items }

-- what a slot holds, and null where it holds nothing
abbrev pub Slotted : {O : Type 0} → (O → Value → Type 0) → Option (Option O) → Value → Type 0
Slotted S (Some (Some out)) v = S out v
Slotted S (Some None) v = v ≡ Value.null
Slotted S None v = v ≡ Value.null

-- the slot of each field that a reader's takes holds what was found for its index, as data of the reader's node
abbrev pub SlotsAre : {O : Type 0} → (ℕ → O → Value → Type 0) → List FieldNode → List FieldNode → Sourced → List (Option O) → Type 0
SlotsAre S ws rs found slots = (k : ℕ) (w r : NodeId) → field_for ws rs k ≡ Pair w r → Slotted (S r.0) (slice_get slots k) (sourced_at found k)

-- each slot that is the source of one of some fields holds what was found for it
abbrev pub SlotsFor : {O : Type 0} → (ℕ → O → Value → Type 0) → List FieldNode → List FieldNode → Sourced → List (Option O) → Type 0
SlotsFor S ws rest found slots = (g : FieldNode) → IsField g rest → (k : ℕ) → source_of ws g ≡ Some k → Slotted (S g.node) (slice_get slots k) (sourced_at found k)

-- what a slot holds, if there is one, which is moved from there
abbrev pub slot_out : {O : Type 0} → Option (Option O) → Option O
slot_out (Some held) = held
slot_out None = None

-- a datum that is seen as this value
abbrev pub IsSeen : Datum → Value → Type 0
IsSeen d v = value_of d ≡ v

-- some data before others
abbrev pub values_before : List Value → Values → Values
values_before [] vs = vs
values_before (u ∷ us) vs = value u (values_before us vs)

-- some entries before others
abbrev pub entries_before : List (List ℕ × Value) → Entries → Entries
entries_before [] es = es
entries_before (u ∷ us) es = entry u.0 u.1 (entries_before us es)

-- what was found so far before more
abbrev pub before : Sourced → Sourced → Sourced
before found more = found ++ more

-- what was found is of indices below one
abbrev pub AllBelow : ℕ → Sourced → Type 0
AllBelow m [] = Unit {0}
AllBelow m (s ∷ ss) = (s.0 < m) × AllBelow m ss
