-- What reading with resolution makes of a writer's datum, part by part.
use Rattle.std.specs.Prelude.{◌≡◌, ℕ, ◌+◌, ◌++◌, List, [], true, false, IfSome, Option, Some, None, length, is_some, slice_get, Result, Ok, Err}
use Rattle.avro_schema.specs.Value.{Value}
use Rattle.avro_schema.specs.Node.{Node, FieldNode, node_at}
use Rattle.avro_schema.specs.Seen.{values_from, entries_from}
use Rattle.avro_schema.specs.declared.schema.NodeId.{NodeId}
use Rattle.avro_binary.specs.LeafValue.{has_no_parts, leaf_value}
use Rattle.avro_binary.specs.Places.{alone, is_union, placed}
use Rattle.avro_binary.specs.declared.place.Place.{Place}
use Rattle.avro_binary.specs.declared.leaf.Leaf.{Leaf}
use Rattle.avro_schema.specs.Fits.{fits}
use Rattle.avro_schema.specs.WellFormed.{branch_kind}
use Rattle.avro_compare.specs.Fields.{IsField}
use Rattle.avro_compare.specs.Fault.{ResolutionFault, fault_here}
use Rattle.avro_compare.specs.Seen.{cause_of}
use Rattle.avro_compare.specs.declared.error.FaultKind.{FaultKind}
use Rattle.avro_resolve.specs.Ends.{turned, SlotsAre, AllBelow, values_before, entries_before, before}
use denote.Ref.{Bor}
use Rattle.avro_compare.specs.Entries.{first_entry}
use Rattle.avro_compare.specs.Planned.{AreFor, AreForFrom, part_or_none}
use Rattle.avro_compare.specs.Match.{is_match}
use Rattle.avro_compare.specs.Pairs.{IsTarget, wrapped, item_id, value_id, branch_id, field_for}
use Rattle.avro_compare.specs.Resolve.{Resolved, Sourced, bytes_as, enum_as, fields_at, int_as, resolve, resolve_entries, resolve_items, resolve_sources, result_map, string_as, symbol_at, through}
use Rattle.avro_compare.specs.Source.{missing_field, source_of}
use Rattle.avro_compare.specs.declared.comparison.Target.{Target}
use Rattle.avro_compare.specs.declared.comparison.Target.TheVariants.{Fault, To}
use Rattle.avro_compare.specs.declared.comparison.At.{At}
use Rattle.avro_compare.specs.declared.comparison.At.TheVariants.{Ignored, Pair}
use Rattle.avro_resolve.specs.declared.resolving.guided.Made.{Made}
use Rattle.avro_resolve.specs.declared.resolving.guided.Run.{Run}
use Rattle.avro_resolve.specs.declared.resolving.guided.Slots.{Slots}
use Rattle.avro_resolve.specs.declared.resolving.guided.Part.{Part}
use Rattle.avro_resolve.specs.declared.resolving.guided.Filling.{Filling}

-- what was made is what resolution gives
abbrev pub MadeAs : {O : Type 0} → (O → Value → Type 0) → Made O → Resolved → Type 0
MadeAs S (Made.Good out) (Ok v) = S out v
MadeAs S (Made.Good out) (Err f) = ⊥
MadeAs S (Made.Faulty fault) resolved = resolved ≡ Err (turned fault.value)
MadeAs S Made.Nothing resolved = ⊥

-- nothing was made, since nothing was asked
abbrev pub IsNothing : {O : Type 0} → Made O → Type 0
IsNothing Made.Nothing = Unit {0}
IsNothing made = ⊥

-- what stands for a datum at a place of its node, by what stands for a datum of a node at a place
abbrev pub at_place : {O : Type 0} → (List Node → Node → Place → O → Value → Type 0) → List Node → Place → O → Value → Type 0
at_place S nodes at = S nodes (node_at nodes at.node.0) at

-- the same of data that are in no union, by the ids of their nodes
abbrev pub of_node : {O : Type 0} → (List Node → Node → Place → O → Value → Type 0) → List Node → ℕ → O → Value → Type 0
of_node S nodes id = at_place S nodes (alone id)

-- What a part at a pair of nodes is made of is what resolution gives of it; of an ignored part nothing is made.
abbrev pub StandsAs : {O : Type 0} → (List Node → Node → Place → O → Value → Type 0) → List Node → List Node → List Node → Node → At → Made O → Value → Type 0
StandsAs S writer reader nodes n Ignored out v = IsNothing out
StandsAs S writer reader nodes n (Pair w r) out v =
    nodes ≡ writer → n ≡ node_at writer w.0 → MadeAs (of_node S reader r.0) out (resolve writer reader (node_at writer w.0) (node_at reader r.0) v)

abbrev pub branch_for : List Node → At → ℕ → At
branch_for writer Ignored k = Ignored
branch_for writer (Pair w r) k = Pair (record { 0 = branch_id (node_at writer w.0) k }) r

-- a pair leads to a node, by a branch where there is one
abbrev pub Leads : List Node → List Node → Node → Node → Option ℕ → ℕ → Type 0
Leads writer reader w r branch q = (resolve : Node → Resolved) → through writer reader w r resolve ≡ wrapped branch (resolve (node_at reader q))

-- a node is the branch of a union, which is of no union, or the same
abbrev pub LeadsTo : List Node → ℕ → Option ℕ → ℕ → Type 0
LeadsTo nodes r None q = r ≡ q
LeadsTo nodes r (Some k) q = (ids : List ℕ) × (node_at nodes r ≡ Node.union ids) × (slice_get ids k ≡ Some q) × (is_union (node_at nodes q) ≡ false)

-- a writer's node leads from a reader's node to one that matches it and is no union: to that node itself, or to the branch of a union
pub record Arrives (writer reader : List Node) (w : Node) (r : ℕ) (branch : Option ℕ) (q : ℕ) : Type 0 where
  pub into : LeadsTo reader r branch q
  pub matches : is_match writer reader w (node_at reader q) ≡ true
  pub plain : is_some (branch_kind (node_at reader q)) ≡ true

-- the same of where a pair leads, if it leads to a node
abbrev pub ArrivesAt : List Node → List Node → Node → ℕ → Target → Type 0
ArrivesAt writer reader w r (Fault kind) = Unit {0}
ArrivesAt writer reader w r (To branch q) = Arrives writer reader w r branch q.0

-- Of some parts, whatever follows them: resolution goes on behind them, and what it gave of them is put before the rest.
abbrev pub SoFar : {E A M : Type 0} → (ℕ → List E → Result A ResolutionFault) → (M → A → A) → List E → M → Type 0
SoFar {E = E} run join xs made = (more : List E) → run 0 (xs ++ more) ≡ result_map (join made) (run (length xs) more)

-- ---- Items

-- items that were made so far, none of which has a fault
pub record ItemsGood {I : Type 0} (S : List Node → ℕ → Place → I → List Value → Type 0) (writer reader : List Node) (w : Node) (r : ℕ) (items : I) (count : ℕ) (branch : Option ℕ) (a b : NodeId) (vs : List Value) : Type 0 where
  pub to : ℕ
  pub leads : Leads writer reader w (node_at reader r) branch to
  pub arrives : Arrives writer reader w r branch to
  pub of_writer : a.0 ≡ item_id w
  pub of_reader : b.0 ≡ item_id (node_at reader to)
  pub counted : count ≡ length vs
  pub made : List Value
  pub so_far : SoFar (λ k us. resolve_items writer reader (node_at writer a.0) (node_at reader b.0) k (values_from us)) values_before vs made
  pub stands : S reader b.0 (placed branch to) items made

-- a run is good so far, or one of its items has a fault, whatever follows
abbrev pub RunAs : {I : Type 0} → (List Node → ℕ → Place → I → List Value → Type 0) → List Node → List Node → Node → ℕ → Run I → List Value → Type 0
RunAs S writer reader w r (Run.Good items count branch a b) vs = ItemsGood S writer reader w r items count branch a b vs
RunAs S writer reader w r (Run.Faulty fault) vs =
    (more : List Value) → resolve writer reader w (node_at reader r) (Value.array (values_from (vs ++ more))) ≡ Err (turned fault.value)
RunAs S writer reader w r Run.Nothing vs = ⊥

abbrev pub IsNoRun : {I : Type 0} → Run I → Type 0
IsNoRun Run.Nothing = Unit {0}
IsNoRun run = ⊥

abbrev pub ItemsStandAs : {I : Type 0} → (List Node → ℕ → Place → I → List Value → Type 0) → List Node → List Node → List Node → ℕ → At → Run I → List Value → Type 0
ItemsStandAs S writer reader nodes id Ignored items vs = IsNoRun items
ItemsStandAs S writer reader nodes id (Pair w r) items vs =
    nodes ≡ writer → Node.array id ≡ node_at writer w.0 → RunAs S writer reader (node_at writer w.0) r.0 items vs

-- ---- Entries

-- the same of entries
pub record EntriesGood {I : Type 0} (S : List Node → ℕ → Place → I → List (List ℕ × Value) → Type 0) (writer reader : List Node) (w : Node) (r : ℕ) (items : I) (count : ℕ) (branch : Option ℕ) (a b : NodeId) (vs : List (List ℕ × Value)) : Type 0 where
  pub to : ℕ
  pub leads : Leads writer reader w (node_at reader r) branch to
  pub arrives : Arrives writer reader w r branch to
  pub of_writer : a.0 ≡ value_id w
  pub of_reader : b.0 ≡ value_id (node_at reader to)
  pub counted : count ≡ length vs
  pub made : List (List ℕ × Value)
  pub so_far : SoFar (λ k us. resolve_entries writer reader (node_at writer a.0) (node_at reader b.0) k (entries_from us)) entries_before vs made
  pub stands : S reader b.0 (placed branch to) items made

abbrev pub MapRunAs : {I : Type 0} → (List Node → ℕ → Place → I → List (List ℕ × Value) → Type 0) → List Node → List Node → Node → ℕ → Run I → List (List ℕ × Value) → Type 0
MapRunAs S writer reader w r (Run.Good items count branch a b) vs = EntriesGood S writer reader w r items count branch a b vs
MapRunAs S writer reader w r (Run.Faulty fault) vs =
    (more : List (List ℕ × Value)) → resolve writer reader w (node_at reader r) (Value.map_of (entries_from (vs ++ more))) ≡ Err (turned fault.value)
MapRunAs S writer reader w r Run.Nothing vs = ⊥

abbrev pub EntriesStandAs : {I : Type 0} → (List Node → ℕ → Place → I → List (List ℕ × Value) → Type 0) → List Node → List Node → List Node → ℕ → At → Run I → List (List ℕ × Value) → Type 0
EntriesStandAs S writer reader nodes id Ignored items vs = IsNoRun items
EntriesStandAs S writer reader nodes id (Pair w r) items vs =
    nodes ≡ writer → Node.map_of id ≡ node_at writer w.0 → MapRunAs S writer reader (node_at writer w.0) r.0 items vs

-- what the next item or entry is for
abbrev pub next_at : {I : Type 0} → Run I → At
next_at (Run.Good items count branch a b) = Pair a b
next_at (Run.Faulty fault) = Ignored
next_at Run.Nothing = Ignored

-- ---- Fields

-- fields that were made so far, none of which has a fault, and the start of the reader's, by the branch that these go into
pub record FieldsGood {O F : Type 0} (S : List Node → Node → Place → O → Value → Type 0) (T : List Node → List FieldNode → Place → F → List Value → Type 0) (writer reader : List Node) (w : Node) (r : ℕ) (slots : List (Option O)) (start : F) (branch : Option ℕ) (a b : NodeId) (vs : List Value) : Type 0 where
  pub leads : Leads writer reader w (node_at reader r) branch b.0
  pub arrives : Arrives writer reader w r branch b.0
  pub of_writer : node_at writer a.0 ≡ w
  pub complete : missing_field (fields_at w) (fields_at (node_at reader b.0)) ≡ None
  pub counted : length slots ≡ length vs
  pub found : Sourced
  pub below : AllBelow (length vs) found
  pub so_far : SoFar (λ k us. resolve_sources writer reader (fields_at (node_at writer a.0)) (fields_at (node_at reader b.0)) k (values_from us)) before vs found
  pub stands : SlotsAre (of_node S reader) (fields_at (node_at writer a.0)) (fields_at (node_at reader b.0)) found slots
  pub starts : T reader (fields_at (node_at reader b.0)) (placed branch b.0) start []

abbrev pub SlotsStand : {O F : Type 0} → (List Node → Node → Place → O → Value → Type 0) → (List Node → List FieldNode → Place → F → List Value → Type 0) → List Node → List Node → Node → ℕ → Slots O F → List Value → Type 0
SlotsStand S T writer reader w r (Slots.Good slots start branch a b) vs = FieldsGood S T writer reader w r slots.items start branch a b vs
SlotsStand S T writer reader w r (Slots.Faulty fault) vs =
    (more : List Value) → resolve writer reader w (node_at reader r) (Value.record_of (values_from (vs ++ more))) ≡ Err (turned fault.value)
SlotsStand S T writer reader w r Slots.Nothing vs = ⊥

abbrev pub AreNoSlots : {O F : Type 0} → Slots O F → Type 0
AreNoSlots Slots.Nothing = Unit {0}
AreNoSlots slots = ⊥

abbrev pub FieldsStandAs : {O F : Type 0} → (List Node → Node → Place → O → Value → Type 0) → (List Node → List FieldNode → Place → F → List Value → Type 0) → List Node → List Node → List Node → List FieldNode → At → Slots O F → List Value → Type 0
FieldsStandAs S T writer reader nodes fs Ignored slots vs = AreNoSlots slots
FieldsStandAs S T writer reader nodes fs (Pair w r) slots vs =
    nodes ≡ writer → fields_at (node_at writer w.0) ≡ fs → SlotsStand S T writer reader (node_at writer w.0) r.0 slots vs

-- what the next field is for
abbrev pub next_field : {O F : Type 0} → List Node → List Node → Slots O F → At
next_field writer reader (Slots.Good slots start branch a b) = field_for (fields_at (node_at writer a.0)) (fields_at (node_at reader b.0)) (length slots.items)
next_field writer reader (Slots.Faulty fault) = Ignored
next_field writer reader Slots.Nothing = Ignored

-- ---- What the code asks a plan by

-- the value of a branch
abbrev pub branch_part : List Node → Part → ℕ → Part
branch_part writer part k = record { at = branch_for writer part.at k; index = part.index; branch = Some k }

-- a part that is no branch
abbrev pub part_below : At → ℕ → Part
part_below at index = record { at = at; index = index; branch = None }

-- what is kept of the fields from the next on, if anything, is what these are for
abbrev pub KnowsFields : {O F : Type 0} → List Node → List Node → Slots O F → Option (Bor (List (ℕ × At))) → Type 0
KnowsFields writer reader (Slots.Good slots start branch a b) known =
    IfSome known (λ parts. AreForFrom (length slots.items) (fields_at (node_at writer a.0)) (fields_at (node_at reader b.0)) parts.now)
KnowsFields writer reader (Slots.Faulty fault) known = Unit {0}
KnowsFields writer reader Slots.Nothing known = Unit {0}

-- the same of those after it
abbrev pub KnowsNext : {O F : Type 0} → List Node → List Node → Slots O F → Option (Bor (List (ℕ × At))) → Type 0
KnowsNext writer reader (Slots.Good slots start branch a b) known =
    IfSome known (λ parts. AreForFrom (length slots.items + 1) (fields_at (node_at writer a.0)) (fields_at (node_at reader b.0)) parts.now)
KnowsNext writer reader (Slots.Faulty fault) known = Unit {0}
KnowsNext writer reader Slots.Nothing known = Unit {0}

-- the index of the next field
abbrev pub next_index : {O F : Type 0} → Slots O F → ℕ
next_index (Slots.Good slots start branch a b) = length slots.items
next_index (Slots.Faulty fault) = 0
next_index Slots.Nothing = 0

-- Two nodes lead to each other, no field is missing, and of the writer's fields it is known what they are for.
pub record IsWhole (writer reader : List Node) (w r : NodeId) (known : List (ℕ × At)) : Type 0 where
  pub leads : IsTarget writer reader (node_at writer w.0) (node_at reader r.0) (To None r)
  pub complete : missing_field (fields_at (node_at writer w.0)) (fields_at (node_at reader r.0)) ≡ None
  pub fields : AreFor (fields_at (node_at writer w.0)) (fields_at (node_at reader r.0)) known

-- what is kept, and else what follows
abbrev pub kept_or : {A : Type 0} → Option A → A → A
kept_or (Some kept) other = kept
kept_or None other = other

-- what a field is for, by what is known from there on, and else what follows
abbrev pub known_part : Option (Bor (List (ℕ × At))) → ℕ → At → At
known_part (Some parts) field other = part_or_none (first_entry parts.now field)
known_part None field other = other

-- what the next field is for, by what is known from there on
abbrev pub part_next : {O F : Type 0} → List Node → List Node → Option (Bor (List (ℕ × At))) → List ℕ → Slots O F → Part
part_next writer reader known parts (Slots.Good slots start branch a b) =
    part_below (known_part known (length slots.items) (next_field writer reader (Slots.Good slots start branch a b))) (kept_or (slice_get parts 0) 0)
part_next writer reader known parts (Slots.Faulty fault) = part_below Ignored 0
part_next writer reader known parts Slots.Nothing = part_below Ignored 0

abbrev pub field_part : {O F : Type 0} → List Node → List Node → Filling O F → Part
field_part writer reader fields = part_next writer reader fields.known fields.parts.now fields.slots

-- fields that were made so far, with what is known of the next
abbrev pub FillsAs : {O F : Type 0} → (List Node → Node → Place → O → Value → Type 0) → (List Node → List FieldNode → Place → F → List Value → Type 0) → List Node → List Node → List Node → List FieldNode → At → Filling O F → List Value → Type 0
FillsAs S T writer reader nodes fs at fields vs =
    FieldsStandAs S T writer reader nodes fs at fields.slots vs × KnowsFields writer reader fields.slots fields.known

-- what was made is kept, and the two schemas are the same
abbrev pub AreKept : Type 0 → List Node → List Node → List Node → List Node → Type 0
AreKept kept a b c d = kept × ◌≡◌ {A = List Node × List Node} (a, b) (c, d)

-- ---- Leaves

-- what a writer's leaf is for a reader's node that its own node leads to
abbrev pub leaf_as : Node → Value → Node → Resolved
leaf_as w (Value.int i) q = int_as i q
leaf_as w (Value.bytes b) q = bytes_as b q
leaf_as w (Value.string t) q = string_as t q
leaf_as w (Value.enum k) q = enum_as (symbol_at w k) q
leaf_as w v q = Ok v

-- a leaf is what resolution gives, or a fault is
abbrev pub IsLeafFor : Resolved → Result Leaf FaultKind → Type 0
IsLeafFor resolved (Ok leaf) = resolved ≡ Ok (leaf_value leaf)
IsLeafFor resolved (Err kind) = resolved ≡ Err (fault_here (cause_of kind))

-- the value of each of some fields is a datum of its node
abbrev pub AreFitting : List Node → List FieldNode → (FieldNode → Value) → Type 0
AreFitting nodes fs worth = (f : FieldNode) → IsField f fs → fits nodes (node_at nodes f.node) (worth f) ≡ true

-- the node of each of some fields that has a source is a leaf's
abbrev pub AreLeaves : List Node → List FieldNode → List FieldNode → Type 0
AreLeaves nodes ws rs = (f : FieldNode) → IsField f rs → (k : ℕ) → source_of ws f ≡ Some k → has_no_parts (node_at nodes f.node) ≡ true
