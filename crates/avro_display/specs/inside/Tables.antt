-- The parts of a table, a node after another.
use Rattle.std.specs.Prelude.{◌≡◌, ◌<◌, ℕ, List, length, Option, Some, option_map, slice_get, Vec}
use denote.Ref.{Bor}
use Rattle.std.specs.declared.alloc.Global.{Global}
use Rattle.std.specs.List.{AllByRecursion}
use Rattle.avro_schema.specs.Node.{Node, FieldNode, node_at}
use Rattle.avro_display.specs.DisplayTree.{record_fields}
use Rattle.avro_display.specs.Table.{AreMembers, field_name, opening_of}
use Rattle.avro_display.specs.declared.member.Member.{Member}

-- a borrowed key with its index
abbrev pub seen_place : Bor (List ℕ) × ℕ → List ℕ × ℕ
seen_place e = (e.0.now, e.1)

-- each key is the name of the field at its index
abbrev pub AreNamed : List FieldNode → List (List ℕ × ℕ) → Type 0
AreNamed fields order = AllByRecursion (λ e. (e.1 < length fields) × (e.0 ≡ field_name fields e.1)) order

-- what holds of each item at its index
abbrev pub Holds : {A : Type 0} → (ℕ → A → Type 0) → List A → Type 0
Holds {A} P xs = (k : ℕ) (x : A) → slice_get xs k ≡ Some x → P k x

-- the text that opens a node as a branch
abbrev pub IsOpening : List Node → ℕ → Option (Vec ℕ Global) → Type 0
IsOpening nodes k opening = option_map (λ t. t.items) opening ≡ opening_of (node_at nodes k)

-- the members of a node's data, where it is a record
abbrev pub AreMembersAt : List Node → ℕ → Vec Member Global → Type 0
AreMembersAt nodes k ms = AreMembers (record_fields (node_at nodes k)) ms.items

abbrev pub AreOpenings : List Node → List (Option (Vec ℕ Global)) → Type 0
AreOpenings nodes openings = (length openings ≡ length nodes) × Holds (IsOpening nodes) openings

abbrev pub AreAllMembers : List Node → List (Vec Member Global) → Type 0
AreAllMembers nodes lists = (length lists ≡ length nodes) × Holds (AreMembersAt nodes) lists
