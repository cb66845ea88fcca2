-- What reading data through a cursor returns: data whose encodings were passed, or a fault of the bytes that are left.
use Rattle.std.specs.Prelude.{◌≡◌, ℕ, suc, ◌+◌, ◌<◌, ◌≤◌, true, List, ◌++◌, length, Result, IfOk, bytes_eq}
use Rattle.std.specs.Result.{IfErr}
use Rattle.std.specs.Option.{IfSome}
use Rattle.std.specs.List.{concat, list_all}
use Rattle.avro_schema.specs.Value.{Value, size, depth, longest_blob, values_size, values_depth, values_longest_blob, entries_size, entries_depth, entries_longest_blob, keys_of}
use Rattle.avro_schema.specs.Node.{Node}
use Rattle.avro_schema.specs.Fits.{each_fits, entries_fit, is_text, LimitValues}
use Rattle.avro_schema.specs.Distinct.{are_distinct}
use Rattle.avro_schema.specs.Seen.{value_of, values_from, entries_from}
use Rattle.avro_schema.specs.declared.datum.Datum.{Datum}
use Rattle.avro_cursor.specs.Encoding.{Encodes, EachSpelled, EntriesSpelled}
use Rattle.avro_cursor.specs.Fault.{ReadFault, behind}
use Rattle.avro_cursor.specs.Breaks.{BreaksWithin, BreaksAfter, ChildBreaks, EntryBreaks, Left}
use Rattle.avro_cursor.specs.Seen.{read_fault}
use Rattle.avro_cursor.specs.CursorValue.{CursorValue}
use Rattle.avro_cursor.specs.declared.error.ReadError.{ReadError}

-- The cursor has passed these bytes; nothing else of it has changed but the nodes left.
pub record Moves (before : CursorValue) (front : List ℕ) (after : CursorValue) : Type 0 where
  pub split : before.bytes ≡ front ++ after.bytes
  pub offset : after.offset ≡ before.offset + length front
  pub depth : after.depth ≡ before.depth
  pub blob : after.blob ≡ before.blob

-- The cursor has passed an encoding of a datum of the node within what was left; the nodes of the datum are taken of
-- those left.
pub record FindsValue (nodes : List Node) (n : Node) (before after : CursorValue) (v : Value) : Type 0 where
  pub front : List ℕ
  pub encoded : Encodes nodes n v front
  pub deep : depth v ≤ before.depth
  pub many : before.nodes ≡ after.nodes + size v
  pub long : longest_blob v ≤ before.blob
  pub moves : Moves before front after

-- the error, unless memory ran out, reports a fault of the bytes that are left
abbrev pub ReportsFault : (List ℕ → ReadFault → Type 0) → CursorValue → ReadError → Type 0
ReportsFault breaks before e = IfSome (read_fault e) (λ fault. (f : ReadFault) × breaks before.bytes f × (fault ≡ behind before.offset f))

-- A call that reads a datum of a node; `stands` says which datum an answer stands for.
pub record ReadsNode {R : Type 0} (stands : R → Value → Type 0) (nodes : List Node) (n : Node) (before after : CursorValue) (result : Result R ReadError) : Type 0 where
  pub found : IfOk result (λ r. (v : Value) × FindsValue nodes n before after v × stands r v)
  pub refused : IfErr result (ReportsFault (BreaksWithin nodes before.depth before.nodes before.blob n) before)

-- a datum of the program is seen as its value
abbrev pub IsSeenAs : Datum → Value → Type 0
IsSeenAs datum v = value_of datum ≡ v

-- a cursor as it was before it entered the node that it is in
abbrev pub outside : CursorValue → CursorValue
outside c = record c { depth = suc c.depth; nodes = suc c.nodes }

-- a cursor that has left the node that it was in
abbrev pub left_node : CursorValue → CursorValue
left_node c = record c { depth = suc c.depth }

-- what is left at a cursor, after a number of keys
abbrev pub left_at : CursorValue → List (List ℕ) → Left
left_at c keys = record { nodes = c.nodes; keys = keys }

-- the limits of the parts of a node that a cursor is in
abbrev pub limits_at : CursorValue → LimitValues
limits_at c = record { depth = c.depth; nodes = c.nodes; blob = c.blob }

-- items of an array, one after another, as these bytes each, and what is left then
pub record ValuesRun (nodes : List Node) (limits : LimitValues) (n : Node) (left : Left) (vs : List Value) (items : List (List ℕ)) (then_left : Left) : Type 0 where
  pub fitting : each_fits nodes n (values_from vs) ≡ true
  pub spelled : EachSpelled (values_from vs) items
  pub deep : values_depth (values_from vs) ≤ limits.depth
  pub many : left.nodes ≡ then_left.nodes + values_size (values_from vs)
  pub long : values_longest_blob (values_from vs) ≤ limits.blob
  pub keys : then_left.keys ≡ left.keys

-- entries of a map, no key of which occurs twice
pub record EntriesRun (nodes : List Node) (limits : LimitValues) (n : Node) (left : Left) (es : List (List ℕ × Value)) (items : List (List ℕ)) (then_left : Left) : Type 0 where
  pub texts : list_all is_text (keys_of (entries_from es)) ≡ true
  pub distinct : are_distinct bytes_eq then_left.keys ≡ true
  pub fitting : entries_fit nodes n (entries_from es) ≡ true
  pub spelled : EntriesSpelled (entries_from es) items
  pub deep : entries_depth (entries_from es) ≤ limits.depth
  pub many : left.nodes ≡ then_left.nodes + entries_size (entries_from es)
  pub long : entries_longest_blob (entries_from es) ≤ limits.blob
  pub keys : then_left.keys ≡ left.keys ++ keys_of (entries_from es)

-- how an item of an array breaks, or an entry of a map
abbrev pub child_breaks : List Node → LimitValues → ChildBreaks
child_breaks nodes limits left m rest g = BreaksWithin nodes limits.depth left limits.blob m rest g

-- how an item breaks within what is left at a cursor
abbrev pub value_breaks : List Node → LimitValues → Node → Left → List ℕ → ReadFault → Type 0
value_breaks nodes limits n left = child_breaks nodes limits left.nodes n

-- how an entry breaks within what is left at a cursor and after the keys so far
abbrev pub entry_breaks : List Node → LimitValues → Node → Left → List ℕ → ReadFault → Type 0
entry_breaks nodes limits n = EntryBreaks limits (child_breaks nodes limits) n

-- The cursor has passed items, or entries, one after another.
pub record FindsRun {E : Type 0} (run : Left → List E → List (List ℕ) → Left → Type 0) (before after : CursorValue) (keys keys_after : List (List ℕ)) (xs : List E) : Type 0 where
  pub items : List (List ℕ)
  pub stand : run (left_at before keys) xs items (left_at after keys_after)
  pub moves : Moves before (concat items) after

-- fewer items than the count are complete, and the next one breaks
pub record RunBreaks {E : Type 0} (run : Left → List E → List (List ℕ) → Left → Type 0) (breaks : Left → List ℕ → ReadFault → Type 0) (left : Left) (count : ℕ) (bytes : List ℕ) (f : ReadFault) : Type 0 where
  pub xs : List E
  pub items : List (List ℕ)
  pub then_left : Left
  pub few : length xs < count
  pub stand : run left xs items then_left
  pub next : BreaksAfter (breaks then_left) (concat items) bytes f

-- A call that reads a number of items or entries; `gives` says what it makes of them, and of the keys so far.
pub record ReadsRun {E R : Type 0} (run : Left → List E → List (List ℕ) → Left → Type 0) (breaks : Left → List ℕ → ReadFault → Type 0) (gives : List E → List (List ℕ) → Type 0) (count : ℕ) (keys : List (List ℕ)) (before after : CursorValue) (result : Result R ReadError) : Type 0 where
  pub found : IfOk result (λ r. (xs : List E) × (keys_after : List (List ℕ)) × (length xs ≡ count) × FindsRun run before after keys keys_after xs × gives xs keys_after)
  pub refused : IfErr result (ReportsFault (RunBreaks run breaks (left_at before keys) count) before)
