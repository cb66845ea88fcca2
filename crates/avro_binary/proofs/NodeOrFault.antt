-- Bytes begin with a datum of a node or have a fault of one, where it is so of the nodes of its parts: all nodes but arrays and
-- maps.
use Rattle.std.proofs.Common.{◌≡◌, ◌⊎◌, inl, inr, ℕ, zero, suc, ◌+◌, ◌^◌, ◌<◌, ◌≤◌, true, List, [], ◌∷◌, ◌++◌, length, get_or, Option, Some, Ok, Err, refl, sym, ◌∙◌, subst, arith, append_assoc, append-nil}
use Rattle.std.specs.Prelude.{slice_get}
use Rattle.std.specs.Option.{IfSome}
use Rattle.avro_name.specs.Name.{Name}
use Rattle.avro_schema.specs.Value.{Value}
use Rattle.avro_schema.specs.Node.{Node, FieldNode, node_at, field_ids}
use Rattle.avro_cursor.specs.Fault.{ReadFault, end_of_input, invalid_number, invalid_boolean, invalid_text, unknown_index, invalid_length, wrong_block_size, duplicate_key, limit_exceeded, behind}
use Rattle.avro_cursor.specs.Breaks.{BreaksWithin, NodeBreaks, BooleanBreaks, IntBreaks, LongBreaks, BytesBreaks, StringBreaks, IndexBreaks, FixedBreaks}
use Rattle.avro_cursor.specs.Seen.{read_fault}
use Rattle.avro_cursor.specs.CursorValue.{CursorValue, Passes}
use Rattle.avro_binary.specs.CursorReads.{Moves, FindsValue, ReportsFault, ReadsNode, outside, left_node, limits_at, child_breaks}
use Rattle.avro_cursor.specs.Elements.{Refuses, Finds, IsBoolean, IsInt, IsLong, IsBytes, IsString, IsFixed, IsIndex}
use Rattle.avro_cursor.specs.declared.error.ReadError.{ReadError}
use Rattle.avro_binary.proofs.PartOrFault.{AreBytes, front_are, rest_are, each_below, PartOrFault, int_or_fault, long_or_fault, boolean_or_fault, fixed_or_fault, content_or_fault, index_or_fault}
use Rattle.avro_binary.proofs.LeafReads.{leaf_refused, boolean_found, int_found, long_found, bytes_found, string_found, symbol_found, fixed_found, null_found}
use Rattle.avro_binary.proofs.NodeSteps.{branch_unread, branch_refused, union_found, FieldsDone, fields_none, fields_push, field_breaks, record_found, record_refused}
use Rattle.std.specs.Str.{is_utf8}

-- ---- Faults and what reports them

abbrev pub error_of : ReadFault → ReadError
error_of (end_of_input place) = ReadError.EndOfInput place
error_of (invalid_number place) = ReadError.InvalidNumber place
error_of (invalid_boolean place) = ReadError.InvalidBoolean place
error_of (invalid_text place) = ReadError.InvalidText place
error_of (unknown_index place) = ReadError.UnknownIndex place
error_of (invalid_length place) = ReadError.InvalidLength place
error_of (wrong_block_size place) = ReadError.WrongBlockSize place
error_of (duplicate_key place) = ReadError.DuplicateKey place
error_of limit_exceeded = ReadError.LimitExceeded

pub error-reports : (f : ReadFault) → read_fault (error_of f) ≡ Some f
error-reports (end_of_input place) = refl
error-reports (invalid_number place) = refl
error-reports (invalid_boolean place) = refl
error-reports (invalid_text place) = refl
error-reports (unknown_index place) = refl
error-reports (invalid_length place) = refl
error-reports (wrong_block_size place) = refl
error-reports (duplicate_key place) = refl
error-reports limit_exceeded = refl

-- an error of a fault, which does not say that memory ran out
abbrev pub IsOfFault : ReadError → Type 0
IsOfFault e = (fault : ReadFault) × (read_fault e ≡ Some fault)

abbrev pub error_at : CursorValue → ReadFault → ReadError
error_at c f = error_of (behind c.offset f)

pub of-fault : (c : CursorValue) (f : ReadFault) → IsOfFault (error_at c f)
of-fault c f = (behind c.offset f, error-reports (behind c.offset f))

pub refuses : (B : List ℕ → ReadFault → Type 0) (c : CursorValue) (f : ReadFault) → B c.bytes f → Refuses B c (error_at c f)
refuses B c f b = (f, b, error-reports (behind c.offset f))

pub reports : (B : List ℕ → ReadFault → Type 0) (c : CursorValue) (f : ReadFault) → B c.bytes f → ReportsFault B c (error_at c f)
reports B c f b =
    subst (λ (o : Option ReadFault). IfSome o (λ fault. (g : ReadFault) × B c.bytes g × (fault ≡ behind c.offset g))) (sym (error-reports (behind c.offset f))) (f, b, refl)

pub reported : (B : List ℕ → ReadFault → Type 0) (c : CursorValue) (e : ReadError) → IsOfFault e → ReportsFault B c e → (f : ReadFault) × B c.bytes f
reported B c e is r =
    let fault = subst (λ (o : Option ReadFault). IfSome o (λ fault. (g : ReadFault) × B c.bytes g × (fault ≡ behind c.offset g))) is.1 r in
    (fault.0, fault.1)

-- ---- Cursors

-- a cursor that passed the bytes `front`, before these
abbrev pub moved_to : CursorValue → List ℕ → List ℕ → CursorValue
moved_to c front rest = record c { bytes = rest; offset = c.offset + length front }

pub passes_to : (c : CursorValue) (front rest : List ℕ) → c.bytes ≡ front ++ rest → Passes c front (moved_to c front rest)
passes_to c front rest split = record { split = split; offset = refl; depth = refl; nodes = refl; blob = refl }

-- a cursor before bytes, where so much depth is left and limits are in range
pub record IsReady (depth : ℕ) (c : CursorValue) : Type 0 where
  pub deep : c.depth ≡ depth
  pub are : AreBytes c.bytes
  pub many : c.nodes < 2 ^ 32
  pub long : c.blob < 2 ^ 63

pub ready_behind : (d : ℕ) (c after : CursorValue) (front : List ℕ) → IsReady d c → Moves c front after → after.nodes ≤ c.nodes → IsReady d after
ready_behind d c after front ready moves few =
    let below = ready.many in
    let blob = ready.long in
    let same = moves.blob in
    record { deep = moves.depth ∙ ready.deep; are = rest_are front after.bytes c.bytes ready.are moves.split; many = omega arith; long = omega arith }

pub ready_passed : (d : ℕ) (c : CursorValue) (front rest : List ℕ) → IsReady d c → c.bytes ≡ front ++ rest → IsReady d (moved_to c front rest)
ready_passed d c front rest ready split = record { deep = ready.deep; are = rest_are front rest c.bytes ready.are split; many = ready.many; long = ready.long }

-- ---- Nodes

abbrev pub AnyValue : Unit {0} → Value → Type 0
AnyValue u v = Unit {0}

abbrev pub Found : List Node → Node → CursorValue → Type 0
Found nodes n c = (after : CursorValue) × (v : Value) × FindsValue nodes n c after v

abbrev pub Refused : List Node → Node → CursorValue → Type 0
Refused nodes n c = (e : ReadError) × IsOfFault e × ReportsFault (BreaksWithin nodes c.depth c.nodes c.blob n) c e

-- a datum of the node is found, or a fault of one is reported
abbrev pub Reads : List Node → Node → CursorValue → Type 0
Reads nodes n c = Found nodes n c ⊎ Refused nodes n c

pub found_by : (nodes : List Node) (n : Node) (c after : CursorValue) → ReadsNode AnyValue nodes n c after (Ok tt) → Reads nodes n c
found_by nodes n c after reads = inl (after, reads.found.0, reads.found.1)

pub refused_by : (nodes : List Node) (n : Node) (c after : CursorValue) (e : ReadError) → IsOfFault e → ReadsNode AnyValue nodes n c after (Err e) → Reads nodes n c
refused_by nodes n c after e is reads = inr (e, is, reads.refused)

pub found_reads : (nodes : List Node) (n : Node) (c : CursorValue) (found : Found nodes n c) → ReadsNode AnyValue nodes n c found.0 (Ok tt)
found_reads nodes n c found = record { found = (found.1, found.2, tt); refused = tt }

pub refused_reads : (nodes : List Node) (n : Node) (c : CursorValue) (refused : Refused nodes n c) → ReadsNode AnyValue nodes n c c (Err refused.0)
refused_reads nodes n c refused = record { found = tt; refused = refused.2 }

-- the nodes of the parts are read so
abbrev pub Children : List Node → ℕ → Type 0
Children nodes d = (id : ℕ) (c : CursorValue) → IsReady d c → Reads nodes (node_at nodes id) c

pub value_moves : (nodes : List Node) (n : Node) (c : CursorValue) (d : ℕ) → IsReady d c → (found : Found nodes n c) → IsReady d found.0
value_moves nodes n c d ready found =
    ready_behind d c found.0 found.2.front ready found.2.moves (let m = found.2.many in omega arith)

module _ (nodes : List Node) (c : CursorValue) (ready : IsReady c.depth c) where
  leaf : {A : Type 0} (n : Node) (IsElement : A → List ℕ → Type 0) (B : List ℕ → ReadFault → Type 0) → PartOrFault IsElement B c.bytes
      → ((x : A) (front rest : List ℕ) → IsElement x front → c.bytes ≡ front ++ rest → ReadsNode AnyValue nodes n (outside c) (left_node (moved_to c front rest)) (Ok tt))
      → ((f : ReadFault) → B c.bytes f → NodeBreaks nodes (limits_at c) (child_breaks nodes (limits_at c)) n c.bytes f) → Reads nodes n (outside c)
  leaf n IsElement B part found step = elim part [
    | inl g ↦ found_by nodes n (outside c) (left_node (moved_to c g.1 g.2)) (found g.0 g.1 g.2 g.3 g.4)
    | inr f ↦ refused_by nodes n (outside c) (left_node c) (error_at c f.0) (of-fault c f.0) (leaf_refused nodes n c c B (error_at c f.0) step (refuses B c f.0 f.1))
  ]

  pub null_reads : Reads nodes Node.null (outside c)
  null_reads = found_by nodes Node.null (outside c) (left_node c) (null_found nodes c tt (λ fit. tt))

  pub boolean_reads : Reads nodes Node.boolean (outside c)
  boolean_reads = leaf Node.boolean IsBoolean BooleanBreaks (boolean_or_fault c.bytes)
      (λ b front rest is split. boolean_found nodes c (moved_to c front rest) tt b (front, is, passes_to c front rest split) (λ fit. tt))
      (λ f b. b)

  pub int_reads : Reads nodes Node.int (outside c)
  int_reads = leaf Node.int IsInt IntBreaks (int_or_fault c.bytes ready.are)
      (λ v front rest is split. int_found nodes c (moved_to c front rest) tt v (front, is, passes_to c front rest split) (λ fit. tt))
      (λ f b. b)

  pub long_reads : Reads nodes Node.long (outside c)
  long_reads = leaf Node.long IsLong LongBreaks (long_or_fault c.bytes ready.are)
      (λ v front rest is split. long_found nodes c (moved_to c front rest) tt v (front, is, passes_to c front rest split) (λ fit. tt))
      (λ f b. b)

  pub bytes_reads : Reads nodes Node.bytes (outside c)
  bytes_reads = leaf Node.bytes (IsBytes c.blob) (BytesBreaks c.blob) (content_or_fault (λ content. true) c.blob c.bytes ready.are)
      (λ content front rest is split. bytes_found nodes c (moved_to c front rest) tt content front is (passes_to c front rest split)
      (each_below content (rest_are is.spelled.0 content front (front_are front rest c.bytes ready.are split) is.spelled.2)) (λ fit. tt))
      (λ f b. b)

  pub string_reads : Reads nodes Node.string (outside c)
  string_reads = leaf Node.string (IsString c.blob) (StringBreaks c.blob) (content_or_fault is_utf8 c.blob c.bytes ready.are)
      (λ content front rest is split. string_found nodes c (moved_to c front rest) tt content front is (passes_to c front rest split) (λ fit. tt))
      (λ f b. b)

  pub symbol_reads : (name : Name) (aliases : List Name) (symbols : List (List ℕ)) (default : Option ℕ) → Reads nodes (Node.enum name aliases symbols default) (outside c)
  symbol_reads name aliases symbols default = leaf (Node.enum name aliases symbols default) (IsIndex (length symbols)) (IndexBreaks (length symbols)) (index_or_fault (length symbols) c.bytes ready.are)
      (λ k front rest is split. symbol_found nodes c (moved_to c front rest) tt name aliases symbols default (length symbols) k refl (front, is, passes_to c front rest split) (λ fit. tt))
      (λ f b. b)

  pub fixed_reads : (name : Name) (aliases : List Name) (count : ℕ) → Reads nodes (Node.fixed name aliases count) (outside c)
  fixed_reads name aliases count = leaf (Node.fixed name aliases count) (IsFixed count c.blob) (FixedBreaks count c.blob) (fixed_or_fault count c.blob c.bytes)
      (λ content front rest is split. fixed_found nodes c (moved_to c front rest) tt name aliases count content front is (passes_to c front rest split)
      (let small = is.2 in let long = ready.long in omega arith) (each_below content (subst (λ (k : List ℕ). AreBytes k) is.0 (front_are front rest c.bytes ready.are split))) (λ fit. tt))
      (λ f b. b)

-- ---- Unions and records

pub id-at : (ids : List ℕ) (k : ℕ) → k < length ids → slice_get ids k ≡ Some (get_or ids k 0)
id-at [] k h = absurd (omega arith)
id-at (p ∷ ids) zero h = refl
id-at (p ∷ ids) (suc k) h = id-at ids k (omega arith)

module _ (nodes : List Node) (c : CursorValue) (ready : IsReady c.depth c) (child : Children nodes c.depth) where
  branch_reads : (ids : List ℕ) (k : ℕ) (front rest : List ℕ) → IsIndex (length ids) k front → c.bytes ≡ front ++ rest → Reads nodes (Node.union ids) (outside c)
  branch_reads ids k front rest is split =
      let mid = moved_to c front rest in
      let id = get_or ids k 0 in
      let at = id-at ids k is.0 in
      let found : Finds (λ (x : ℕ). x) (IsIndex (length ids)) c mid k = (front, is, passes_to c front rest split) in
      elim (child id mid (ready_passed c.depth c front rest ready split)) [
        | inl g ↦ found_by nodes (Node.union ids) (outside c) (left_node g.0)
            (union_found nodes ids c mid k id at found g.0 tt tt (found_reads nodes (node_at nodes id) mid g) (λ v h. tt))
        | inr b ↦ refused_by nodes (Node.union ids) (outside c) (left_node c) b.0 b.1
            (branch_refused nodes ids c mid k id at found c mid b.0 (refused_reads nodes (node_at nodes id) mid b))
      ]

  pub union_reads : (ids : List ℕ) → Reads nodes (Node.union ids) (outside c)
  union_reads ids = elim (index_or_fault (length ids) c.bytes ready.are) [
    | inl g ↦ branch_reads ids g.0 g.1 g.2 g.3 g.4
    | inr f ↦ refused_by nodes (Node.union ids) (outside c) (left_node c) (error_at c f.0) (of-fault c f.0)
        (branch_unread nodes ids c c c (error_at c f.0) (refuses (IndexBreaks (length ids)) c f.0 f.1))
  ]

  module _ (name : Name) (aliases : List Name) (fields : List FieldNode) where
    fields_read : (done rest : List ℕ) → field_ids fields ≡ done ++ rest → (now : CursorValue) (vs : List Value) → FieldsDone nodes done c now vs → IsReady c.depth now
        → Reads nodes (Node.record_of name aliases fields) (outside c)
    fields_read done [] are now vs so_far now_ready =
        found_by nodes (Node.record_of name aliases fields) (outside c) (left_node now)
        (record_found nodes name aliases fields c now vs tt (subst (λ (ps : List ℕ). FieldsDone nodes ps c now vs) (sym (are ∙ append-nil done)) so_far) tt)
    fields_read done (id ∷ rest) are now vs so_far now_ready = elim (child id now now_ready) [
      | inl g ↦ fields_read (done ++ id ∷ []) rest (are ∙ sym (append_assoc done (id ∷ []) rest)) g.0 (vs ++ g.1 ∷ [])
          (fields_push nodes done c now vs so_far id g.0 g.1 g.2) (value_moves nodes (node_at nodes id) now c.depth now_ready g)
      | inr b ↦ refused_by nodes (Node.record_of name aliases fields) (outside c) (left_node now) b.0 b.1
          (record_refused nodes name aliases fields c now b.0 (field_breaks nodes done c now vs so_far (field_ids fields) rest id are b.0 b.2))
    ]

    pub record_reads : Reads nodes (Node.record_of name aliases fields) (outside c)
    record_reads = fields_read [] (field_ids fields) refl c [] (fields_none nodes c) ready
