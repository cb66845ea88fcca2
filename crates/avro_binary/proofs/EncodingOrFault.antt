-- Bytes begin with an encoding of a node within limits, or have a first fault: reading them as the code does, with a
-- mathematical function for the calls.
use Rattle.std.proofs.Common.{◌≡◌, ◌≢◌, ◌⊎◌, inl, inr, ℕ, zero, suc, ◌+◌, ◌^◌, ◌<◌, true, List, [], ◌∷◌, ◌++◌, length, Some, None, refl, sym, ◌∙◌, subst, arith, length-append}
use Rattle.std.specs.List.{concat}
use Rattle.avro_schema.specs.Value.{Value}
use Rattle.avro_schema.specs.Node.{Node, node_at}
use Rattle.avro_schema.specs.Fits.{LimitValues, is_within}
use Rattle.avro_cursor.specs.Encoding.{Encodes}
use Rattle.avro_cursor.specs.Fault.{ReadFault, wrong_block_size, limit_exceeded, behind}
use Rattle.avro_cursor.specs.Breaks.{BlocksBreak, Breaks, BreaksWithin, KeyBreaks, HeadBreaks, Head, counted, sized, head_count, HasSize}
use Rattle.avro_cursor.specs.BlockHeads.{IsHeadOrEnd, IsBlock, EndsBlock}
use Rattle.avro_cursor.specs.CursorValue.{CursorValue, Passes}
use Rattle.avro_binary.specs.CursorReads.{Moves, ReportsFault, outside, left_node, left_at, limits_at, FindsRun, RunBreaks}
use Rattle.avro_cursor.specs.declared.block.Block.{Block}
use Rattle.avro_cursor.specs.declared.error.ReadError.{ReadError}
use Rattle.avro_binary.proofs.PartOrFault.{AreBytes, below_or, key_or_fault, head_or_fault}
use Rattle.avro_binary.proofs.RunLaws.{Kind, values_kind, entries_kind}
use Rattle.avro_binary.proofs.RunSteps.{moves-passed, moves-join, run_none, run_push, run_breaks, value_run, value_report, entry_run, key_report, entry_report}
use Rattle.avro_binary.proofs.BlockSteps.{BlocksDone, HeadRead, EndRead, as_error, blocks_none, head_refused, item_refused, size_refused, blob_kept, block_smaller, blocks_push}
use Rattle.avro_binary.proofs.NodeSteps.{enter_refused, array_found, map_found}
use Rattle.avro_binary.proofs.ExactReads.{front_of, within-from}
use Rattle.avro_binary.proofs.NodeOrFault.{Children, IsOfFault, IsReady, Reads, boolean_reads, bytes_reads, error-reports, error_at, error_of, fixed_reads, found_by, int_reads, long_reads, moved_to, null_reads, of-fault, passes_to, ready_passed, record_reads, refused_by, refuses, reported, reports, string_reads, symbol_reads, union_reads, value_moves}

-- ---- Items and entries of a block

module _ {E : Type 0} (kind : Kind E) (d blob : ℕ) where
  -- one more is read, where so much depth is left, or its fault is reported
  abbrev OneRead : CursorValue → List (List ℕ) → Type 0
  OneRead now keys =
      ((after : CursorValue) × (then_keys : List (List ℕ)) × (x : E) × (item : List ℕ) × kind.run (left_at now keys) (x ∷ []) (item ∷ []) (left_at after then_keys) × Moves now item after × IsReady d after)
      ⊎ ((e : ReadError) × IsOfFault e × ReportsFault (kind.item_breaks (left_at now keys)) now e)

  abbrev ReadsOne : Type 0
  ReadsOne = (now : CursorValue) (keys : List (List ℕ)) → IsReady d now → now.blob ≡ blob → kind.ready (left_at now keys) → OneRead now keys

  module _ (one : ReadsOne) (start : CursorValue) (long : start.blob ≡ blob) (before : List (List ℕ)) (count : ℕ) where
    run_read : (more : ℕ) (now : CursorValue) (keys : List (List ℕ)) (xs : List E) → length xs + more ≡ count → FindsRun kind.run start now before keys xs → IsReady d now
        → ((after : CursorValue) × (keys_after : List (List ℕ)) × (ys : List E) × (length ys ≡ count) × FindsRun kind.run start after before keys_after ys × IsReady d after)
        ⊎ ((e : ReadError) × IsOfFault e × ReportsFault (RunBreaks kind.run kind.item_breaks (left_at start before) count) start e)
    run_read zero now keys xs sum run ready = inl (now, keys, xs, omega arith, run, ready)
    run_read (suc more) now keys xs sum run ready = elim (one now keys ready (run.moves.blob ∙ long) (kind.laws.prepared _ _ xs run.items run.stand)) [
      | inl g ↦ run_read more g.0 g.1 (xs ++ g.2 ∷ []) (omega (arith, length-append xs (g.2 ∷ []))) (run_push kind run g.0 g.1 g.2 g.3 g.4 g.5) g.6
      | inr f ↦ inr (f.0, f.1, run_breaks kind run count f.0 (omega arith) f.2)
    ]

-- ---- Blocks

abbrev block_of : ℕ → Head → Block
block_of offset (counted count count_bytes) = record { count = count; size = None }
block_of offset (sized count size count_bytes size_bytes) =
    record { count = count; size = Some (record { bytes = size; offset = offset + length count_bytes; items = offset + length count_bytes + length size_bytes }) }

is-block : (offset : ℕ) (head : Head) → IsBlock offset head (block_of offset head)
is-block offset (counted count count_bytes) = (refl, refl)
is-block offset (sized count size count_bytes size_bytes) = (refl, refl)

block-counts : (offset : ℕ) (head : Head) → (block_of offset head).count ≡ head_count head
block-counts offset (counted count count_bytes) = refl
block-counts offset (sized count size count_bytes size_bytes) = refl

same_or : (m n : ℕ) → (m ≡ n) ⊎ (m ≢ n)
same_or m n = elim (below_or m n) [
  | inl less ↦ inr (λ e. absurd (omega arith))
  | inr no_less ↦ elim (below_or n m) [
    | inl more ↦ inr (λ e. absurd (omega arith))
    | inr no_more ↦ inl (omega arith)
  ]
]

size_or : (offset : ℕ) (head : Head) (n : ℕ) → HasSize head n ⊎ ((e : ReadError) × IsOfFault e × EndsBlock offset head n (as_error (Unit {0}) e))
size_or offset (counted count count_bytes) n = inl tt
size_or offset (sized count size count_bytes size_bytes) n = elim (same_or size n) [
  | inl same ↦ inl same
  | inr other ↦
      let fault = behind offset (wrong_block_size (length count_bytes)) in
      inr (error_of fault, (fault, error-reports fault), (other, error-reports fault))
]

head_of : (now : CursorValue) (head : Head) (front rest : List ℕ) → IsHeadOrEnd now.nodes (Some head) front → now.bytes ≡ front ++ rest
    → HeadRead now (moved_to now front rest) (block_of now.offset head)
head_of now head front rest is split = record {
  head = head;
  is_head = is.0;
  passes = subst (λ (bytes : List ℕ). Passes now bytes (moved_to now front rest)) is.1 (passes_to now front rest split);
  is_block = is-block now.offset head;
  counted = block-counts now.offset head;
}

end_of : (now : CursorValue) (front rest : List ℕ) → IsHeadOrEnd now.nodes None front → now.bytes ≡ front ++ rest → EndRead now (moved_to now front rest)
end_of now front rest is split = record { front = front; spelled = is; passes = passes_to now front rest split }

module _ {E : Type 0} (kind : Kind E) (d blob : ℕ) (one : ReadsOne kind d blob) (c : CursorValue) (long : c.blob ≡ blob) where
  abbrev BlocksRead : Type 0
  BlocksRead =
      ((now after : CursorValue) × (keys : List (List ℕ)) × (xs : List E) × BlocksDone kind c now keys xs × EndRead now after)
      ⊎ ((e : ReadError) × IsOfFault e × ReportsFault (BlocksBreak kind.are_whole kind.item_breaks (left_at c [])) c e)

  blocks_read : (fuel : ℕ) (now : CursorValue) (keys : List (List ℕ)) (xs : List E) → BlocksDone kind c now keys xs → now.nodes < fuel → IsReady d now → BlocksRead
  blocks_read zero now keys xs done h ready = absurd (omega arith)
  blocks_read (suc fuel) now keys xs done h ready = elim (head_or_fault now.nodes now.bytes ready.are) [
    | inr f ↦ inr (error_at now f.0, of-fault now f.0, head_refused done (error_at now f.0) (refuses (HeadBreaks now.nodes) now f.0 f.1))
    | inl g ↦ elim (g.0) as (λ o. IsHeadOrEnd now.nodes o g.1 → BlocksRead) [
      | None ↦ λ is. inl (now, moved_to now g.1 g.2, keys, xs, done, end_of now g.1 g.2 is g.4)
      | Some head ↦ λ is.
          let mid = moved_to now g.1 g.2 in
          let read = head_of now head g.1 g.2 is g.4 in
          let count = (block_of now.offset head).count in
          let none = run_none kind mid keys (kind.laws.prepared _ _ xs done.items done.stand) in
          elim (run_read kind d blob one mid (sym (blob_kept done read) ∙ long) keys count count mid keys [] (omega arith) none (ready_passed d now g.1 g.2 ready g.4)) [
            | inr f ↦ inr (f.0, f.1, item_refused done read count f.0 refl f.2)
            | inl r ↦ elim (size_or now.offset read.head (length (concat r.4.items))) [
              | inr w ↦ inr (w.0, w.1, size_refused done read r.4 r.3 (Unit {0}) w.0 w.2)
              | inl has ↦ blocks_read fuel r.0 r.1 (xs ++ r.2) (blocks_push done read r.4 r.3 has) (let less = block_smaller done read r.4 r.3 in omega arith) r.5
            ]
          ]
    ] g.3
  ]

module _ (nodes : List Node) (id : ℕ) (c : CursorValue) (ready : IsReady c.depth c) (child : Children nodes c.depth) where
  abbrev one_of : Node
  one_of = node_at nodes id

  value_read : ReadsOne (values_kind nodes (limits_at c) one_of) c.depth c.blob
  value_read now keys now_ready long prepared = elim (child id now now_ready) [
    | inl g ↦ inl (g.0, keys, g.1, g.2.front, value_run nodes (limits_at c) one_of now g.0 keys g.1 g.2 (sym now_ready.deep) (sym long), g.2.moves, value_moves nodes one_of now c.depth now_ready g)
    | inr f ↦ inr (f.0, f.1, value_report nodes (limits_at c) one_of now keys f.0 (sym now_ready.deep) (sym long) f.2)
  ]

  entry_read : ReadsOne (entries_kind nodes (limits_at c) one_of) c.depth c.blob
  entry_read now keys now_ready long distinct = elim (key_or_fault keys now.blob now.bytes now_ready.are) [
    | inr f ↦ inr (error_at now f.0, of-fault now f.0, key_report nodes (limits_at c) one_of now keys (error_at now f.0) (sym long) (reports (KeyBreaks keys now.blob) now f.0 f.1))
    | inl k ↦
        let mid = moved_to now k.1 k.2 in
        let passes = passes_to now k.1 k.2 k.4 in
        let mid_ready = ready_passed c.depth now k.1 k.2 now_ready k.4 in
        elim (child id mid mid_ready) [
          | inr f ↦ inr (f.0, f.1, entry_report nodes (limits_at c) one_of now mid keys k.0 k.1 f.0 k.3 passes (sym now_ready.deep) (sym long) f.2)
          | inl g ↦ inl (
            g.0,
            keys ++ k.0 ∷ [],
            (k.0, g.1),
            k.1 ++ g.2.front,
            entry_run nodes (limits_at c) one_of now mid g.0 keys k.0 k.1 g.1 g.2 distinct k.3 passes (sym now_ready.deep) (sym long),
            moves-join now mid g.0 k.1 g.2.front (moves-passed now mid k.1 passes) g.2.moves,
            value_moves nodes one_of mid c.depth mid_ready g,
          )
        ]
  ]

  array_reads : Reads nodes (Node.array id) (outside c)
  array_reads =
      let kind = values_kind nodes (limits_at c) one_of in
      elim (blocks_read kind c.depth c.blob value_read c refl (suc c.nodes) c [] [] (blocks_none kind c tt) (omega arith) ready) [
        | inl g ↦ found_by nodes (Node.array id) (outside c) (left_node g.1) (array_found nodes id g.4 g.5 tt ready.many tt)
        | inr f ↦ inr (f.0, f.1, f.2)
      ]

  map_reads : Reads nodes (Node.map_of id) (outside c)
  map_reads =
      let kind = entries_kind nodes (limits_at c) one_of in
      elim (blocks_read kind c.depth c.blob entry_read c refl (suc c.nodes) c [] [] (blocks_none kind c refl) (omega arith) ready) [
        | inl g ↦ found_by nodes (Node.map_of id) (outside c) (left_node g.1) (map_found nodes id g.4 g.5 tt ready.many tt)
        | inr f ↦ inr (f.0, f.1, f.2)
      ]

-- ---- All nodes

-- a node that was entered
entered_reads : (nodes : List Node) (c : CursorValue) → IsReady c.depth c → Children nodes c.depth → (n : Node) → Reads nodes n (outside c)
entered_reads nodes c ready child Node.null = null_reads nodes c ready
entered_reads nodes c ready child Node.boolean = boolean_reads nodes c ready
entered_reads nodes c ready child Node.int = int_reads nodes c ready
entered_reads nodes c ready child Node.long = long_reads nodes c ready
entered_reads nodes c ready child Node.bytes = bytes_reads nodes c ready
entered_reads nodes c ready child Node.string = string_reads nodes c ready
entered_reads nodes c ready child (Node.array id) = array_reads nodes id c ready child
entered_reads nodes c ready child (Node.map_of id) = map_reads nodes id c ready child
entered_reads nodes c ready child (Node.union ids) = union_reads nodes c ready child ids
entered_reads nodes c ready child (Node.record_of name aliases fields) = record_reads nodes c ready child name aliases fields
entered_reads nodes c ready child (Node.enum name aliases symbols default) = symbol_reads nodes c ready name aliases symbols default
entered_reads nodes c ready child (Node.fixed name aliases count) = fixed_reads nodes c ready name aliases count

limit_refused : (nodes : List Node) (n : Node) (c : CursorValue) → (c.depth ≡ 0) ⊎ (c.nodes ≡ 0) → Reads nodes n c
limit_refused nodes n c none =
    refused_by nodes n c c ReadError.LimitExceeded (limit_exceeded, refl) (enter_refused nodes n c c ReadError.LimitExceeded (refl, none))

with_nodes : (nodes : List Node) (n : Node) (d k : ℕ) (c : CursorValue) → IsReady (suc d) c → c.nodes ≡ k → Children nodes d → Reads nodes n c
with_nodes nodes n d zero c ready e child = limit_refused nodes n c (inr e)
with_nodes nodes n d (suc k) c ready e child =
    let inside : CursorValue = record c { depth = d; nodes = k } in
    let inside_ready : IsReady inside.depth inside = record { deep = refl; are = ready.are; many = let h = ready.many in omega arith; long = ready.long } in
    let same : outside inside ≡ c = λ i. record c { depth = sym ready.deep i; nodes = sym e i } in
    subst (λ (b : CursorValue). Reads nodes n b) same (entered_reads nodes inside inside_ready child n)

node_reads : (d : ℕ) (nodes : List Node) (n : Node) (c : CursorValue) → IsReady d c → Reads nodes n c
node_reads zero nodes n c ready = limit_refused nodes n c (inl ready.deep)
node_reads (suc d) nodes n c ready = with_nodes nodes n d c.nodes c ready refl (λ id b b_ready. node_reads d nodes (node_at nodes id) b b_ready)

pub encoding_or_fault_lem : (nodes : List Node) (n : Node) (limits : LimitValues) (bytes : List ℕ) → AreBytes bytes → limits.nodes < 2 ^ 32 → limits.blob < 2 ^ 63
    → ((v : Value) × (front rest : List ℕ) × Encodes nodes n v front × (is_within limits v ≡ true) × (bytes ≡ front ++ rest)) ⊎ ((f : ReadFault) × Breaks nodes limits n bytes f)
encoding_or_fault_lem nodes n limits bytes are many long =
    let start = front_of bytes limits in
    elim (node_reads limits.depth nodes n start (record { deep = refl; are = are; many = many; long = long })) [
      | inl g ↦ inl (
        g.1,
        g.2.front,
        g.0.bytes,
        g.2.encoded,
        within-from limits g.1 g.2.deep (let m = g.2.many in omega arith) g.2.long,
        g.2.moves.split,
      )
      | inr b ↦ inr (reported (BreaksWithin nodes limits.depth limits.nodes limits.blob n) start b.0 b.1 b.2)
    ]
