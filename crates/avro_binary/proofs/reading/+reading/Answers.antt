use Rattle.std.proofs.Common.{zero, suc, get_or, ◌+◌, drop, false, rules, tests, ◌≡◌, refl, sym, ap, ◌∙◌, subst, ℕ, List, [], ◌∷◌, ◌++◌, ◌<◌, ◌≤◌, length, take, arith, true, length-append, append_assoc, append-nil}
use Rattle.std.specs.Prelude.{Some, slice_get, replicate, OnOk, ◌-◌, ◌*◌, ◌^◌}
use Rattle.std.specs.Result.{IfErr}
use Rattle.std.specs.List.{concat}
use Rattle.avro_schema.specs.declared.schema.Field.{Field}
use Rattle.avro_schema.specs.declared.schema.NodeId.{NodeId}
use Rattle.std.proofs.lemmas.Result.{err_from_is_err_and}
use Rattle.avro_schema.specs.Value.{Value, size}
use Rattle.avro_schema.specs.Node.{Node, node_at, field_ids}
use Rattle.avro_schema.specs.Seen.{node_of, ids_of, seen_fields}
use Rattle.avro_schema.specs.Runs.{StartWithEmpties, ids_at}
use Rattle.avro_schema.specs.SeenSchema.{schema_nodes}
use Rattle.avro_cursor.specs.Breaks.{IndexBreaks}
use Rattle.avro_cursor.specs.Elements.{Finds, IsIndex, Refuses}
use Rattle.avro_cursor.specs.Fault.{limit_exceeded}
use Rattle.avro_cursor.specs.Seen.{read_fault}
use Rattle.avro_cursor.specs.CountsAgain.{CountsAgain}
use Rattle.avro_binary.specs.Making.{Made}
use Rattle.avro_cursor.specs.CursorValue.{CursorValue}
use Rattle.avro_binary.specs.CursorReads.{ReadsNode, limits_at}
use Rattle.avro_binary.proofs.BlockSteps.{head_read, end_read, has_size, blocks_none, head_refused, item_refused, size_refused, depth_kept, blob_kept, offset_is, block_smaller, blocks_push}
use Rattle.avro_binary.proofs.EmptyReads.{reads_kept}
use Rattle.avro_binary.proofs.EmptyRuns.{none_passed, run_breaks_off, run_passed}
use Rattle.avro_binary.proofs.NodeKinds.{none_have_parts, no_union_held}
use Rattle.avro_binary.proofs.NodeSteps.{node_left, node_refused, enter_refused, ArrayDone, array_found, map_found, FieldsDone, fields_none, branch_refused, branch_unread, union_found, branch_at, ids-length, fields_push, field_breaks, record_found, record_refused, ids_split, ids_next, ids_all}
use Rattle.avro_cursor.proofs.public.Ranges.{bytes-below}
use Rattle.avro_binary.proofs.Repeated.{others_last, same_reads}
use Rattle.avro_binary.proofs.RunLaws.{values_kind, entries_kind}
use Rattle.avro_binary.proofs.RunSteps.{run_none, run_push, run_breaks, value_run, value_report, entry_run, entry_report, key_report, moves-join, moves-passed}
use Rattle.avro_binary.proofs.reading.+reading.Goals as goal

-- the id of a field
field_id_at : (fields : List Field) (k : ℕ) (d : Field) → k < length fields → slice_get (field_ids (seen_fields fields)) k ≡ Some (get_or fields k d).node.0
field_id_at [] k d h = absurd (omega arith)
field_id_at (f ∷ fields) zero d h = refl
field_id_at (f ∷ fields) (suc k) d h = field_id_at fields k d (omega arith)

-- ---- Arrays

pub read_item_blocks-loop-items-init : goal.read_item_blocks-loop-items-init
read_item_blocks-loop-items-init g t c =
    let nodes = schema_nodes c.args.schema.now in
    ([], blocks_none (values_kind nodes (limits_at c.args.cursor.now) (node_at nodes c.args.id.0)) c.args.cursor.now tt, c.in_ok-items.ensures.kept, c.in_ok-items.ensures.stands nodes c.args.id.0, c.in_ok-items.ensures.stays)

pub read_item_blocks-returns-in_err-block-clause-reads : goal.read_item_blocks-returns-in_err-block-clause-reads
read_item_blocks-returns-in_err-block-clause-reads g t c =
    let p = err_from_is_err_and c.from_residual-in_err-block.result c.from_residual-in_err-block.ensures.1 in
    rw (p.1, p.2) (record { found = tt; refused = head_refused c.loop-items.invariant.1 c.in_err-block.field-0.0 c.in_err-block.ensures.refused })

pub read_item_blocks-returns-in_err-read_items-clause-reads : goal.read_item_blocks-returns-in_err-read_items-clause-reads
read_item_blocks-returns-in_err-read_items-clause-reads g t c =
    let inv = c.loop-items.invariant in
    let done = inv.1 in
    let head = head_read c.loop-items.cursor c.block.new.self c.in-Some.block (rw c.in-Some.is at c.in_ok-block.ensures.found) in
    let read = c.in_err-read_items.ensures.reads (limits_at c.args.cursor.now) (depth_kept done head) (blob_kept done head) in
    let p = err_from_is_err_and c.from_residual-in_err-read_items.result c.from_residual-in_err-read_items.ensures.1 in
    rw (p.1, p.2) (record { found = tt; refused = item_refused done head c.count.result c.in_err-read_items.field-0.0 c.count.ensures read.refused })

pub read_item_blocks-loop-items-smaller : goal.read_item_blocks-loop-items-smaller
read_item_blocks-loop-items-smaller g t c =
    let inv = c.loop-items.invariant in
    let done = inv.1 in
    let head = head_read c.loop-items.cursor c.block.new.self c.in-Some.block (rw c.in-Some.is at c.in_ok-block.ensures.found) in
    let read = c.in_ok-read_items.ensures.reads (limits_at c.args.cursor.now) (depth_kept done head) (blob_kept done head) in
    block_smaller done head read.found.3 (read.found.2 ∙ c.count.ensures)

pub read_item_blocks-loop-items-preserved : goal.read_item_blocks-loop-items-preserved
read_item_blocks-loop-items-preserved g t c =
    let inv = c.loop-items.invariant in
    let done = inv.1 in
    let head = head_read c.loop-items.cursor c.block.new.self c.in-Some.block (rw c.in-Some.is at c.in_ok-block.ensures.found) in
    let read = c.in_ok-read_items.ensures.reads (limits_at c.args.cursor.now) (depth_kept done head) (blob_kept done head) in
    let found = read.found.3 in
    let counted = read.found.2 ∙ c.count.ensures in
    let size = length (concat found.items) in
    let ends = c.in_ok-end_block.ensures c.loop-items.cursor.offset size head.head head.is_block (offset_is done head found counted) in
    (inv.0 ++ read.found.0, subst (λ (keys : List (List ℕ)). ArrayDone (schema_nodes c.args.schema.now) c.args.id.0 c.args.cursor.now c.read_items.new.cursor keys (inv.0 ++ read.found.0)) found.stand.keys (blocks_push done head found counted (has_size tt c.loop-items.cursor.offset head.head size ends)), g.met.M.Make.keeps_on c.args.maker.now c.loop-items.maker c.read_items.new.maker inv.2 read.found.4.0, read.found.4.1 c.args.at inv.0 inv.3, λ front h. c.in_ok-read_items.ensures.stays front (inv.4 front h))

pub read_item_blocks-returns-in_err-end_block-clause-reads : goal.read_item_blocks-returns-in_err-end_block-clause-reads
read_item_blocks-returns-in_err-end_block-clause-reads g t c =
    let inv = c.loop-items.invariant in
    let done = inv.1 in
    let head = head_read c.loop-items.cursor c.block.new.self c.in-Some.block (rw c.in-Some.is at c.in_ok-block.ensures.found) in
    let read = c.in_ok-read_items.ensures.reads (limits_at c.args.cursor.now) (depth_kept done head) (blob_kept done head) in
    let found = read.found.3 in
    let counted = read.found.2 ∙ c.count.ensures in
    let p = err_from_is_err_and c.from_residual-in_err-end_block.result c.from_residual-in_err-end_block.ensures.1 in
    let ends = c.in_err-end_block.ensures c.loop-items.cursor.offset (length (concat found.items)) head.head head.is_block (offset_is done head found counted) in
    rw (p.1, p.2) (record { found = tt; refused = size_refused done head found counted (Unit {0}) c.in_err-end_block.field-0.0 ends })

pub read_item_blocks-returns-clause-reads : goal.read_item_blocks-returns-clause-reads
read_item_blocks-returns-clause-reads g t c =
    let inv = c.loop-items.invariant in
    let nodes = schema_nodes c.args.schema.now in
    let end = end_read c.loop-items.cursor c.block.new.self (rw c.in_default.is at c.in_ok-block.ensures.found) in
    array_found nodes c.args.id.0 inv.1 end c.in_ok-array.field-0 c.nodes-nodes.ensures.in_range (g.met.M.Make.keeps_on c.args.maker.now c.loop-items.maker c.array.new.self inv.2 c.in_ok-array.ensures.kept, c.in_ok-array.ensures.stands nodes c.args.id.0 c.args.at inv.0 inv.3)

-- ---- Maps

pub maps::read_entry_blocks-loop-entries-init : goal.maps::read_entry_blocks-loop-entries-init
maps::read_entry_blocks-loop-entries-init g t c =
    let nodes = schema_nodes c.args.schema.now in
    ([], [], c.new-keys.ensures, blocks_none (entries_kind nodes (limits_at c.args.cursor.now) (node_at nodes c.args.id.0)) c.args.cursor.now refl, c.in_ok-entries.ensures.kept, c.in_ok-entries.ensures.stands nodes c.args.id.0, c.in_ok-entries.ensures.stays)

pub maps::read_entry_blocks-returns-in_err-head-clause-reads : goal.maps::read_entry_blocks-returns-in_err-head-clause-reads
maps::read_entry_blocks-returns-in_err-head-clause-reads g t c =
    let p = err_from_is_err_and c.from_residual-in_err-head.result c.from_residual-in_err-head.ensures.1 in
    rw (p.1, p.2) (record { found = tt; refused = head_refused c.loop-entries.invariant.3 c.in_err-head.field-0.0 c.in_err-head.ensures.refused })

pub maps::read_entry_blocks-returns-clause-reads : goal.maps::read_entry_blocks-returns-clause-reads
maps::read_entry_blocks-returns-clause-reads g t c =
    let inv = c.loop-entries.invariant in
    let nodes = schema_nodes c.args.schema.now in
    let end = end_read c.loop-entries.cursor c.block.new.self (rw c.in_default.is at c.in_ok-head.ensures.found) in
    map_found nodes c.args.id.0 inv.3 end c.in_ok-map.field-0 c.nodes-nodes.ensures.in_range (g.met.M.Make.keeps_on c.args.maker.now c.loop-entries.maker c.map.new.self inv.4 c.in_ok-map.ensures.kept, c.in_ok-map.ensures.stands nodes c.args.id.0 c.args.at inv.0 inv.5)

pub maps::read_entry_blocks-returns-in_err-read_entries-clause-reads : goal.maps::read_entry_blocks-returns-in_err-read_entries-clause-reads
maps::read_entry_blocks-returns-in_err-read_entries-clause-reads g t c =
    let inv = c.loop-entries.invariant in
    let done = inv.3 in
    let head = head_read c.loop-entries.cursor c.block.new.self c.in-Some.head (rw c.in-Some.is at c.in_ok-head.ensures.found) in
    let read = c.in_err-read_entries.ensures.reads (limits_at c.args.cursor.now) inv.1 (depth_kept done head) (blob_kept done head) inv.2 done.stand.distinct in
    let p = err_from_is_err_and c.from_residual-in_err-read_entries.result c.from_residual-in_err-read_entries.ensures.1 in
    rw (p.1, p.2) (record { found = tt; refused = item_refused done head c.count-count.result c.in_err-read_entries.field-0.0 c.count-count.ensures read.refused })

pub maps::read_entry_blocks-loop-entries-smaller : goal.maps::read_entry_blocks-loop-entries-smaller
maps::read_entry_blocks-loop-entries-smaller g t c =
    let inv = c.loop-entries.invariant in
    let done = inv.3 in
    let head = head_read c.loop-entries.cursor c.block.new.self c.in-Some.head (rw c.in-Some.is at c.in_ok-head.ensures.found) in
    let read = c.in_ok-read_entries.ensures.reads (limits_at c.args.cursor.now) inv.1 (depth_kept done head) (blob_kept done head) inv.2 done.stand.distinct in
    block_smaller done head read.found.3 (read.found.2 ∙ c.count-count.ensures)

pub maps::read_entry_blocks-loop-entries-preserved : goal.maps::read_entry_blocks-loop-entries-preserved
maps::read_entry_blocks-loop-entries-preserved g t c =
    let inv = c.loop-entries.invariant in
    let done = inv.3 in
    let head = head_read c.loop-entries.cursor c.block.new.self c.in-Some.head (rw c.in-Some.is at c.in_ok-head.ensures.found) in
    let read = c.in_ok-read_entries.ensures.reads (limits_at c.args.cursor.now) inv.1 (depth_kept done head) (blob_kept done head) inv.2 done.stand.distinct in
    let found = read.found.3 in
    let counted = read.found.2 ∙ c.count-count.ensures in
    let size = length (concat found.items) in
    let ends = c.in_ok-end_block.ensures c.loop-entries.cursor.offset size head.head head.is_block (offset_is done head found counted) in
    (inv.0 ++ read.found.0, read.found.1, read.found.4.0, blocks_push done head found counted (has_size tt c.loop-entries.cursor.offset head.head size ends), g.met.M.Make.keeps_on c.args.maker.now c.loop-entries.maker c.read_entries.new.maker inv.4 read.found.4.1, read.found.4.2 c.args.at inv.0 inv.5, λ front h. c.in_ok-read_entries.ensures.stays front (inv.6 front h))

pub maps::read_entry_blocks-returns-in_err-end_block-clause-reads : goal.maps::read_entry_blocks-returns-in_err-end_block-clause-reads
maps::read_entry_blocks-returns-in_err-end_block-clause-reads g t c =
    let inv = c.loop-entries.invariant in
    let done = inv.3 in
    let head = head_read c.loop-entries.cursor c.block.new.self c.in-Some.head (rw c.in-Some.is at c.in_ok-head.ensures.found) in
    let read = c.in_ok-read_entries.ensures.reads (limits_at c.args.cursor.now) inv.1 (depth_kept done head) (blob_kept done head) inv.2 done.stand.distinct in
    let found = read.found.3 in
    let counted = read.found.2 ∙ c.count-count.ensures in
    let p = err_from_is_err_and c.from_residual-in_err-end_block.result c.from_residual-in_err-end_block.ensures.1 in
    let ends = c.in_err-end_block.ensures c.loop-entries.cursor.offset (length (concat found.items)) head.head head.is_block (offset_is done head found counted) in
    rw (p.1, p.2) (record { found = tt; refused = size_refused done head found counted (Unit {0}) c.in_err-end_block.field-0.0 ends })

-- ---- Entries

pub maps::read_entries-returns-in_err-key-clause-reads : goal.maps::read_entries-returns-in_err-key-clause-reads
maps::read_entries-returns-in_err-key-clause-reads g t c = λ limits before d b are distinct.
    let nodes = schema_nodes c.args.schema.now in
    let n = node_at nodes c.args.id.0 in
    let now = c.loop-done.cursor in
    let so_far = c.loop-done.invariant.1 limits before d b are distinct in
    let xs = so_far.0 in
    let keys = so_far.1 in
    let run = so_far.4 in
    let long = b ∙ sym run.moves.blob in
    let counted = so_far.2 in
    let before_end = c.loop-done-test.true in
    let few : length xs < c.args.count = omega arith in
    let p = err_from_is_err_and c.from_residual.result c.from_residual.ensures.1 in
    let e = c.in_err-key.field-0.0 in
    let read = c.in_err-key.ensures.read keys so_far.3 in
    rw (p.1, p.2) (record { found = tt; refused = run_breaks (entries_kind nodes limits n) run c.args.count e few (key_report nodes limits n now keys e long read.refused) })

pub maps::read_entries-returns-in_err-value-clause-reads : goal.maps::read_entries-returns-in_err-value-clause-reads
maps::read_entries-returns-in_err-value-clause-reads g t c = λ limits before d b are distinct.
    let nodes = schema_nodes c.args.schema.now in
    let n = node_at nodes c.args.id.0 in
    let now = c.loop-done.cursor in
    let so_far = c.loop-done.invariant.1 limits before d b are distinct in
    let xs = so_far.0 in
    let keys = so_far.1 in
    let run = so_far.4 in
    let deep = d ∙ sym run.moves.depth in
    let long = b ∙ sym run.moves.blob in
    let counted = so_far.2 in
    let before_end = c.loop-done-test.true in
    let few : length xs < c.args.count = omega arith in
    let mid = c.key.new.self in
    let read = c.in_ok-key.ensures.read keys so_far.3 in
    let p = err_from_is_err_and c.from_residual-in_err-value.result c.from_residual-in_err-value.ensures.1 in
    let e = c.in_err-value.field-0.0 in
    let reported = entry_report nodes limits n now mid keys c.in_ok-key.key.now read.found.0 e read.found.1 read.found.2 deep long c.in_err-value.ensures.reads.refused in
    rw (p.1, p.2) (record { found = tt; refused = run_breaks (entries_kind nodes limits n) run c.args.count e few reported })

pub maps::read_entries-loop-done-preserved : goal.maps::read_entries-loop-done-preserved
maps::read_entries-loop-done-preserved g t c = (
  let found = c.in_ok-value.ensures.reads.found in found.1.moves.depth ∙ c.in_ok-key.ensures.depth ∙ c.loop-done.invariant.0,
  λ limits before d b are distinct.
      let nodes = schema_nodes c.args.schema.now in
      let n = node_at nodes c.args.id.0 in
      let now = c.loop-done.cursor in
      let so_far = c.loop-done.invariant.1 limits before d b are distinct in
      let xs = so_far.0 in
      let keys = so_far.1 in
      let run = so_far.4 in
      let deep = d ∙ sym run.moves.depth in
      let long = b ∙ sym run.moves.blob in
      let mid = c.key.new.self in
      let read = c.in_ok-key.ensures.read keys so_far.3 in
      let key = c.in_ok-key.key.now in
      let front = read.found.0 in
      let is = read.found.1 in
      let passes = read.found.2 in
      let found = c.in_ok-value.ensures.reads.found in
      let after = c.read_at.new.cursor in
      let v = found.0 in
      let value = found.1 in
      let one = entry_run nodes limits n now mid after keys key front v value ((entries_kind nodes limits n).laws.prepared _ _ xs run.items run.stand) is passes deep long in
      let moved = moves-join now mid after front value.front (moves-passed now mid front passes) value.moves in
      let more = run_push (entries_kind nodes limits n) run after (keys ++ key ∷ []) (key, v) (front ++ value.front) one moved in
      let counted = so_far.2 in
      let maker = c.loop-done.maker in
      let made = c.read_at.new.maker in
      let entries = c.loop-done.entries in
      let is_for = subst (λ (a : g.row.M-At.Denot). g.M.Make.stands_for made nodes n a c.in_ok-value.value v) (c.entry_at-at.ensures ∙ g.met.M.Make.entry_at_kept maker made entries c.args.id.0 found.2.0) found.2.1 in
      let kept = g.met.M.Make.keeps_on c.args.maker.now maker c.entry.new.self so_far.5 (g.met.M.Make.keeps_on maker made c.entry.new.self found.2.0 c.in_ok-entry.ensures.kept) in
      let stand = λ (at : g.row.M-At.Denot) (fs : List (List ℕ × Value)) (h : g.M.Make.entries_stand_for c.args.maker.now nodes c.args.id.0 at c.args.entries.now fs).
      subst (λ (es : List (List ℕ × Value)). g.M.Make.entries_stand_for c.entry.new.self nodes c.args.id.0 at c.entry.new.entries es) (append_assoc fs xs ((key, v) ∷ []))
      (c.in_ok-entry.ensures.stands nodes c.args.id.0 at (fs ++ xs) v (g.met.M.Make.entries_kept maker made nodes c.args.id.0 at entries (fs ++ xs) found.2.0 (so_far.6 at fs h)) is_for) in
      (xs ++ (key, v) ∷ [], keys ++ key ∷ [], omega (arith, length-append xs ((key, v) ∷ [])), read.added, more, kept, stand),
  λ front h. c.in_ok-entry.ensures.stays front (c.in_ok-value.ensures.stays front (c.loop-done.invariant.2 front h)),
)

pub maps::read_entries-returns-clause-reads : goal.maps::read_entries-returns-clause-reads
maps::read_entries-returns-clause-reads g t c = λ limits before d b are distinct.
    let so_far = c.loop-done.invariant.1 limits before d b are distinct in
    let xs = so_far.0 in
    let keys = so_far.1 in
    let run = so_far.4 in
    let counted = so_far.2 in
    let ended = c.loop-done-test.false in
    let inside = c.loop-done.auto._done-end in
    let all : length xs ≡ c.args.count = omega arith in
    record { found = (xs, keys, all, run, (so_far.3, so_far.5, so_far.6)); refused = tt }

-- ---- Items

pub read_items-returns-in_err-value-clause-reads : goal.read_items-returns-in_err-value-clause-reads
read_items-returns-in_err-value-clause-reads g t c = λ limits d b.
    let p = err_from_is_err_and c.from_residual.result c.from_residual.ensures.1 in
    let nodes = schema_nodes c.args.schema.now in
    let n = node_at nodes c.args.id.0 in
    let now = c.loop-done.cursor in
    let so_far = c.loop-done.invariant.1 limits d b in
    let counted = so_far.1 in
    let before_end = c.loop-done-test.true in
    let few : length so_far.0 < c.args.count = omega arith in
    let e = c.in_err-value.field-0.0 in
    let reported = value_report nodes limits n now [] e (d ∙ sym so_far.2.moves.depth) (b ∙ sym so_far.2.moves.blob) c.in_err-value.ensures.reads.refused in
    rw (p.1, p.2) (record { found = tt; refused = run_breaks (values_kind nodes limits n) so_far.2 c.args.count e few reported })

pub read_items-loop-done-preserved : goal.read_items-loop-done-preserved
read_items-loop-done-preserved g t c =
    let found = c.in_ok-value.ensures.reads.found in
    let nodes = schema_nodes c.args.schema.now in
    let n = node_at nodes c.args.id.0 in
    let now = c.loop-done.cursor in
    let after = c.read_at.new.cursor in
    let v = found.0 in
    let value = found.1 in
    let maker = c.loop-done.maker in
    let made = c.read_at.new.maker in
    let items = c.loop-done.items in
    let same = sym (c.add_others-alike.ensures.none c.if-alike.false) in (
      value.moves.depth ∙ c.loop-done.invariant.0,
      λ limits d b.
          let so_far = c.loop-done.invariant.1 limits d b in
          let xs = so_far.0 in
          let counted = so_far.1 in
          let one = value_run nodes limits n now after [] v value (d ∙ sym so_far.2.moves.depth) (b ∙ sym so_far.2.moves.blob) in
          let more = run_push (values_kind nodes limits n) so_far.2 after [] v value.front one value.moves in
          let is_for = subst (λ (a : g.row.M-At.Denot). g.M.Make.stands_for made nodes n a c.in_ok-value.value v) (c.item_at-at.ensures ∙ g.met.M.Make.item_at_kept maker made items c.args.id.0 found.2.0 ∙ sym (c.add_others-alike.ensures.next c.args.id.0)) found.2.1 in
          let kept = g.met.M.Make.keeps_on c.args.maker.now maker c.item.new.self so_far.3 (g.met.M.Make.keeps_on maker made c.item.new.self found.2.0 c.in_ok-item.ensures.kept) in
          let stand = λ (at : g.row.M-At.Denot) (us : List Value) (h : g.M.Make.items_stand_for c.args.maker.now nodes c.args.id.0 at c.args.items.now us).
          let before = subst (λ held. g.M.Make.items_stand_for made nodes c.args.id.0 at held (us ++ xs)) same (g.met.M.Make.items_kept maker made nodes c.args.id.0 at items (us ++ xs) found.2.0 (so_far.4 at us h)) in
          subst (λ (vs : List Value). g.M.Make.items_stand_for c.item.new.self nodes c.args.id.0 at c.item.new.items vs) (append_assoc us xs (v ∷ []))
          (c.in_ok-item.ensures.stands nodes c.args.id.0 at (us ++ xs) v before is_for) in
          (xs ++ v ∷ [], omega (arith, length-append xs (v ∷ [])), more, kept, stand),
      λ front h. c.in_ok-item.ensures.stays front (c.in_ok-value.ensures.stays front (c.loop-done.invariant.2 front h)),
    )

pub read_items-returns-then-alike-clause-reads : goal.read_items-returns-then-alike-clause-reads
read_items-returns-then-alike-clause-reads g t c = λ limits d b.
    let found = c.in_ok-value.ensures.reads.found in
    let nodes = schema_nodes c.args.schema.now in
    let n = node_at nodes c.args.id.0 in
    let now = c.loop-done.cursor in
    let after = c.read_at.new.cursor in
    let v = found.0 in
    let value = found.1 in
    let maker = c.loop-done.maker in
    let made = c.read_at.new.maker in
    let items = c.loop-done.items in
    let so_far = c.loop-done.invariant.1 limits d b in
    let xs = so_far.0 in
    let counted = so_far.1 in
    let before_end = c.loop-done-test.true in
    let alike = c.if-alike.true in
    let added = c.add_others-alike.ensures in
    let others = c.args.count - 1 - c.loop-done.done in
    let stood : length after.bytes ≡ length now.bytes = search (rules, tests) in
    let sized : c.nodes-nodes.result - c.nodes.result ≡ size v = let many = value.many in let a = c.nodes-nodes.ensures.count in let z = c.nodes.ensures.count in omega arith in
    let is_for = subst (λ (a : g.row.M-At.Denot). g.M.Make.stands_for made nodes n a c.in_ok-value.value v) (c.item_at-at.ensures ∙ g.met.M.Make.item_at_kept maker made items c.args.id.0 found.2.0) found.2.1 in
    let is_next = subst (λ (a : g.row.M-At.Denot). g.M.Make.stands_for made nodes n a c.in_ok-value.value v) (sym (added.next c.args.id.0)) is_for in
    let kept = g.met.M.Make.keeps_on c.args.maker.now maker c.item.new.self so_far.3 (g.met.M.Make.keeps_on maker made c.item.new.self found.2.0 c.in_ok-item.ensures.kept) in
    let stand = λ (at : g.row.M-At.Denot) (us : List Value) (h : g.M.Make.items_stand_for c.args.maker.now nodes c.args.id.0 at c.args.items.now us).
    let before = g.met.M.Make.items_kept maker made nodes c.args.id.0 at items (us ++ xs) found.2.0 (so_far.4 at us h) in
    subst (λ (vs : List Value). g.M.Make.items_stand_for c.item.new.self nodes c.args.id.0 at c.item.new.items vs) (others_last us xs v others)
    (c.in_ok-item.ensures.stands nodes c.args.id.0 at ((us ++ xs) ++ replicate others v) v (added.added nodes c.args.id.0 at (us ++ xs) v alike before is_for) is_next) in
    let small : limits.blob < 2 ^ 63 = let r = c.count_again.ensures.in_range.1 in let m = value.moves.blob in let k = so_far.2.moves.blob in omega (arith, r, m, k, b) in
    same_reads nodes limits c.args.id.0 so_far.2 v value stood (d ∙ sym so_far.2.moves.depth) (b ∙ sym so_far.2.moves.blob) c.count_again.result
    (λ vs keys. g.M.Make.keeps c.args.maker.now c.item.new.self × ((at : g.row.M-At.Denot) (us : List Value) → g.M.Make.items_stand_for c.args.maker.now nodes c.args.id.0 at c.args.items.now us → g.M.Make.items_stand_for c.item.new.self nodes c.args.id.0 at c.item.new.items (us ++ vs)))
    c.count_again.new.self others c.args.count c.len-count.ensures.formed (bytes-below after.bytes c.count_again.ensures.are_bytes) c.count_again.ensures.in_range.0 small (omega arith)
    (subst (λ (s : ℕ). OnOk c.count_again.result (CountsAgain after (s * others) c.count_again.new.self)) sized c.count_again.ensures.counted)
    (subst (λ (s : ℕ). IfErr c.count_again.result (λ e. (read_fault e ≡ Some limit_exceeded) × (after.nodes < s * others))) sized c.count_again.ensures.refused) (kept, stand)

pub read_items-returns-clause-reads : goal.read_items-returns-clause-reads
read_items-returns-clause-reads g t c = λ limits d b.
    let so_far = c.loop-done.invariant.1 limits d b in
    let counted = so_far.1 in
    let ended = c.loop-done-test.false in
    let inside = c.loop-done.auto.done-end in
    let all : length so_far.0 ≡ c.args.count = omega arith in
    record { found = (so_far.0, [], all, so_far.2, (so_far.3, so_far.4)); refused = tt }

-- ---- Nodes

pub read_at-returns-in-Record-clause-reads : goal.read_at-returns-in-Record-clause-reads
read_at-returns-in-Record-clause-reads g t c =
    let record_is = c.in-Record.record in
    c.read_record.ensures.reads record_is.name record_is.aliases.items (rw c.deref-in-Record.ensures.value (sym c.get.ensures.node ∙ ap node_of c.in-Record.is))

pub read_at-returns-in-Union-clause-reads : goal.read_at-returns-in-Union-clause-reads
read_at-returns-in-Union-clause-reads g t c =
    let nodes = schema_nodes c.args.schema.now in
    let is = sym c.get.ensures.node ∙ ap node_of c.in-Union.is ∙ ap (λ (ids : List NodeId). Node.union (ids_of ids)) (sym c.deref.ensures.value) in
    rw (is) (c.read_union.ensures.reads (no_union_held nodes c.args.id.0 (ids_of c.deref.result.now) c.get.ensures.formed is))

pub read_at-returns-in_default-clause-reads : goal.read_at-returns-in_default-clause-reads
read_at-returns-in_default-clause-reads g t c =
    let leaf = none_have_parts c.get.result.now c.in_default.not-Array c.in_default.not-Map c.in_default.not-Union c.in_default.not-Record in
    rw (sym c.get.ensures.node) (c.read_leaf.ensures.reads (schema_nodes c.args.schema.now) leaf)

-- ---- Nodes with parts

pub read_array-returns-in_err-enter-clause-reads : goal.read_array-returns-in_err-enter-clause-reads
read_array-returns-in_err-enter-clause-reads g t c =
    let p = err_from_is_err_and c.from_residual.result c.from_residual.ensures.1 in
    rw (p.1, p.2) (enter_refused (schema_nodes c.args.schema.now) (Node.array c.args.id.0) c.args.cursor.now c.enter.new.self c.in_err-enter.field-0.0 c.in_err-enter.ensures.refused)

pub read_array-returns-in_err-out-clause-reads : goal.read_array-returns-in_err-out-clause-reads
read_array-returns-in_err-out-clause-reads g t c =
    let p = err_from_is_err_and c.from_residual-in_err-out.result c.from_residual-in_err-out.ensures.1 in
    rw (p.1, p.2) (node_refused (schema_nodes c.args.schema.now) (Node.array c.args.id.0) c.args.cursor.now c.enter.new.self c.read_item_blocks.new.cursor c.read_item_blocks.new.cursor
    c.in_err-out.field-0.0 c.in_ok-enter.ensures.entered c.in_err-out.ensures.reads)

pub maps::read_map-returns-in_err-enter-clause-reads : goal.maps::read_map-returns-in_err-enter-clause-reads
maps::read_map-returns-in_err-enter-clause-reads g t c =
    let p = err_from_is_err_and c.from_residual.result c.from_residual.ensures.1 in
    rw (p.1, p.2) (enter_refused (schema_nodes c.args.schema.now) (Node.map_of c.args.id.0) c.args.cursor.now c.enter.new.self c.in_err-enter.field-0.0 c.in_err-enter.ensures.refused)

pub maps::read_map-returns-in_err-out-clause-reads : goal.maps::read_map-returns-in_err-out-clause-reads
maps::read_map-returns-in_err-out-clause-reads g t c =
    let p = err_from_is_err_and c.from_residual-in_err-out.result c.from_residual-in_err-out.ensures.1 in
    rw (p.1, p.2) (node_refused (schema_nodes c.args.schema.now) (Node.map_of c.args.id.0) c.args.cursor.now c.enter.new.self c.read_entry_blocks.new.cursor c.read_entry_blocks.new.cursor
    c.in_err-out.field-0.0 c.in_ok-enter.ensures.entered c.in_err-out.ensures.reads)

pub read_union-returns-in_err-enter-clause-reads : goal.read_union-returns-in_err-enter-clause-reads
read_union-returns-in_err-enter-clause-reads g t c = λ plain.
    let p = err_from_is_err_and c.from_residual.result c.from_residual.ensures.1 in
    rw (p.1, p.2) (enter_refused (schema_nodes c.args.schema.now) (Node.union (ids_of c.args.branches.now)) c.args.cursor.now c.enter.new.self c.in_err-enter.field-0.0 c.in_err-enter.ensures.refused)

pub read_union-returns-in_err-out-clause-reads : goal.read_union-returns-in_err-out-clause-reads
read_union-returns-in_err-out-clause-reads g t c = λ plain.
    let p = err_from_is_err_and c.from_residual-in_err-out.result c.from_residual-in_err-out.ensures.1 in
    rw (p.1, p.2) (node_refused (schema_nodes c.args.schema.now) (Node.union (ids_of c.args.branches.now)) c.args.cursor.now c.enter.new.self c.read_branch.new.cursor c.read_branch.new.cursor
    c.in_err-out.field-0.0 c.in_ok-enter.ensures.entered (c.in_err-out.ensures.reads plain))

pub read_union-returns-clause-reads : goal.read_union-returns-clause-reads
read_union-returns-clause-reads g t c = λ plain.
    let read = c.in_ok-out.ensures.reads plain in
    let same = read.found.1.moves.depth in
    let entered = c.in_ok-enter.ensures.entered.depth in
    let shallow = c.in_ok-enter.ensures.shallow in
    let deep : c.read_branch.new.cursor.depth < 256 = omega arith in
    node_left (schema_nodes c.args.schema.now) (Node.union (ids_of c.args.branches.now)) c.args.cursor.now c.enter.new.self
    c.read_branch.new.cursor c.leave.new.self c.in_ok-out.out c.in_ok-enter.ensures.entered read (c.leave.ensures.freed deep)

pub enter_record-returns-in_err-enter-clause-reads : goal.enter_record-returns-in_err-enter-clause-reads
enter_record-returns-in_err-enter-clause-reads g t c = λ name aliases is.
    let p = err_from_is_err_and c.from_residual.result c.from_residual.ensures.1 in
    rw (p.1, p.2) (enter_refused (schema_nodes c.args.schema.now) (Node.record_of name aliases (seen_fields c.args.fields.now)) c.args.cursor.now c.enter.new.self c.in_err-enter.field-0.0 c.in_err-enter.ensures.refused)

pub enter_record-returns-in_err-out-clause-reads : goal.enter_record-returns-in_err-out-clause-reads
enter_record-returns-in_err-out-clause-reads g t c = λ name aliases is.
    let p = err_from_is_err_and c.from_residual-in_err-out.result c.from_residual-in_err-out.ensures.1 in
    rw (p.1, p.2) (node_refused (schema_nodes c.args.schema.now) (Node.record_of name aliases (seen_fields c.args.fields.now)) c.args.cursor.now c.enter.new.self c.read_parts.new.cursor c.read_parts.new.cursor
    c.in_err-out.field-0.0 c.in_ok-enter.ensures.entered (c.in_err-out.ensures.reads name aliases is))

pub enter_record-returns-clause-reads : goal.enter_record-returns-clause-reads
enter_record-returns-clause-reads g t c = λ name aliases is.
    let read = c.in_ok-out.ensures.reads name aliases is in
    let same = read.found.1.moves.depth in
    let entered = c.in_ok-enter.ensures.entered.depth in
    let shallow = c.in_ok-enter.ensures.shallow in
    let deep : c.read_parts.new.cursor.depth < 256 = omega arith in
    node_left (schema_nodes c.args.schema.now) (Node.record_of name aliases (seen_fields c.args.fields.now)) c.args.cursor.now c.enter.new.self
    c.read_parts.new.cursor c.leave.new.self c.in_ok-out.out c.in_ok-enter.ensures.entered read (c.leave.ensures.freed deep)

-- ---- Records

pub records::read_record-returns-in-None-clause-reads : goal.records::read_record-returns-in-None-clause-reads
records::read_record-returns-in-None-clause-reads g t c = λ name aliases is.
    let nodes = schema_nodes c.args.schema.now in
    let n = node_at nodes c.args.id.0 in
    let maker = c.args.maker.now in
    let mid = c.pass_at_once.new.maker in
    let made = c.enter_record.new.maker in
    let after = c.enter_record.new.cursor in
    let result = c.enter_record.result in
    let passed = (c.in_ok-out.ensures.passes name aliases is).none c.in-None.is in
    let at_node = subst (λ (m : Node). ReadsNode (Made g.M.Make.keeps (λ s. g.M.Make.stands_for s nodes m c.args.at) mid made) nodes m c.pass_at_once.new.cursor after result) (sym is) (c.enter_record.ensures.reads name aliases is) in
    reads_kept g.M.Make.keeps (λ s. g.M.Make.stands_for s nodes n c.args.at) nodes n c.args.cursor.now after maker mid made (g.met.M.Make.keeps_on maker mid made passed.1) result
    (subst (λ (before : CursorValue). ReadsNode (Made g.M.Make.keeps (λ s. g.M.Make.stands_for s nodes n c.args.at) mid made) nodes n before after result) passed.0 at_node)

pub fields::read_fields-returns-in_err-value-clause-reads : goal.fields::read_fields-returns-in_err-value-clause-reads
fields::read_fields-returns-in_err-value-clause-reads g t c = λ name aliases.
    let p = err_from_is_err_and c.from_residual-in_err-value.result c.from_residual-in_err-value.ensures.1 in
    let nodes = schema_nodes c.args.schema.now in
    let fields = c.args.fields.now in
    let ids = field_ids (seen_fields fields) in
    let i = c.loop-field.field-index in
    let so_far = c.loop-field.invariant in
    let field = c.field-item.result in
    let below : i < length fields = c.loop-field-test.true in
    let e = c.in_err-value.field-0.0 in
    let are = ids_split fields i field below ∙ ap (λ (f : Field). take i ids ++ f.node.0 ∷ drop (suc i) ids) (sym c.field-item.is) in
    rw (p.1, p.2) (record_refused nodes name aliases (seen_fields fields) c.args.cursor.now c.read_at.new.cursor e
    (field_breaks nodes (take i ids) c.args.cursor.now c.loop-field.cursor so_far.0 so_far.1 ids (drop (suc i) ids) field.node.0 are e c.in_err-value.ensures.reads.refused))

pub fields::read_fields-loop-field-preserved : goal.fields::read_fields-loop-field-preserved
fields::read_fields-loop-field-preserved g t c =
    let nodes = schema_nodes c.args.schema.now in
    let fields = c.args.fields.now in
    let ids = field_ids (seen_fields fields) in
    let i = c.loop-field.field-index in
    let so_far = c.loop-field.invariant in
    let field = c.field-item.result in
    let below : i < length fields = c.loop-field-test.true in
    let found = c.in_ok-value.ensures.reads.found in
    let next : i + 1 ≡ suc i = omega arith in
    let maker = c.loop-field.maker in
    let made = c.read_at.new.maker in
    let values = c.loop-field.values in
    let counted : length so_far.0 ≡ i = so_far.2 in
    let at_field : slice_get ids (length so_far.0) ≡ Some field.node.0 = ap (λ (k : ℕ). slice_get ids k) counted ∙ field_id_at fields i field below ∙ ap (λ (f : Field). Some f.node.0) (sym c.field-item.is) in
    let are : take i ids ++ field.node.0 ∷ [] ≡ take (i + 1) ids =
    ap (λ (f : Field). take i ids ++ f.node.0 ∷ []) c.field-item.is ∙ sym (ids_next fields i field below) ∙ ap (λ (m : ℕ). take m ids) (sym next) in (
      so_far.0 ++ found.0 ∷ [],
      subst (λ (ps : List ℕ). FieldsDone nodes ps c.args.cursor.now c.read_at.new.cursor (so_far.0 ++ found.0 ∷ [])) are
          (fields_push nodes (take i ids) c.args.cursor.now c.loop-field.cursor so_far.0 so_far.1 field.node.0 c.read_at.new.cursor found.0 found.1),
      omega (arith, length-append so_far.0 (found.0 ∷ [])),
      g.met.M.Make.keeps_on c.args.maker.now maker c.field.new.self so_far.3 (g.met.M.Make.keeps_on maker made c.field.new.self found.2.0 c.in_ok-field.ensures.kept),
      c.in_ok-field.ensures.stands nodes (seen_fields fields) field.node.0 c.args.at so_far.0 found.0 (g.met.M.Make.fields_kept maker made nodes (seen_fields fields) c.args.at values so_far.0 found.2.0 so_far.4) at_field
          (subst (λ (a : g.row.M-At.Denot). g.M.Make.stands_for made nodes (node_at nodes field.node.0) a c.in_ok-value.value found.0) (c.field_at-part.ensures ∙ g.met.M.Make.field_at_kept maker made values field.node.0 found.2.0) found.2.1),
      λ front h. c.in_ok-field.ensures.stays front (c.in_ok-value.ensures.stays front (so_far.5 front h)),
    )

pub fields::read_fields-returns-clause-reads : goal.fields::read_fields-returns-clause-reads
fields::read_fields-returns-clause-reads g t c = λ name aliases.
    let nodes = schema_nodes c.args.schema.now in
    let fields = c.args.fields.now in
    let i = c.loop-field.field-index in
    let so_far = c.loop-field.invariant in
    let past : length fields ≤ i = c.loop-field-test.false in
    let done = subst (λ (ps : List ℕ). FieldsDone nodes ps c.args.cursor.now c.loop-field.cursor so_far.0) (ids_all fields i past) so_far.1 in
    record_found nodes name aliases (seen_fields fields) c.args.cursor.now c.loop-field.cursor so_far.0 c.in_ok-record.field-0 done
    (g.met.M.Make.keeps_on c.args.maker.now c.loop-field.maker c.record.new.self so_far.3 c.in_ok-record.ensures.kept, c.in_ok-record.ensures.stands nodes name aliases (seen_fields fields) c.args.at so_far.0 so_far.4 done.fitting)

-- ---- Fields, some of which are passed at once

pub fields::read_parts-returns-then-is_empty-clause-reads : goal.fields::read_parts-returns-then-is_empty-clause-reads
fields::read_parts-returns-then-is_empty-clause-reads g t c = λ name aliases is. c.read_fields.ensures.reads name aliases

pub fields::read_parts-returns-clause-reads : goal.fields::read_parts-returns-clause-reads
fields::read_parts-returns-clause-reads g t c = λ name aliases is.
    let nodes = schema_nodes c.args.schema.now in
    c.read_runs.ensures.reads name aliases (λ k run at. subst (λ (n : Node). StartWithEmpties nodes (drop k (ids_at n)) run) is (c.empty_fields-runs.ensures k run at))

pub fields::read_runs-loop-index-init : goal.fields::read_runs-loop-index-init
fields::read_runs-loop-index-init g t c =
    (refl, c.in_ok-values.ensures.kept, λ tells. ([], fields_none (schema_nodes c.args.schema.now) c.args.cursor.now, refl, c.in_ok-values.ensures.stands (schema_nodes c.args.schema.now) (seen_fields c.args.fields.now)), c.in_ok-values.ensures.stays)

pub fields::read_runs-returns-in_err-passed-clause-reads : goal.fields::read_runs-returns-in_err-passed-clause-reads
fields::read_runs-returns-in_err-passed-clause-reads g t c = λ name aliases tells.
    let p = err_from_is_err_and c.from_residual-in_err-passed.result c.from_residual-in_err-passed.ensures.1 in
    let nodes = schema_nodes c.args.schema.now in
    let ids = field_ids (seen_fields c.args.fields.now) in
    let i = c.loop-index.index in
    let so_far = c.loop-index.invariant.2 tells in
    let refused = c.in_err-passed.ensures.refused (drop i ids) (c.run_at-run.ensures nodes ids tells) in
    let e = c.in_err-passed.field-0.0 in
    rw (p.1, p.2) (record_refused nodes name aliases (seen_fields c.args.fields.now) c.args.cursor.now c.pass_run.new.cursor e
    (run_breaks_off nodes ids i c.args.cursor.now c.loop-index.cursor so_far.0 e c.len-count.ensures.formed so_far.1 refused))

pub fields::read_runs-returns-in_err-value-clause-reads : goal.fields::read_runs-returns-in_err-value-clause-reads
fields::read_runs-returns-in_err-value-clause-reads g t c = λ name aliases tells.
    let p = err_from_is_err_and c.from_residual-in_err-value.result c.from_residual-in_err-value.ensures.1 in
    let nodes = schema_nodes c.args.schema.now in
    let fields = c.args.fields.now in
    let ids = field_ids (seen_fields fields) in
    let i = c.loop-index.index in
    let start = c.args.cursor.now in
    let now = c.pass_run.new.cursor in
    let so_far = c.loop-index.invariant.2 tells in
    let starts = subst (λ (k : ℕ). StartWithEmpties nodes (drop k ids) c.run_at-run.result) (sym so_far.2) (c.run_at-run.ensures nodes ids tells) in
    let more = c.in_ok-passed.ensures.found (seen_fields fields) c.args.at so_far.0 starts so_far.3 in
    let none : c.in_ok-passed.passed ≡ 0 = c.if-passed-eq0.true in
    let done = none_passed nodes ids i c.in_ok-passed.passed start c.loop-index.cursor now so_far.0 more.0 c.len-count.ensures.formed so_far.1 so_far.2 more.2 none in
    let field = c.index-fields-index.result in
    let below : i < length fields = c.loop-index-test.true in
    let id = (get_or fields i field).node.0 in
    let e = c.in_err-value.field-0.0 in
    rw (p.1, p.2) (record_refused nodes name aliases (seen_fields fields) start c.read_apart.new.cursor e
    (field_breaks nodes (take i ids) start now (so_far.0 ++ more.0) done ids (drop (suc i) ids) id (ids_split fields i field below) e c.in_err-value.ensures.reads.refused))

pub fields::read_runs-loop-index-preserved-then-passed-eq0 : goal.fields::read_runs-loop-index-preserved-then-passed-eq0
fields::read_runs-loop-index-preserved-then-passed-eq0 g t c =
    let maker = c.loop-index.maker in
    let made = c.read_apart.new.maker in
    let found = c.in_ok-value.ensures.reads.found in (
      found.1.moves.depth ∙ c.in_ok-passed.ensures.level ∙ c.loop-index.invariant.0,
      g.met.M.Make.keeps_on c.args.maker.now maker c.field.new.self c.loop-index.invariant.1 (g.met.M.Make.keeps_on maker made c.field.new.self found.2.0 c.in_ok-field.ensures.kept),
      λ tells.
          let nodes = schema_nodes c.args.schema.now in
          let fields = c.args.fields.now in
          let ids = field_ids (seen_fields fields) in
          let i = c.loop-index.index in
          let start = c.args.cursor.now in
          let now = c.pass_run.new.cursor in
          let so_far = c.loop-index.invariant.2 tells in
          let starts = subst (λ (k : ℕ). StartWithEmpties nodes (drop k ids) c.run_at-run.result) (sym so_far.2) (c.run_at-run.ensures nodes ids tells) in
          let more = c.in_ok-passed.ensures.found (seen_fields fields) c.args.at so_far.0 starts so_far.3 in
          let none : c.in_ok-passed.passed ≡ 0 = c.if-passed-eq0.true in
          let done = none_passed nodes ids i c.in_ok-passed.passed start c.loop-index.cursor now so_far.0 more.0 c.len-count.ensures.formed so_far.1 so_far.2 more.2 none in
          let xs = so_far.0 ++ more.0 in
          let counted : length xs ≡ i = let n = so_far.2 in let m = more.1 in omega (arith, length-append so_far.0 more.0, n, m, none) in
          let field = c.index-fields-index.result in
          let below : i < length fields = c.loop-index-test.true in
          let next : i + 1 ≡ suc i = omega arith in
          let values = c.pass_run.new.values in
          let id = (get_or fields i field).node.0 in
          let at_field : slice_get ids (length xs) ≡ Some id = ap (λ (k : ℕ). slice_get ids k) counted ∙ field_id_at fields i field below in
          let are : take i ids ++ id ∷ [] ≡ take (i + 1) ids = sym (ids_next fields i field below) ∙ ap (λ (m : ℕ). take m ids) (sym next) in (
            xs ++ found.0 ∷ [],
            subst (λ (ps : List ℕ). FieldsDone nodes ps start c.read_apart.new.cursor (xs ++ found.0 ∷ [])) are
                (fields_push nodes (take i ids) start now xs done id c.read_apart.new.cursor found.0 found.1),
            omega (arith, length-append xs (found.0 ∷ []), counted),
            c.in_ok-field.ensures.stands nodes (seen_fields fields) id c.args.at xs found.0 (g.met.M.Make.fields_kept maker made nodes (seen_fields fields) c.args.at values xs found.2.0 more.3) at_field
                (subst (λ (a : g.row.M-At.Denot). g.M.Make.stands_for made nodes (node_at nodes id) a c.in_ok-value.value found.0) (c.field_at-part.ensures ∙ g.met.M.Make.field_at_kept maker made values id found.2.0) found.2.1),
          ),
      λ front h. c.in_ok-field.ensures.stays front (c.in_ok-value.ensures.stays front (c.loop-index.invariant.3 front h)),
    )

pub fields::read_runs-loop-index-preserved : goal.fields::read_runs-loop-index-preserved
fields::read_runs-loop-index-preserved g t c = (
  c.in_ok-passed.ensures.level ∙ c.loop-index.invariant.0,
  c.loop-index.invariant.1,
  λ tells.
      let nodes = schema_nodes c.args.schema.now in
      let ids = field_ids (seen_fields c.args.fields.now) in
      let i = c.loop-index.index in
      let so_far = c.loop-index.invariant.2 tells in
      let starts = subst (λ (k : ℕ). StartWithEmpties nodes (drop k ids) c.run_at-run.result) (sym so_far.2) (c.run_at-run.ensures nodes ids tells) in
      let more = c.in_ok-passed.ensures.found (seen_fields c.args.fields.now) c.args.at so_far.0 starts so_far.3 in (
        so_far.0 ++ more.0,
        run_passed nodes ids i c.in_ok-passed.passed c.args.cursor.now c.loop-index.cursor c.pass_run.new.cursor so_far.0 more.0 c.len-count.ensures.formed so_far.1 so_far.2 more.2,
        (let n = so_far.2 in let m = more.1 in omega (arith, length-append so_far.0 more.0, n, m)),
        more.3,
      ),
  c.loop-index.invariant.3,
)

pub fields::read_runs-returns-clause-reads : goal.fields::read_runs-returns-clause-reads
fields::read_runs-returns-clause-reads g t c = λ name aliases tells.
    let nodes = schema_nodes c.args.schema.now in
    let fields = c.args.fields.now in
    let i = c.loop-index.index in
    let so_far = c.loop-index.invariant.2 tells in
    let past : length fields ≤ i = c.loop-index-test.false in
    let done = subst (λ (ps : List ℕ). FieldsDone nodes ps c.args.cursor.now c.loop-index.cursor so_far.0) (ids_all fields i past) so_far.1 in
    record_found nodes name aliases (seen_fields fields) c.args.cursor.now c.loop-index.cursor so_far.0 c.in_ok-record.field-0 done
    (g.met.M.Make.keeps_on c.args.maker.now c.loop-index.maker c.record.new.self c.loop-index.invariant.1 c.in_ok-record.ensures.kept, c.in_ok-record.ensures.stands nodes name aliases (seen_fields fields) c.args.at so_far.0 so_far.3 done.fitting)

-- ---- Unions

pub read_branch-returns-in_err-index-clause-reads : goal.read_branch-returns-in_err-index-clause-reads
read_branch-returns-in_err-index-clause-reads g t c = λ plain.
    let branches = c.args.branches.now in
    let start = c.args.cursor.now in
    let e = c.in_err-index.field-0.0 in
    let p = err_from_is_err_and c.from_residual.result c.from_residual.ensures.1 in
    let refused = subst (λ (n : ℕ). Refuses (IndexBreaks n) start e) (sym (ids-length branches)) c.in_err-index.ensures.refused in
    rw (p.1, p.2) (branch_unread (schema_nodes c.args.schema.now) (ids_of branches) start c.index.new.self c.index.new.self e refused)

pub read_branch-returns-in_err-value-clause-reads : goal.read_branch-returns-in_err-value-clause-reads
read_branch-returns-in_err-value-clause-reads g t c = λ plain.
    let nodes = schema_nodes c.args.schema.now in
    let branches = c.args.branches.now in
    let start = c.args.cursor.now in
    let mid = c.index.new.self in
    let after = c.read_at.new.cursor in
    let k = c.in_ok-index.index in
    let found = c.in_ok-index.ensures.found in
    let among = subst (λ (n : ℕ). Finds (λ (x : ℕ). x) (IsIndex n) start mid k) (sym (ids-length branches)) found in
    let branch = get_or branches k (record { 0 = 0 }) in
    let at = branch_at branches k (record { 0 = 0 }) found.1.0 in
    let p = err_from_is_err_and c.from_residual-in_err-value.result c.from_residual-in_err-value.ensures.1 in
    rw (p.1, p.2) (branch_refused nodes (ids_of branches) start mid k branch.0 at among after after c.in_err-value.field-0.0 c.in_err-value.ensures.reads)

pub read_branch-returns-clause-reads : goal.read_branch-returns-clause-reads
read_branch-returns-clause-reads g t c = λ plain.
    let nodes = schema_nodes c.args.schema.now in
    let branches = c.args.branches.now in
    let start = c.args.cursor.now in
    let mid = c.index.new.self in
    let after = c.read_at.new.cursor in
    let k = c.in_ok-index.index in
    let found = c.in_ok-index.ensures.found in
    let among = subst (λ (n : ℕ). Finds (λ (x : ℕ). x) (IsIndex n) start mid k) (sym (ids-length branches)) found in
    let branch = get_or branches k (record { 0 = 0 }) in
    let at = branch_at branches k (record { 0 = 0 }) found.1.0 in
    let maker = c.args.maker.now in
    let made = c.read_at.new.maker in
    let step = λ (v : Value) (is : Made g.M.Make.keeps (λ m. g.M.Make.stands_for m nodes (node_at nodes branch.0) c.branch_at-part.result) maker made c.in_ok-value.value v).
    let part = c.branch_at-part.ensures ∙ g.met.M.Make.branch_at_kept maker made c.args.at k branch.0 is.0 in
    let whole : Made g.M.Make.keeps (λ m. g.M.Make.stands_for m nodes (Node.union (ids_of branches)) c.args.at) maker c.branch-maker.new.self c.in_ok-branch.field-0 (Value.union k v) = (
      g.met.M.Make.keeps_on maker made c.branch-maker.new.self is.0 c.in_ok-branch.ensures.kept,
      c.in_ok-branch.ensures.stands nodes (ids_of branches) branch.0 c.args.at v at (plain k branch.0 at) (subst (λ (a : g.row.M-At.Denot). g.M.Make.stands_for made nodes (node_at nodes branch.0) a c.in_ok-value.value v) part is.1),
    ) in whole in
    union_found nodes (ids_of branches) start mid k branch.0 at among after c.in_ok-value.value c.in_ok-branch.field-0 c.in_ok-value.ensures.reads step

-- ---- Loops that start

pub read_items-loop-done-init : goal.read_items-loop-done-init
read_items-loop-done-init g t c = (
  refl,
  λ limits d b.
      let nodes = schema_nodes c.args.schema.now in
      let n = node_at nodes c.args.id.0 in
      let none = run_none (values_kind nodes limits n) c.args.cursor.now [] tt in
      let kept = λ (at : g.row.M-At.Denot) (us : List Value) (h : g.M.Make.items_stand_for c.args.maker.now nodes c.args.id.0 at c.args.items.now us). subst (λ (vs : List Value). g.M.Make.items_stand_for c.args.maker.now nodes c.args.id.0 at c.args.items.now vs) (sym (append-nil us)) h in
      ([], refl, none, g.met.M.Make.keeps_itself c.args.maker.now, kept),
  λ front h. h,
)

pub maps::read_entries-loop-done-init : goal.maps::read_entries-loop-done-init
maps::read_entries-loop-done-init g t c = (
  refl,
  λ limits before d b are distinct.
      let nodes = schema_nodes c.args.schema.now in
      let n = node_at nodes c.args.id.0 in
      let none = run_none (entries_kind nodes limits n) c.args.cursor.now before distinct in
      let kept = λ (at : g.row.M-At.Denot) (fs : List (List ℕ × Value)) (h : g.M.Make.entries_stand_for c.args.maker.now nodes c.args.id.0 at c.args.entries.now fs).
      subst (λ (es : List (List ℕ × Value)). g.M.Make.entries_stand_for c.args.maker.now nodes c.args.id.0 at c.args.entries.now es) (sym (append-nil fs)) h in
      ([], before, refl, are, none, g.met.M.Make.keeps_itself c.args.maker.now, kept),
  λ front h. h,
)

pub fields::read_fields-loop-field-init : goal.fields::read_fields-loop-field-init
fields::read_fields-loop-field-init g t c =
    ([], fields_none (schema_nodes c.args.schema.now) c.args.cursor.now, refl, c.in_ok-values.ensures.kept, c.in_ok-values.ensures.stands (schema_nodes c.args.schema.now) (seen_fields c.args.fields.now), c.in_ok-values.ensures.stays)
