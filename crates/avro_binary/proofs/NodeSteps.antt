-- What reading a datum of a node returns, from what reading its parts does.
use Rattle.std.proofs.Common.{◌≡◌, ◌⊎◌, inl, inr, ℕ, zero, suc, ◌+◌, ◌-◌, ◌^◌, ◌<◌, ◌≤◌, pos, true, List, [], ◌∷◌, ◌++◌, length, take, drop, get_or, Ok, Err, Some, refl, sym, ap, ◌∙◌, subst, append-nil, arith}
use Rattle.std.specs.Prelude.{slice_get, bytes_eq, String}
use Rattle.std.specs.List.{concat}
use Rattle.std.proofs.lemmas.List.Folds.{concat-append}
use Rattle.avro_name.specs.Name.{Name}
use Rattle.avro_zigzag.specs.Number.{SpellsInt, SpellsLong}
use Rattle.avro_cursor.specs.Encoding.{Encodes}
use Rattle.avro_schema.specs.Value.{Value, size, depth, longest_blob, values_size, values_depth, values_longest_blob, values_count, entries_count, keys_of}
use Rattle.avro_schema.specs.Node.{Node, FieldNode, node_at, field_ids}
use Rattle.avro_schema.specs.Fits.{fields_fit, is_count}
use Rattle.avro_schema.specs.Seen.{values_from, entries_from, seen_fields, ids_of, texts_of}
use Rattle.avro_schema.specs.declared.schema.Field.{Field}
use Rattle.avro_schema.specs.declared.schema.NodeId.{NodeId}
use Rattle.std.specs.declared.alloc.Global.{Global}
use Rattle.avro_schema.specs.Distinct.{are_distinct}
use Rattle.avro_cursor.specs.Blocks.{IsInBlocks, no_more}
use Rattle.avro_cursor.specs.Encoding.{EachSpelled}
use Rattle.avro_cursor.specs.Fault.{limit_exceeded}
use Rattle.avro_cursor.specs.Breaks.{BreaksWithin, NodeBreaks, FieldsBreak, IndexBreaks}
use Rattle.avro_cursor.specs.Seen.{read_fault}
use Rattle.avro_cursor.specs.CursorValue.{CursorValue, Enters}
use Rattle.avro_cursor.specs.Elements.{Refuses, Finds, IsIndex}
use Rattle.avro_binary.specs.CursorReads.{Moves, FindsValue, ReportsFault, ReadsNode, outside, left_node, left_at, limits_at, child_breaks}
use Rattle.avro_cursor.specs.declared.error.ReadError.{ReadError}
use Rattle.avro_binary.proofs.RunLaws.{Kind, values_kind, entries_kind, values_count-from, entries_count-from, values_size-append, values_depth-append, values_blob-append, EachSpelled-append, fields_fit-push}
use Rattle.avro_binary.proofs.RunSteps.{moves-none, moves-passed, moves-join, moves-same, report_moved, breaks_within-same}
use Rattle.avro_binary.proofs.BlockSteps.{BlocksDone, EndRead}
use Rattle.avro_cursor.proofs.public.Ranges.{is_count-from_below}

-- ---- Entering and leaving

-- a cursor that entered a node was outside it
pub entered-from : (before mid : CursorValue) → Enters before mid → outside mid ≡ before
entered-from before mid e =
    let deep : suc mid.depth ≡ before.depth = let d = e.depth in omega arith in
    let many : suc mid.nodes ≡ before.nodes = let n = e.nodes in omega arith in
    λ i. record { bytes = e.bytes i; offset = e.offset i; depth = deep i; nodes = many i; blob = e.blob i }

pub left-from : (inside after : CursorValue) → after ≡ record inside { depth = inside.depth + 1 } → left_node inside ≡ after
left-from inside after is =
    let deep : suc inside.depth ≡ inside.depth + 1 = omega arith in
    (λ i. record inside { depth = deep i }) ∙ sym is

limit-breaks : (nodes : List Node) (n : Node) (depth_left nodes_left blob : ℕ) (bytes : List ℕ) → (depth_left ≡ 0) ⊎ (nodes_left ≡ 0) → BreaksWithin nodes depth_left nodes_left blob n bytes limit_exceeded
limit-breaks nodes n zero nodes_left blob bytes h = refl
limit-breaks nodes n (suc depth_left) zero blob bytes h = refl
limit-breaks nodes n (suc depth_left) (suc nodes_left) blob bytes (inl h) = absurd (omega arith)
limit-breaks nodes n (suc depth_left) (suc nodes_left) blob bytes (inr h) = absurd (omega arith)

module _ {R : Type 0} {stands : R → Value → Type 0} (nodes : List Node) (n : Node) where
  pub node_left : (before mid inside after : CursorValue) (r : R) → Enters before mid → ReadsNode stands nodes n (outside mid) (left_node inside) (Ok r)
      → after ≡ record inside { depth = inside.depth + 1 } → ReadsNode stands nodes n before after (Ok r)
  node_left before mid inside after r e reads is =
      subst (λ (a : CursorValue). ReadsNode stands nodes n before a (Ok r)) (left-from inside after is)
      (subst (λ (b : CursorValue). ReadsNode stands nodes n b (left_node inside) (Ok r)) (entered-from before mid e) reads)

  pub node_refused : {S : Type 0} {others : S → Value → Type 0} (before mid inside after : CursorValue) (error : ReadError) → Enters before mid
      → ReadsNode others nodes n (outside mid) (left_node inside) (Err error) → ReadsNode stands nodes n before after (Err error)
  node_refused before mid inside after error e reads =
      subst (λ (b : CursorValue). ReadsNode stands nodes n b after (Err error)) (entered-from before mid e) (record { found = tt; refused = reads.refused })

  pub enter_refused : (before after : CursorValue) (error : ReadError) → (read_fault error ≡ Some limit_exceeded) × ((before.depth ≡ 0) ⊎ (before.nodes ≡ 0))
      → ReadsNode stands nodes n before after (Err error)
  enter_refused before after error refused = record {
    found = tt;
    refused = rw (refused.0) (limit_exceeded, limit-breaks nodes n before.depth before.nodes before.blob before.bytes refused.1, refl);
  }

-- ---- Arrays and maps

-- the blocks of an array so far
abbrev pub ArrayDone : List Node → ℕ → CursorValue → CursorValue → List (List ℕ) → List Value → Type 0
ArrayDone nodes id start now keys xs = BlocksDone (values_kind nodes (limits_at start) (node_at nodes id)) start now keys xs

-- the same of a map, with the keys so far
abbrev pub MapDone : List Node → ℕ → CursorValue → CursorValue → List (List ℕ) → List (List ℕ × Value) → Type 0
MapDone nodes id start now keys xs = BlocksDone (entries_kind nodes (limits_at start) (node_at nodes id)) start now keys xs

-- blocks that no more come after
ended : (items : List (List ℕ)) (front end : List ℕ) → ((later : List (List ℕ)) (bytes : List ℕ) → IsInBlocks later bytes → IsInBlocks (items ++ later) (front ++ bytes))
    → SpellsLong (pos 0) end → IsInBlocks items (front ++ end)
ended items front end ends s = subst (λ (is : List (List ℕ)). IsInBlocks is (front ++ end)) (append-nil items) (ends [] end (no_more s))

-- blocks and their end are those of a datum
blocks_found : {R : Type 0} {stands : R → Value → Type 0} {E : Type 0} {kind : Kind E} {start now after : CursorValue} {keys : List (List ℕ)} {xs : List E} (nodes : List Node) (n : Node)
    → (done : BlocksDone kind start now keys xs) (end : EndRead now after) (v : Value) (r : R) → Encodes nodes n v (done.front ++ end.front) → depth v ≤ suc start.depth
    → suc start.nodes ≡ after.nodes + size v → longest_blob v ≤ start.blob → stands r v → ReadsNode stands nodes n (outside start) (left_node after) (Ok r)
blocks_found {start = start} {now = now} {after = after} nodes n done end v r encoded deep many long s =
    let moved = moves-join start now after done.front end.front done.moves (moves-passed now after end.front end.passes) in
    record {
      found = (
        v,
        record {
          front = done.front ++ end.front;
          encoded = encoded;
          deep = deep;
          many = many;
          long = long;
          moves = record { split = moved.split; offset = moved.offset; depth = ap suc moved.depth; blob = moved.blob };
        },
        s,
      );
      refused = tt;
    }

module _ {R : Type 0} {stands : R → Value → Type 0} {start now after : CursorValue} {keys : List (List ℕ)} (nodes : List Node) (id : ℕ) where
  pub array_found : {xs : List Value} → ArrayDone nodes id start now keys xs → EndRead now after → (r : R) → start.nodes < 2 ^ 32 → stands r (Value.array (values_from xs))
      → ReadsNode stands nodes (Node.array id) (outside start) (left_node after) (Ok r)
  array_found {xs = xs} done end r small s =
      let few = (values_kind nodes (limits_at start) (node_at nodes id)).laws.few (left_at start []) (left_at now keys) xs done.items done.stand in
      let counted : is_count (values_count (values_from xs)) ≡ true = ap is_count (values_count-from xs) ∙ is_count-from_below (length xs) (omega arith) in
      blocks_found nodes (Node.array id) done end (Value.array (values_from xs)) r
      (record {
        fitting = rw (counted, done.stand.fitting) refl;
        spelled = (done.items, done.stand.spelled, ended done.items done.front end.front done.ends end.spelled);
      })
      (let d = done.stand.deep in omega arith) (let m = done.stand.many in let p = end.passes.nodes in omega arith) done.stand.long s

  pub map_found : {xs : List (List ℕ × Value)} → MapDone nodes id start now keys xs → EndRead now after → (r : R) → start.nodes < 2 ^ 32 → stands r (Value.map_of (entries_from xs))
      → ReadsNode stands nodes (Node.map_of id) (outside start) (left_node after) (Ok r)
  map_found {xs = xs} done end r small s =
      let few = (entries_kind nodes (limits_at start) (node_at nodes id)).laws.few (left_at start []) (left_at now keys) xs done.items done.stand in
      let counted : is_count (entries_count (entries_from xs)) ≡ true = ap is_count (entries_count-from xs) ∙ is_count-from_below (length xs) (omega arith) in
      let distinct : are_distinct bytes_eq (keys_of (entries_from xs)) ≡ true = ap (are_distinct bytes_eq) (sym done.stand.keys) ∙ done.stand.distinct in
      blocks_found nodes (Node.map_of id) done end (Value.map_of (entries_from xs)) r
      (record {
        fitting = rw (counted, done.stand.texts, distinct, done.stand.fitting) refl;
        spelled = (done.items, done.stand.spelled, ended done.items done.front end.front done.ends end.spelled);
      })
      (let d = done.stand.deep in omega arith) (let m = done.stand.many in let p = end.passes.nodes in omega arith) done.stand.long s

-- ---- Unions

-- where an id is in a list
pub record IsAt (ids : List ℕ) (k id : ℕ) : Type 0 where
  pub before : List ℕ
  pub after : List ℕ
  pub ids_are : ids ≡ before ++ id ∷ after
  pub length_is : length before ≡ k

pub is_at : (ids : List ℕ) (k id : ℕ) → slice_get ids k ≡ Some id → IsAt ids k id
is_at [] k id h = absurd cc
is_at (p ∷ ids) zero id h = record { before = []; after = ids; ids_are = let same : p ≡ id = cc in ap (λ (q : ℕ). q ∷ ids) same; length_is = refl }
is_at (p ∷ ids) (suc k) id h =
    let rest = is_at ids k id h in
    record { before = p ∷ rest.before; after = rest.after; ids_are = ap (λ (ps : List ℕ). p ∷ ps) rest.ids_are; length_is = ap suc rest.length_is }

module _ {R : Type 0} {stands : R → Value → Type 0} (nodes : List Node) (ids : List ℕ) (start mid : CursorValue) where
  -- no index of a branch
  pub branch_unread : (after : CursorValue) (e : ReadError) → Refuses (IndexBreaks (length ids)) start e
      → ReadsNode stands nodes (Node.union ids) (outside start) (left_node after) (Err e)
  branch_unread after e refused = record { found = tt; refused = rw (refused.2) (refused.0, inl refused.1, refl) }

  module _ (k id : ℕ) (at : slice_get ids k ≡ Some id) (found : Finds (λ (x : ℕ). x) (IsIndex (length ids)) start mid k) where
    pub union_found : {S : Type 0} {gives : S → Value → Type 0} (after : CursorValue) (s : S) (r : R) → ReadsNode gives nodes (node_at nodes id) mid after (Ok s)
        → ((v : Value) → gives s v → stands r (Value.union k v)) → ReadsNode stands nodes (Node.union ids) (outside start) (left_node after) (Ok r)
    union_found after s r reads step =
        let v = reads.found.0 in
        let value = reads.found.1 in
        let passes = found.2 in
        let moved = moves-join start mid after found.0 value.front (moves-passed start mid found.0 passes) value.moves in
        record {
          found = (
            Value.union k v,
            record {
              front = found.0 ++ value.front;
              encoded = record {
                fitting = rw (at) (value.encoded.fitting);
                spelled = (found.0, value.front, found.1.1.1, value.encoded.spelled, refl);
              };
              deep = let d = value.deep in let p = passes.depth in omega arith;
              many = let m = value.many in let p = passes.nodes in omega arith;
              long = let l = value.long in let p = passes.blob in omega arith;
              moves = record { split = moved.split; offset = moved.offset; depth = ap suc moved.depth; blob = moved.blob };
            },
            step v reads.found.2,
          );
          refused = tt;
        }

    -- the branch breaks
    pub branch_refused : {S : Type 0} {gives : S → Value → Type 0} (after elsewhere : CursorValue) (e : ReadError) → ReadsNode gives nodes (node_at nodes id) mid elsewhere (Err e)
        → ReadsNode stands nodes (Node.union ids) (outside start) (left_node after) (Err e)
    branch_refused after elsewhere e reads =
        let where_is = is_at ids k id at in
        let passes = found.2 in
        record {
          found = tt;
          refused = report_moved start mid found.0 e (BreaksWithin nodes mid.depth mid.nodes mid.blob (node_at nodes id))
              (NodeBreaks nodes (limits_at start) (child_breaks nodes (limits_at start)) (Node.union ids)) (moves-passed start mid found.0 passes)
              (λ f h. inr (record {
                before = where_is.before;
                branch = id;
                after = where_is.after;
                ids_are = where_is.ids_are;
                number = found.0;
                spelled = subst (λ (q : ℕ). SpellsInt (pos q) found.0) (sym where_is.length_is) found.1.1.1;
                breaks = record {
                  rest = mid.bytes;
                  fault = f;
                  split = passes.split;
                  breaks = subst (λ (left : ℕ). BreaksWithin nodes start.depth left start.blob (node_at nodes id) mid.bytes f) passes.nodes
                      (breaks_within-same nodes mid.depth start.depth mid.nodes mid.blob start.blob (node_at nodes id) mid.bytes f passes.depth passes.blob h);
                  moved = refl;
                };
              })) reads.refused;
        }

-- ---- Records

-- the id of a field, among those of all
pub ids_split : (fields : List Field) (i : ℕ) (d : Field) → i < length fields
    → field_ids (seen_fields fields) ≡ take i (field_ids (seen_fields fields)) ++ (get_or fields i d).node.0 ∷ drop (suc i) (field_ids (seen_fields fields))
ids_split [] i d h = absurd (omega arith)
ids_split (f ∷ fields) zero d h = refl
ids_split (f ∷ fields) (suc i) d h = ap (λ (ps : List ℕ). f.node.0 ∷ ps) (ids_split fields i d (omega arith))

pub ids_next : (fields : List Field) (i : ℕ) (d : Field) → i < length fields
    → take (suc i) (field_ids (seen_fields fields)) ≡ take i (field_ids (seen_fields fields)) ++ (get_or fields i d).node.0 ∷ []
ids_next [] i d h = absurd (omega arith)
ids_next (f ∷ fields) zero d h = refl
ids_next (f ∷ fields) (suc i) d h = ap (λ (ps : List ℕ). f.node.0 ∷ ps) (ids_next fields i d (omega arith))

pub ids_all : (fields : List Field) (i : ℕ) → length fields ≤ i → take i (field_ids (seen_fields fields)) ≡ field_ids (seen_fields fields)
ids_all [] zero h = refl
ids_all [] (suc i) h = refl
ids_all (f ∷ fields) zero h = absurd (omega arith)
ids_all (f ∷ fields) (suc i) h = ap (λ (ps : List ℕ). f.node.0 ∷ ps) (ids_all fields i (omega arith))

-- the id of a branch
pub branch_at : (branches : List NodeId) (k : ℕ) (d : NodeId) → k < length branches → slice_get (ids_of branches) k ≡ Some (get_or branches k d).0
branch_at [] k d h = absurd (omega arith)
branch_at (b ∷ branches) zero d h = refl
branch_at (b ∷ branches) (suc k) d h = branch_at branches k d (omega arith)

pub ids-length : (branches : List NodeId) → length (ids_of branches) ≡ length branches
ids-length [] = refl
ids-length (b ∷ branches) = ap suc (ids-length branches)

pub texts-length : (texts : List (String Global)) → length (texts_of texts) ≡ length texts
texts-length [] = refl
texts-length (t ∷ texts) = ap suc (texts-length texts)

-- values of the fields of some ids were read, one after another
pub record FieldsDone (nodes : List Node) (ids : List ℕ) (start now : CursorValue) (vs : List Value) : Type 0 where
  pub items : List (List ℕ)
  pub fitting : fields_fit nodes ids (values_from vs) ≡ true
  pub spelled : EachSpelled (values_from vs) items
  pub deep : values_depth (values_from vs) ≤ start.depth
  pub many : start.nodes ≡ now.nodes + values_size (values_from vs)
  pub long : values_longest_blob (values_from vs) ≤ start.blob
  pub moves : Moves start (concat items) now

unfoldable pub fields_none : (nodes : List Node) (at : CursorValue) → FieldsDone nodes [] at at []
fields_none nodes at = record {
  items = [];
  fitting = refl;
  spelled = refl;
  deep = omega arith;
  many = omega arith;
  long = omega arith;
  moves = moves-none at;
}

module _ (nodes : List Node) (ids : List ℕ) (start now : CursorValue) (vs : List Value) (done : FieldsDone nodes ids start now vs) where
  -- one more value
  unfoldable pub fields_push : (id : ℕ) (after : CursorValue) (v : Value) → FindsValue nodes (node_at nodes id) now after v
      → FieldsDone nodes (ids ++ id ∷ []) start after (vs ++ v ∷ [])
  fields_push id after v value =
      let d = done.moves.depth in
      let b = done.moves.blob in record {
        items = done.items ++ value.front ∷ [];
        fitting = fields_fit-push nodes ids vs id v done.fitting value.encoded.fitting;
        spelled = EachSpelled-append vs (v ∷ []) done.items (value.front ∷ []) done.spelled (value.front, [], value.encoded.spelled, refl, refl);
        deep = values_depth-append vs (v ∷ []) start.depth done.deep (let h = value.deep in omega arith);
        many = let m = done.many in let k = value.many in omega (arith, values_size-append vs (v ∷ []));
        long = values_blob-append vs (v ∷ []) start.blob done.long (let h = value.long in omega arith);
        moves = moves-same start after (concat done.items ++ value.front) (concat (done.items ++ value.front ∷ []))
            (sym (concat-append done.items (value.front ∷ []) ∙ ap (λ (q : List ℕ). concat done.items ++ q) (append-nil value.front)))
            (moves-join start now after (concat done.items) value.front done.moves value.moves);
      }

  -- a field breaks
  pub field_breaks : (all after_ids : List ℕ) (id : ℕ) → all ≡ ids ++ id ∷ after_ids → (e : ReadError)
      → ReportsFault (BreaksWithin nodes now.depth now.nodes now.blob (node_at nodes id)) now e
      → ReportsFault (FieldsBreak nodes (limits_at start) (child_breaks nodes (limits_at start)) all) start e
  field_breaks all after_ids id are e reported =
      let fewer : now.nodes ≡ start.nodes - values_size (values_from vs) = let m = done.many in omega arith in
      report_moved start now (concat done.items) e (BreaksWithin nodes now.depth now.nodes now.blob (node_at nodes id))
      (FieldsBreak nodes (limits_at start) (child_breaks nodes (limits_at start)) all) done.moves
      (λ f h. record {
        before = ids;
        field = id;
        after = after_ids;
        ids_are = are;
        values = values_from vs;
        items = done.items;
        fitting = done.fitting;
        spelled = done.spelled;
        deep = done.deep;
        many = let m = done.many in omega arith;
        long = done.long;
        breaks = record {
          rest = now.bytes;
          fault = f;
          split = done.moves.split;
          breaks = subst (λ (left : ℕ). BreaksWithin nodes start.depth left start.blob (node_at nodes id) now.bytes f) fewer
              (breaks_within-same nodes now.depth start.depth now.nodes now.blob start.blob (node_at nodes id) now.bytes f done.moves.depth done.moves.blob h);
          moved = refl;
        };
      }) reported

module _ {R : Type 0} {stands : R → Value → Type 0} (nodes : List Node) (name : Name) (aliases : List Name) (fields : List FieldNode) (start now : CursorValue) where
  unfoldable pub record_found : (vs : List Value) (r : R) → FieldsDone nodes (field_ids fields) start now vs → stands r (Value.record_of (values_from vs))
      → ReadsNode stands nodes (Node.record_of name aliases fields) (outside start) (left_node now) (Ok r)
  record_found vs r done s = record {
    found = (
      Value.record_of (values_from vs),
      record {
        front = concat done.items;
        encoded = record { fitting = done.fitting; spelled = (done.items, done.spelled, refl) };
        deep = let d = done.deep in omega arith;
        many = let m = done.many in omega arith;
        long = done.long;
        moves = record { split = done.moves.split; offset = done.moves.offset; depth = ap suc done.moves.depth; blob = done.moves.blob };
      },
      s,
    );
    refused = tt;
  }

  pub record_refused : (e : ReadError) → ReportsFault (FieldsBreak nodes (limits_at start) (child_breaks nodes (limits_at start)) (field_ids fields)) start e
      → ReadsNode stands nodes (Node.record_of name aliases fields) (outside start) (left_node now) (Err e)
  record_refused e reported = record { found = tt; refused = reported }
