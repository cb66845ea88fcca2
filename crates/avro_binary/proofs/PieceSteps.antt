-- Passing the fields of a record, and what stands between the ends of their encodings.
use Rattle.std.proofs.Common.{◌≡◌, ℕ, zero, suc, ◌+◌, ◌-◌, ◌≤◌, true, List, [], ◌∷◌, ◌++◌, length, take, drop, Ok, Err, Some, None, Option, Result, refl, sym, ap, ◌∙◌, subst, append_assoc, length-append, arith}
use Rattle.std.specs.Prelude.{slice_get, slice_index}
use Rattle.std.specs.List.{concat}
use Rattle.std.specs.Result.{is_ok}
use Rattle.std.proofs.lemmas.List.Folds.{concat-append}
use Rattle.std.proofs.Math.Seq.{take-append_seam, drop-append_seam}
use Rattle.avro_schema.specs.Value.{Value}
use Rattle.avro_schema.specs.Seen.{values_from}
use Rattle.avro_cursor.specs.Encoding.{Spells, EachSpelled}
use Rattle.avro_binary.specs.Pieces.{piece, ArePieces}
use Rattle.avro_name.specs.Name.{Name}
use Rattle.avro_schema.specs.Node.{Node, FieldNode, node_at, field_ids}
use Rattle.avro_cursor.specs.CursorValue.{CursorValue, Enters}
use Rattle.avro_binary.specs.CursorReads.{FindsValue, ReadsNode, outside, left_node}
use Rattle.avro_binary.specs.inside.PassesAtOnce.{PassesAtOnce}
use Rattle.avro_cursor.specs.declared.error.ReadError.{ReadError}
use Rattle.avro_binary.proofs.NodeSteps.{FieldsDone, fields_none, fields_push, record_found, entered-from, left-from}

-- where some encodings begin, one after another, and where the last ends
abbrev pub ends_from : ℕ → List (List ℕ) → List ℕ
ends_from start [] = start ∷ []
ends_from start (x ∷ xs) = start ∷ ends_from (start + length x) xs

pub ends-push : (start : ℕ) (xs : List (List ℕ)) (x : List ℕ) → ends_from start (xs ++ x ∷ []) ≡ ends_from start xs ++ (start + length (concat xs) + length x) ∷ []
ends-push start [] x = ap (λ (n : ℕ). start ∷ n ∷ []) (omega arith)
ends-push start (y ∷ ys) x =
    let same : start + length y + length (concat ys) + length x ≡ start + length (y ++ concat ys) + length x = omega (arith, length-append y (concat ys)) in
    ap (λ (ns : List ℕ). start ∷ ns) (ends-push (start + length y) ys x ∙ ap (λ (n : ℕ). ends_from (start + length y) ys ++ n ∷ []) same)

first-end : (start : ℕ) (xs : List (List ℕ)) → slice_index (ends_from start xs) 0 ≡ start
first-end start [] = refl
first-end start (x ∷ xs) = refl

-- what stands behind some bytes
behind-front : (front x more : List ℕ) → take (length front + length x - length front) (drop (length front) (front ++ (x ++ more))) ≡ x
behind-front front x more =
    let count : length front + length x - length front ≡ length x = omega arith in
    ap (λ (ys : List ℕ). take (length front + length x - length front) ys) (drop-append_seam front (x ++ more)) ∙ ap (λ (n : ℕ). take n (x ++ more)) count ∙ take-append_seam x more

-- each encoding stands between its ends
pieces-from : (vs : List Value) (items : List (List ℕ)) (front rest : List ℕ) → EachSpelled (values_from vs) items
    → ArePieces vs (front ++ (concat items ++ rest)) (ends_from (length front) items)
pieces-from [] items front rest spelled k v h = absurd cc
pieces-from (u ∷ vs) items front rest spelled zero v h =
    let x = spelled.0 in
    let others = spelled.1 in
    let more = concat others ++ rest in
    let same : u ≡ v = cc in
    let ends : ends_from (length front) items ≡ length front ∷ ends_from (length front + length x) others = ap (ends_from (length front)) spelled.4 in
    let whole : front ++ (concat items ++ rest) ≡ front ++ (x ++ more) =
    ap (λ (is : List (List ℕ)). front ++ (concat is ++ rest)) spelled.4 ∙ ap (λ (ys : List ℕ). front ++ ys) (append_assoc x (concat others) rest) in
    let next : slice_index (ends_from (length front + length x) others) 0 ≡ length front + length x = first-end (length front + length x) others in
    let is : piece (front ++ (concat items ++ rest)) (ends_from (length front) items) 0 ≡ x =
    ap (λ (ns : List ℕ). piece (front ++ (concat items ++ rest)) ns 0) ends
    ∙ ap (λ (ys : List ℕ). piece ys (length front ∷ ends_from (length front + length x) others) 0) whole
    ∙ ap (λ (n : ℕ). take (n - length front) (drop (length front) (front ++ (x ++ more)))) next
    ∙ behind-front front x more in
    subst (λ (ys : List ℕ). Spells v ys) (sym is) (subst (λ (w : Value). Spells w x) same spelled.2)
pieces-from (u ∷ vs) items front rest spelled (suc k) v h =
    let x = spelled.0 in
    let others = spelled.1 in
    let ends : ends_from (length front) items ≡ length front ∷ ends_from (length front + length x) others = ap (ends_from (length front)) spelled.4 in
    let whole : front ++ (concat items ++ rest) ≡ (front ++ x) ++ (concat others ++ rest) =
    ap (λ (is : List (List ℕ)). front ++ (concat is ++ rest)) spelled.4 ∙ ap (λ (ys : List ℕ). front ++ ys) (append_assoc x (concat others) rest)
    ∙ sym (append_assoc front x (concat others ++ rest)) in
    let more : Spells v (piece ((front ++ x) ++ (concat others ++ rest)) (ends_from (length (front ++ x)) others) k) = pieces-from vs others (front ++ x) rest spelled.3 k v h in
    let is : piece (front ++ (concat items ++ rest)) (ends_from (length front) items) (suc k) ≡ piece ((front ++ x) ++ (concat others ++ rest)) (ends_from (length (front ++ x)) others) k =
    ap (λ (ns : List ℕ). piece (front ++ (concat items ++ rest)) ns (suc k)) ends
    ∙ ap (λ (ys : List ℕ). piece ys (ends_from (length front + length x) others) k) whole
    ∙ ap (λ (n : ℕ). piece ((front ++ x) ++ (concat others ++ rest)) (ends_from n others) k) (sym (length-append front x)) in
    subst (λ (ys : List ℕ). Spells v ys) (sym is) more

-- the same of encodings at the front of bytes
pub pieces_of : (vs : List Value) (items : List (List ℕ)) (bytes rest : List ℕ) → EachSpelled (values_from vs) items → bytes ≡ concat items ++ rest → ArePieces vs bytes (ends_from 0 items)
pieces_of vs items bytes rest spelled split = subst (λ (ys : List ℕ). ArePieces vs ys (ends_from 0 items)) (sym split) (pieces-from vs items [] rest spelled)

-- values of the fields of some ids were passed, and their ends are listed
pub record PiecesDone (nodes : List Node) (ids : List ℕ) (start now : CursorValue) (vs : List Value) (ends : List ℕ) : Type 0 where
  pub done : FieldsDone nodes ids start now vs
  pub listed : ends ≡ ends_from 0 done.items

pub pieces_none : (nodes : List Node) (at : CursorValue) → PiecesDone nodes [] at at [] (0 ∷ [])
unfolding fields_none
pieces_none nodes at = record { done = fields_none nodes at; listed = refl }

pub pieces_push : (nodes : List Node) (ids : List ℕ) (start now after : CursorValue) (vs : List Value) (ends : List ℕ) (id : ℕ) (v : Value) → PiecesDone nodes ids start now vs ends
    → FindsValue nodes (node_at nodes id) now after v → PiecesDone nodes (ids ++ id ∷ []) start after (vs ++ v ∷ []) (ends ++ (after.offset - start.offset) ∷ [])
unfolding fields_push
pieces_push nodes ids start now after vs ends id v passed value =
    let items = passed.done.items in
    let here : after.offset - start.offset ≡ 0 + length (concat items) + length value.front = let a = passed.done.moves.offset in let b = value.moves.offset in omega arith in record {
      done = fields_push nodes ids start now vs passed.done id after v value;
      listed = ap (λ (ns : List ℕ). ns ++ (after.offset - start.offset) ∷ []) passed.listed ∙ ap (λ (n : ℕ). ends_from 0 items ++ n ∷ []) here ∙ sym (ends-push 0 items value.front);
    }

-- all of them are the pieces of a record
pub pieces_found : (nodes : List Node) (name : Name) (aliases : List Name) (fields : List FieldNode) (start now : CursorValue) (vs : List Value) (ends : List ℕ) → PiecesDone nodes (field_ids fields) start now vs ends
    → FindsValue nodes (Node.record_of name aliases fields) (outside start) (left_node now) (Value.record_of (values_from vs)) × ArePieces vs start.bytes ends
unfolding record_found
pieces_found nodes name aliases fields start now vs ends passed = (
  (record_found {stands = λ (r : Unit {0}) (v : Value). Unit {0}} nodes name aliases fields start now vs tt passed.done tt).found.1,
  subst (λ (ns : List ℕ). ArePieces vs start.bytes ns) (sym passed.listed) (pieces_of vs passed.done.items start.bytes now.bytes passed.done.spelled passed.done.moves.split),
)

-- a record is entered before its fields and left behind them
pub found_around : (nodes : List Node) (n : Node) (v : Value) (before mid inside after : CursorValue) → Enters before mid → after ≡ record inside { depth = inside.depth + 1 }
    → FindsValue nodes n (outside mid) (left_node inside) v → FindsValue nodes n before after v
found_around nodes n v before mid inside after entered left found =
    subst (λ (a : CursorValue). FindsValue nodes n before a v) (left-from inside after left)
    (subst (λ (b : CursorValue). FindsValue nodes n b (left_node inside) v) (entered-from before mid entered) found)

-- what a call that read a datum passed
pub passed_of : {R : Type 0} {stands : R → Value → Type 0} (nodes : List Node) (n : Node) (before after : CursorValue) (result : Result R ReadError)
    → ReadsNode stands nodes n before after result → is_ok result ≡ true → (v : Value) × FindsValue nodes n before after v
passed_of nodes n before after (Ok r) reads h = (reads.found.0, reads.found.1)
passed_of nodes n before after (Err e) reads h = absurd cc

-- what is passed by a maker that was kept before
pub passes_kept : {S R : Type 0} (keeps : S → S → Type 0) (stands : S → R → Value → Type 0) (nodes : List Node) (n : Node) (maker mid made : S) (before after : CursorValue) → (keeps mid made → keeps maker made)
    → (result : Result (Option R) ReadError) → PassesAtOnce keeps stands nodes n mid made before after result → PassesAtOnce keeps stands nodes n maker made before after result
passes_kept keeps stands nodes n maker mid made before after kept (Ok (Some r)) passes =
    record { found = (passes.found.0, passes.found.1, (kept passes.found.2.0, passes.found.2.1)); none = λ e. absurd cc; refused = tt }
passes_kept keeps stands nodes n maker mid made before after kept (Ok None) passes =
    record { found = tt; none = λ e. ((passes.none e).0, kept (passes.none e).1); refused = tt }
passes_kept keeps stands nodes n maker mid made before after kept (Err e) passes = record { found = tt; none = tt; refused = passes.refused }
