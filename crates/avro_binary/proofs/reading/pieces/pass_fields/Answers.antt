use Rattle.std.proofs.Common.{◌≡◌, ℕ, suc, ◌+◌, ◌-◌, ◌≤◌, ◌<◌, List, [], ◌∷◌, ◌++◌, length, take, sym, ap, ◌∙◌, subst, arith}
use Rattle.avro_schema.specs.Node.{field_ids}
use Rattle.avro_schema.specs.Seen.{seen_fields}
use Rattle.avro_schema.specs.SeenSchema.{schema_nodes}
use Rattle.avro_schema.specs.declared.schema.Field.{Field}
use Rattle.avro_binary.proofs.NodeSteps.{ids_next, ids_all}
use Rattle.avro_binary.proofs.PieceSteps.{PiecesDone, pieces_none, pieces_push, pieces_found}
use Rattle.avro_binary.proofs.reading.pieces.pass_fields.Goals as goal

pub loop-field-init : goal.loop-field-init
loop-field-init c =
    let ends : c.push.new.self.items ≡ 0 ∷ [] = c.in_ok-push.ensures.items ∙ ap (λ (ns : List ℕ). ns ++ 0 ∷ []) c.clear.ensures.items in
    ([], subst (λ (ns : List ℕ). PiecesDone (schema_nodes c.args.schema.now) [] c.args.cursor.now c.args.cursor.now [] ns) (sym ends) (pieces_none (schema_nodes c.args.schema.now) c.args.cursor.now))

pub loop-field-preserved : goal.loop-field-preserved
loop-field-preserved c =
    let nodes = schema_nodes c.args.schema.now in
    let fields = c.args.fields.now in
    let ids = field_ids (seen_fields fields) in
    let i = c.loop-field.field-index in
    let start = c.args.cursor.now in
    let after = c.pass_leaf.new.cursor in
    let so_far = c.loop-field.invariant in
    let field = c.field-item.result in
    let below : i < length fields = c.loop-field-test.true in
    let found = c.pass_leaf.ensures c.if-not-pass_leaf.false in
    let next : i + 1 ≡ suc i = omega arith in
    let are : take i ids ++ field.node.0 ∷ [] ≡ take (i + 1) ids =
    ap (λ (f : Field). take i ids ++ f.node.0 ∷ []) c.field-item.is ∙ sym (ids_next fields i field below) ∙ ap (λ (m : ℕ). take m ids) (sym next) in
    let xs = so_far.0 ++ found.0 ∷ [] in
    let more = pieces_push nodes (take i ids) start c.loop-field.cursor after so_far.0 c.loop-field.ends.items field.node.0 found.0 so_far.1 found.1 in
    let ends : c.loop-field.ends.items ++ (after.offset - start.offset) ∷ [] ≡ c.push-in-loop-field.new.self.items =
    ap (λ (n : ℕ). c.loop-field.ends.items ++ n ∷ []) (ap (λ (n : ℕ). n - start.offset) (sym c.offset.ensures) ∙ ap (λ (n : ℕ). c.offset.result - n) (sym c.offset-start.ensures)) ∙ sym c.in_ok-push-2.ensures.items in
    (xs, subst (λ (ps : List ℕ). PiecesDone nodes ps start after xs c.push-in-loop-field.new.self.items) are (subst (λ (ns : List ℕ). PiecesDone nodes (take i ids ++ field.node.0 ∷ []) start after xs ns) ends more))

pub returns : goal.returns
returns c = λ name aliases is.
    let nodes = schema_nodes c.args.schema.now in
    let fields = c.args.fields.now in
    let i = c.loop-field.field-index in
    let so_far = c.loop-field.invariant in
    let past : length fields ≤ i = c.loop-field-test.false in
    let done = subst (λ (ps : List ℕ). PiecesDone nodes ps c.args.cursor.now c.loop-field.cursor so_far.0 c.loop-field.ends.items) (ids_all fields i past) so_far.1 in
    let found = pieces_found nodes name aliases (seen_fields fields) c.args.cursor.now c.loop-field.cursor so_far.0 c.loop-field.ends.items done in
    (so_far.0, found.0, found.1)
