use Rattle.std.proofs.Common.{arith, sym, ap, ◌∙◌, option_map, ◌++◌, ◌∷◌, string_bytes}
use Rattle.avro_schema.specs.Seen.{node_of}
use Rattle.avro_schema.specs.SeenSchema.{schema_nodes}
use Rattle.avro_canonical.specs.Form.{full_text}
use Rattle.avro_canonical.specs.inside.Pending.{pendings_of, of_node, opening_of, parts_of}
use Rattle.avro_canonical.proofs.StepsTaken.{ok-step, ok-text, step-unnamed, step-again, step-new}
use Rattle.avro_canonical.proofs.writing.write_node.Goals as goal

pub returns-then-is_marked : goal.returns-then-is_marked
returns-then-is_marked c =
    let nodes = schema_nodes c.args.schema.now in
    let ps = pendings_of c.args.parts.now.items in
    let old = string_bytes c.args.out.now in
    ok-text c.put_name.result nodes c.args.marks.now c.args.marks.now (of_node c.args.id.0 ∷ ps) ps old (string_bytes c.put_name.new.out) (old ++ full_text c.in-Some.name.now) c.put_name.ensures
    (step-again nodes c.args.marks.now c.args.id.0 (node_of c.get-node.result.now) c.in-Some.name.now ps old c.get-node.ensures.node (sym c.name.ensures ∙ ap (option_map (λ name. name.now)) c.in-Some.is) (sym c.is_marked.ensures ∙ c.if-is_marked.true))

pub returns-in-None : goal.returns-in-None
returns-in-None c = grind (arith, ok-step, step-unnamed)

pub returns-else-is_marked : goal.returns-else-is_marked
returns-else-is_marked c =
    let nodes = schema_nodes c.args.schema.now in
    let ps = pendings_of c.args.parts.now.items in
    let old = string_bytes c.args.out.now in
    let n = node_of c.get-node.result.now in
    ok-step c.open_node-in-Some.result nodes c.args.marks.now c.mark.new.marks (of_node c.args.id.0 ∷ ps) (pendings_of c.open_node-in-Some.new.parts.items) (parts_of n ++ ps) old
    (string_bytes c.open_node-in-Some.new.out) (old ++ opening_of n) c.open_node-in-Some.ensures.text c.open_node-in-Some.ensures.left
    (rw (c.mark.ensures) (step-new nodes c.args.marks.now c.args.id.0 n c.in-Some.name.now ps old c.get-node.ensures.formed c.get-node.ensures.node (sym c.name.ensures ∙ ap (option_map (λ name. name.now)) c.in-Some.is) (sym c.is_marked.ensures ∙ c.if-is_marked.false)))
