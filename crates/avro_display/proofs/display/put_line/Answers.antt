use Rattle.std.proofs.Common.{◌≡◌, ◌++◌, ◌∷◌, [], ap, rules, subst}
use Rattle.std.proofs.lemmas.Result.{on_err_weaker}
use Rattle.avro_schema.specs.Node.{node_at, root_of}
use Rattle.avro_schema.specs.Seen.{value_of}
use Rattle.avro_schema.specs.SeenSchema.{schema_nodes}
use Rattle.avro_device.specs.PutFront.{PutsFrontOf}
use Rattle.avro_display.specs.DisplayTree.{display_text}
use Rattle.avro_display.specs.Pieces.{PutsText}
use Rattle.avro_display.proofs.public.Fronts.{fronts_both, fronts_longer, on_any_err}
use Rattle.avro_display.proofs.public.Putting.{on_ok, puts_both}
use Rattle.avro_display.proofs.display.put_line.Goals as goal

pub returns-clause-put : goal.returns-clause-put
returns-clause-put g c =
    let nodes = schema_nodes c.args.table.now in
    let value = value_of c.args.datum.now in
    let old = c.args.text.now in
    let root : node_at nodes c.root-root.result.0 ≡ root_of nodes = ap (node_at nodes) (search rules) in
    on_ok (λ step. subst (λ n. PutsText g.O.Output.keeps c.args.out.now old (display_text nodes n value ++ 10 ∷ []) c.put_byte.new.out c.put_byte.new.text) root
    (puts_both g.O.Output.keeps g.met.O.Output.chain _ _ _ old (display_text nodes (node_at nodes c.root-root.result.0) value) _ _ _ c.in_ok-put_datum.ensures.put step))
    c.put_byte.result c.put_byte.ensures.put

pub returns-in_err-put_datum-clause-front : goal.returns-in_err-put_datum-clause-front
returns-in_err-put_datum-clause-front g c =
    let nodes = schema_nodes c.args.table.now in
    let value = value_of c.args.datum.now in
    let old = c.args.text.now in
    let root : node_at nodes c.root-root.result.0 ≡ root_of nodes = ap (node_at nodes) (search rules) in
    on_any_err (subst (λ n. PutsFrontOf g.O.Output.keeps c.args.out.now c.put_datum.new.out (old ++ (display_text nodes n value ++ 10 ∷ []))) root
    (fronts_longer g.O.Output.keeps _ _ old (display_text nodes (node_at nodes c.root-root.result.0) value) (10 ∷ []) c.in_err-put_datum.ensures.front))
    c.from_residual.result

pub returns-clause-front : goal.returns-clause-front
returns-clause-front g c =
    let nodes = schema_nodes c.args.table.now in
    let value = value_of c.args.datum.now in
    let old = c.args.text.now in
    let root : node_at nodes c.root-root.result.0 ≡ root_of nodes = ap (node_at nodes) (search rules) in
    on_err_weaker c.put_byte.result (λ step. subst (λ n. PutsFrontOf g.O.Output.keeps c.args.out.now c.put_byte.new.out (old ++ (display_text nodes n value ++ 10 ∷ []))) root
    (fronts_both g.O.Output.keeps g.met.O.Output.chain _ _ _ old (display_text nodes (node_at nodes c.root-root.result.0) value) _ _ c.in_ok-put_datum.ensures.put step))
    c.put_byte.ensures.front
