use Rattle.std.proofs.Common.{◌∷◌, []}
use Rattle.std.proofs.lemmas.Result.{on_err_weaker}
use Rattle.avro_schema.specs.Node.{root_of}
use Rattle.avro_schema.specs.SeenSchema.{schema_nodes}
use Rattle.avro_display.specs.DisplayTree.{display_text}
use Rattle.avro_display.proofs.public.Fronts.{fronts_both, fronts_longer, on_any_err}
use Rattle.avro_display.proofs.public.Putting.{on_ok, puts_both}
use Rattle.avro_show.proofs.show.put_resolved_line.Goals as goal

pub returns-clause-put : goal.returns-clause-put
returns-clause-put g c = λ u resolved.
    let nodes = schema_nodes c.args.resolved.now.table.now in
    on_ok (λ step. puts_both g.O.Output.keeps g.met.O.Output.chain c.args.out.now c.put_resolved.new.out c.put_byte.new.out c.args.text.now (display_text nodes (root_of nodes) u) c.put_resolved.new.text
    (10 ∷ []) c.put_byte.new.text (c.in_ok-put_resolved.ensures.put u resolved) step)
    c.put_byte.result c.put_byte.ensures.put

pub returns-in_err-put_resolved-clause-front : goal.returns-in_err-put_resolved-clause-front
returns-in_err-put_resolved-clause-front g c = λ u resolved.
    let nodes = schema_nodes c.args.resolved.now.table.now in
    on_any_err (fronts_longer g.O.Output.keeps c.args.out.now c.put_resolved.new.out c.args.text.now (display_text nodes (root_of nodes) u) (10 ∷ [])
    (c.in_err-put_resolved.ensures.front u resolved))
    c.from_residual.result

pub returns-clause-front : goal.returns-clause-front
returns-clause-front g c = λ u resolved.
    let nodes = schema_nodes c.args.resolved.now.table.now in
    on_err_weaker c.put_byte.result (λ step. fronts_both g.O.Output.keeps g.met.O.Output.chain c.args.out.now c.put_resolved.new.out c.put_byte.new.out c.args.text.now (display_text nodes (root_of nodes) u) c.put_resolved.new.text
    (10 ∷ []) (c.in_ok-put_resolved.ensures.put u resolved) step)
    c.put_byte.ensures.front
