use Rattle.std.proofs.Common.{◌∙◌}
use Rattle.std.proofs.lemmas.Result.{on_err_weaker}
use Rattle.std.specs.Prelude.{option_map}
use Rattle.avro_schema.specs.Node.{root_of}
use Rattle.avro_schema.specs.SeenSchema.{schema_nodes}
use Rattle.avro_display.specs.DisplayTree.{display_text}
use Rattle.avro_display.proofs.public.Fronts.{on_any_err}
use Rattle.avro_display.proofs.public.Putting.{on_ok}
use Rattle.avro_answer.specs.ReadAnswer.{nodes_for}
use Rattle.avro_answer.specs.inside.DatumParts.{text_around}
use Rattle.avro_answer.proofs.DataPuts.{all_put, front_of_display, front_of_last, front_of_tail, none_put}
use Rattle.avro_answer.proofs.data_plan.DataPlan.put_pieces.Goals as goal

pub returns-clause-put : goal.returns-clause-put
returns-clause-put g c = λ u reads.
    let nodes = nodes_for (schema_nodes c.args.self.now.0) (option_map schema_nodes c.args.self.now.1) in
    on_ok (all_put g.O.Output.keeps c.args.form (display_text nodes (root_of nodes) u) c.args.len c.holding-text.result (c.holding-text.ensures ∙ c.in_ok-head.ensures)
    c.args.out.now c.put_datum.new.out c.put_datum.new.text (c.in_ok-put_datum.ensures.put u reads) g.met.O.Output.chain c.put_text.new.out c.as_slice.result.now c.tail.result.now
    (c.as_slice.ensures ∙ c.in_ok-append.ensures.appended) c.tail.ensures)
    c.put_text.result c.put_text.ensures.put

pub returns-clause-front : goal.returns-clause-front
returns-clause-front g c = λ u reads.
    let nodes = nodes_for (schema_nodes c.args.self.now.0) (option_map schema_nodes c.args.self.now.1) in
    on_err_weaker c.put_text.result (front_of_last g.O.Output.keeps c.args.form (display_text nodes (root_of nodes) u) c.args.len c.holding-text.result (c.holding-text.ensures ∙ c.in_ok-head.ensures)
    c.args.out.now c.put_datum.new.out c.put_datum.new.text (c.in_ok-put_datum.ensures.put u reads) g.met.O.Output.chain c.put_text.new.out c.as_slice.result.now c.tail.result.now
    (c.as_slice.ensures ∙ c.in_ok-append.ensures.appended) c.tail.ensures)
    c.put_text.ensures.front

pub returns-in_err-head-clause-front : goal.returns-in_err-head-clause-front
returns-in_err-head-clause-front g c = λ u reads.
    let nodes = nodes_for (schema_nodes c.args.self.now.0) (option_map schema_nodes c.args.self.now.1) in
    let text = text_around c.args.form (display_text nodes (root_of nodes) u) c.args.len in
    on_any_err (none_put g.O.Output.keeps c.args.out.now text (g.met.O.Output.none c.args.out.now)) c.from_residual.result

pub returns-in_err-put_datum-clause-front : goal.returns-in_err-put_datum-clause-front
returns-in_err-put_datum-clause-front g c = λ u reads.
    let nodes = nodes_for (schema_nodes c.args.self.now.0) (option_map schema_nodes c.args.self.now.1) in
    on_any_err (front_of_display g.O.Output.keeps c.args.form (display_text nodes (root_of nodes) u) c.args.len c.holding-text.result (c.holding-text.ensures ∙ c.in_ok-head.ensures)
    c.args.out.now c.put_datum.new.out (c.in_err-put_datum.ensures.front u reads)) c.from_residual-in_err-put_datum.result

pub returns-in_err-append-clause-front : goal.returns-in_err-append-clause-front
returns-in_err-append-clause-front g c = λ u reads.
    let nodes = nodes_for (schema_nodes c.args.self.now.0) (option_map schema_nodes c.args.self.now.1) in
    on_any_err (front_of_tail g.O.Output.keeps c.args.form (display_text nodes (root_of nodes) u) c.args.len c.holding-text.result (c.holding-text.ensures ∙ c.in_ok-head.ensures)
    c.args.out.now c.put_datum.new.out c.put_datum.new.text (c.in_ok-put_datum.ensures.put u reads)) c.from_residual-in_err-append.result
