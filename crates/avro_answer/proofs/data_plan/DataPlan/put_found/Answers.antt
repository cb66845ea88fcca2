use Rattle.std.specs.Prelude.{option_map}
use Rattle.avro_schema.specs.Node.{root_of}
use Rattle.avro_schema.specs.SeenSchema.{schema_nodes}
use Rattle.avro_display.specs.DisplayTree.{display_text}
use Rattle.avro_display.proofs.public.Fronts.{on_any_err}
use Rattle.avro_answer.specs.ReadAnswer.{nodes_for}
use Rattle.avro_answer.specs.inside.DatumParts.{text_around}
use Rattle.avro_answer.proofs.DataPuts.{none_put}
use Rattle.avro_answer.proofs.data_plan.DataPlan.put_found.Goals as goal

pub returns-clause-put : goal.returns-clause-put
returns-clause-put g c = λ u all. c.put_pieces.ensures.put u (c.in_ok-datum.ensures u c.args.len all)

pub returns-clause-front : goal.returns-clause-front
returns-clause-front g c = λ u all. c.put_pieces.ensures.front u (c.in_ok-datum.ensures u c.args.len all)

pub returns-in_err-datum-clause-front : goal.returns-in_err-datum-clause-front
returns-in_err-datum-clause-front g c = λ u all.
    let nodes = nodes_for (schema_nodes c.args.self.now.0) (option_map schema_nodes c.args.self.now.1) in
    let text = text_around c.args.form (display_text nodes (root_of nodes) u) c.args.len in
    on_any_err (none_put g.O.Output.keeps c.args.out.now text (g.met.O.Output.none c.args.out.now)) c.from_residual.result
