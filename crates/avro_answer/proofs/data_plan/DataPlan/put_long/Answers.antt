use Rattle.std.proofs.Common.{refl}
use Rattle.std.specs.Prelude.{option_map}
use Rattle.avro_schema.specs.Node.{root_of}
use Rattle.avro_schema.specs.SeenSchema.{schema_nodes}
use Rattle.avro_display.specs.DisplayTree.{display_text}
use Rattle.avro_answer.specs.ReadAnswer.{nodes_for}
use Rattle.avro_answer.specs.inside.DatumParts.{text_around}
use Rattle.avro_answer.proofs.DataFound.{found_told}
use Rattle.avro_answer.proofs.DataPuts.{as_put}
use Rattle.avro_answer.proofs.data_plan.DataPlan.put_long.Goals as goal

pub returns-in-Ok : goal.returns-in-Ok
returns-in-Ok g c =
    let W = schema_nodes c.args.self.now.0 in
    let R = option_map schema_nodes c.args.self.now.1 in
    let found = c.put_found.ensures in
    let (u, all) = c.in-Ok.ensures.found in
    as_put g.O.Output.keeps g.O.Output.failures g.O.Output.stuck W R c.args.limits.now c.args.form c.args.bytes.now c.args.out.now c.put_found.new.out
    (text_around c.args.form (display_text (nodes_for W R) (root_of (nodes_for W R)) u) c.in-Ok.len)
    (found_told W R c.args.limits.now c.args.bytes.now c.args.form c.in-Ok.len u all) c.put_found.result c.as_data.result c.as_data.ensures
    (found.put u all) (found.front u all) found.works found.fails found.memory

pub returns-in-Err : goal.returns-in-Err
returns-in-Err g c =
    record { put = tt; front = tt; refused = (g.met.O.Output.none c.args.out.now, c.in-Err.ensures.refused); works = tt; fails = λ is. absurd cc; memory = λ is. absurd cc; unused = refl }
