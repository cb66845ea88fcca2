use Rattle.std.specs.Prelude.{option_map}
use Rattle.avro_schema.specs.SeenSchema.{schema_nodes}
use Rattle.avro_answer.specs.inside.DatumParts.{text_around}
use Rattle.avro_answer.proofs.DataFound.{displayed_text}
use Rattle.avro_answer.proofs.DataPuts.{as_put}
use Rattle.avro_answer.proofs.data_plan.DataPlan.put.Goals as goal

pub returns-in-Ok : goal.returns-in-Ok
returns-in-Ok g c =
    let W = schema_nodes c.args.self.now.0 in
    let R = option_map schema_nodes c.args.self.now.1 in
    let shown = c.put_shown.ensures in
    let (display, is, stands) = c.in-Ok.ensures.shown in
    as_put g.O.Output.keeps g.O.Output.failures g.O.Output.stuck W R c.args.limits.now c.args.form c.args.bytes.now c.args.out.now c.put_shown.new.out (text_around c.args.form display c.in-Ok.len)
    (displayed_text W R c.args.limits.now c.args.bytes.now c.args.form c.in-Ok.len display is) c.put_shown.result c.as_data.result c.as_data.ensures
    (shown.put display stands) (shown.front display stands) shown.works shown.fails shown.memory
