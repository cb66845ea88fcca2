use Rattle.std.proofs.Common.{◌≡◌}
use Rattle.std.specs.Prelude.{option_map}
use Rattle.avro_schema.specs.SeenSchema.{schema_nodes}
use Rattle.avro_display.proofs.public.Putting.{on_ok}
use Rattle.avro_answer.specs.ReadAnswer.{IsAllFound}
use Rattle.avro_answer.specs.inside.DatumParts.{text_around}
use Rattle.avro_answer.proofs.DataFound.{displayed_text}
use Rattle.avro_answer.proofs.DataPuts.{no_fault}
use Rattle.avro_answer.proofs.data_plan.DataPlan.append.Goals as goal

pub returns-in-Ok-clause-read : goal.returns-in-Ok-clause-read
returns-in-Ok-clause-read c =
    let W = schema_nodes c.args.self.now.0 in
    let R = option_map schema_nodes c.args.self.now.1 in
    let (display, is, stands) = c.in-Ok.ensures.shown in
    on_ok (λ put. (text_around c.args.form display c.in-Ok.len, displayed_text W R c.args.limits.now c.args.bytes.now c.args.form c.in-Ok.len display is, put))
    c.append_shown.result (c.append_shown.ensures.appended display stands)

pub returns-in-Ok-clause-refused : goal.returns-in-Ok-clause-refused
returns-in-Ok-clause-refused c =
    no_fault (IsAllFound (schema_nodes c.args.self.now.0) (option_map schema_nodes c.args.self.now.1) c.args.limits.now 0 c.args.bytes.now) c.append_shown.result c.append_shown.ensures.memory

pub returns-in-Ok-clause-unchanged : goal.returns-in-Ok-clause-unchanged
returns-in-Ok-clause-unchanged c = no_fault (λ _. c.append_shown.new.text.items ≡ c.args.text.now.items) c.append_shown.result c.append_shown.ensures.memory
