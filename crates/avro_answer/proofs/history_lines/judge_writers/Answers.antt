use Rattle.std.proofs.Common.{◌≡◌, ◌++◌, ◌∙◌, ap}
use Rattle.avro_schema.specs.SeenSchema.{schema_nodes}
use Rattle.avro_answer.specs.declared.form.Form.{Form}
use Rattle.avro_answer.proofs.HistoryLines.{so_far_none, so_far_more}
use Rattle.avro_answer.proofs.history_lines.judge_writers.Goals as goal

pub loop-index-init : goal.loop-index-init
loop-index-init c = so_far_none (c.args.form ≡ Form.Text) (c.args.form ≡ Form.Json) (schema_nodes c.args.reader.now) c.args.limits.now c.new-text.result.items c.new-text.ensures.items

pub loop-index-preserved : goal.loop-index-preserved
loop-index-preserved c =
    so_far_more (c.args.form ≡ Form.Text) (c.args.form ≡ Form.Json) (schema_nodes c.args.reader.now) c.args.limits.now
    c.args.writers.now c.loop-index.index c.index-writers-index.result c.loop-index-test.true c.index-writers-index.is
    c.loop-index.text.items c.in_ok-line.line.text.items c.extend_from_slice.new.self.items c.loop-index.status c.in_ok-line.line.status c.worse-status.result
    c.loop-index.invariant c.in_ok-line.ensures.answered c.in_ok-line.ensures.json c.in_ok-line.ensures.status
    (c.in_ok-extend_from_slice.ensures.items ∙ ap (λ t. c.loop-index.text.items ++ t) c.deref.ensures.value) c.worse-status.ensures
