use Rattle.std.proofs.Common.{◌≡◌}
use Rattle.avro_schema.specs.SeenSchema.{schema_nodes}
use Rattle.avro_answer.specs.declared.form.Form.{Form}
use Rattle.avro_answer.proofs.HistoryLines.{LinesSoFar, first_nodes}
use Rattle.avro_answer.proofs.history_lines.judge_writers.Given as goal

abbrev pub invariant-loop-index : goal.invariant-loop-index
invariant-loop-index l = LinesSoFar (l.form ≡ Form.Text) (l.form ≡ Form.Json) (first_nodes l.index l.writers) (schema_nodes l.reader) l.limits l.text.items l.status
