use Rattle.std.proofs.Common.{◌∙◌, ◌++◌, List, ℕ, ap, append-nil}
use Rattle.std.specs.Prelude.{vec_items}
use Rattle.avro_answer.specs.DataRead.{fault_found}
use Rattle.avro_answer.proofs.DataPuts.{surely}
use Rattle.avro_answer.proofs.data_plan.DataPlan.append_long.Goals as goal

pub returns-in-Ok-clause-read : goal.returns-in-Ok-clause-read
returns-in-Ok-clause-read c =
    let (line, told, kept) = c.in-Ok.ensures.put in
    (line, told, ap vec_items c.into_inner.ensures ∙ kept ∙ ap (λ (text : List ℕ). text ++ line) (ap vec_items (c.new-out.ensures.writer ∙ c.replace.ensures.value)))

pub returns-in-Err-Refused-clause-refused : goal.returns-in-Err-Refused-clause-refused
returns-in-Err-Refused-clause-refused c = (rw c.in-Err-Refused.field-0-is at c.in-Err-Refused.ensures.refused).1

pub returns-in-Err-Refused-clause-unchanged : goal.returns-in-Err-Refused-clause-unchanged
returns-in-Err-Refused-clause-unchanged c =
    let kept = (rw c.in-Err-Refused.field-0-is at c.in-Err-Refused.ensures.refused).0 in
    surely (fault_found c.in-Err-Refused.error) (ap vec_items c.into_inner.ensures ∙ kept ∙ append-nil c.new-out.result.writer.items ∙ ap vec_items (c.new-out.ensures.writer ∙ c.replace.ensures.value))
