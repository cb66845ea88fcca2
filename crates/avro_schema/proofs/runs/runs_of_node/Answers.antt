use Rattle.std.proofs.Common.{List, ℕ, [], Option, ap, subst}
use Rattle.std.specs.Prelude.{IfOk, unwrap_or}
use Rattle.avro_schema.specs.Node.{FieldNode, field_ids}
use Rattle.avro_schema.specs.Runs.{AreRuns}
use Rattle.avro_schema.proofs.runs.runs_of_node.Goals as goal

pub returns-in-Some : goal.returns-in-Some
returns-in-Some c = λ nodes are.
    subst (λ (ids : List ℕ). IfOk c.runs_of.result (λ runs. AreRuns nodes ids runs.items))
    (ap (λ (fields : Option (List FieldNode)). field_ids (unwrap_or fields [])) c.in-Some.ensures) (c.runs_of.ensures nodes are)
