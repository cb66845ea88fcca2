use Rattle.std.proofs.Common.{Some, subst}
use Rattle.std.specs.Option.{IfSome}
use Rattle.avro_schema.specs.SeenSchema.{schema_nodes}
use Rattle.avro_schema.specs.Value.{Value}
use Rattle.avro_schema.specs.declared.schema.Schema.{Schema}
use Rattle.avro_answer.specs.DataRead.{fault_found}
use Rattle.avro_answer.specs.ReadAnswer.{datum, IsAllFound}
use Rattle.avro_answer.proofs.DataFound.{OnlyFound, read_is_found, refusal_is_found}
use Rattle.avro_answer.proofs.data_found.pass_for.Goals as goal

pub returns-in-Ok-clause-found : goal.returns-in-Ok-clause-found
returns-in-Ok-clause-found c =
    let L = c.args.limits.now in
    let B = c.args.bytes.now in
    let p = c.by_ref-plan.result in
    let all = subst (λ (s : Schema). OnlyFound (schema_nodes s)) c.writer.ensures c.one_found.ensures in
    let (u, stands, read) = c.in-Ok.ensures.found in
    subst (λ (p : Schema × Schema). (u : Value) × IsAllFound (schema_nodes p.0) (Some (schema_nodes p.1)) L 0 B (datum u c.in-Ok.read.1)) c.by_ref-plan.ensures
    (u, read_is_found (schema_nodes p.0) all L B (schema_nodes p.1) c.in-Ok.read.1 u read)

pub returns-in-Err-clause-refused : goal.returns-in-Err-clause-refused
returns-in-Err-clause-refused c =
    let L = c.args.limits.now in
    let B = c.args.bytes.now in
    let p = c.by_ref-plan.result in
    let all = subst (λ (s : Schema). OnlyFound (schema_nodes s)) c.writer.ensures c.one_found.ensures in
    subst (λ (p : Schema × Schema). IfSome (fault_found c.in-Err.error) (IsAllFound (schema_nodes p.0) (Some (schema_nodes p.1)) L 0 B)) c.by_ref-plan.ensures
    (refusal_is_found (schema_nodes p.0) all L B (schema_nodes p.1) c.in-Err.error (λ f is. rw is at c.in-Err.ensures.faulty) (λ e is. rw is at c.in-Err.ensures.refused))
