use Rattle.std.proofs.Common.{◌≡◌, ℕ, List, Some, subst}
use Rattle.std.specs.Prelude.{IfOk}
use Rattle.std.specs.Option.{IfSome}
use Rattle.std.specs.Result.{IfErr}
use Rattle.avro_schema.specs.SeenSchema.{schema_nodes}
use Rattle.avro_schema.specs.declared.schema.Schema.{Schema}
use Rattle.avro_show.specs.Spans.{StandsIn}
use Rattle.avro_answer.specs.DataRead.{fault_found}
use Rattle.avro_answer.specs.ReadAnswer.{IsAllFound}
use Rattle.avro_answer.specs.inside.AtFront.{IsDisplayed}
use Rattle.avro_answer.proofs.DataFound.{OnlyFound, read_is_displayed, refusals_are_found}
use Rattle.avro_answer.proofs.data_found.display_for.Goals as goal

pub returns-clause-shown : goal.returns-clause-shown
returns-clause-shown c =
    let scratch = c.display_resolved.new.scratch in
    let L = c.args.limits.now in
    let B = c.args.bytes.now in
    let p = c.by_ref-plan.result in
    let all = subst (λ (s : Schema). OnlyFound (schema_nodes s)) c.writer.ensures c.one_found.ensures in
    subst (λ (p : Schema × Schema). schema_nodes c.args.table.now ≡ schema_nodes p.1 → IfOk c.display_resolved.result (λ len. (display : List ℕ)
    × IsDisplayed (schema_nodes p.0) (Some (schema_nodes p.1)) L B len display × StandsIn scratch.text scratch.shown display))
    c.by_ref-plan.ensures
    (λ same. read_is_displayed (schema_nodes p.0) all L B (schema_nodes p.1) (StandsIn scratch.text scratch.shown) (schema_nodes c.args.table.now) same
    c.display_resolved.result (c.display_resolved.ensures.found same))

pub returns-clause-refused : goal.returns-clause-refused
returns-clause-refused c =
    let L = c.args.limits.now in
    let B = c.args.bytes.now in
    let p = c.by_ref-plan.result in
    let all = subst (λ (s : Schema). OnlyFound (schema_nodes s)) c.writer.ensures c.one_found.ensures in
    subst (λ (p : Schema × Schema). IfErr c.display_resolved.result (λ e. IfSome (fault_found e) (IsAllFound (schema_nodes p.0) (Some (schema_nodes p.1)) L 0 B)))
    c.by_ref-plan.ensures
    (refusals_are_found (schema_nodes p.0) all L B (schema_nodes p.1) c.display_resolved.result c.display_resolved.ensures.faulty c.display_resolved.ensures.refused)
