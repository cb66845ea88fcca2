use Rattle.std.proofs.Common.{◌≡◌, ℕ, ◌+◌, List, [], ◌∷◌, ◌++◌, length, sym, ◌∙◌, ap, subst, arith}
use Rattle.std.proofs.lemmas.Grind.{common_steps}
use Rattle.avro_schema.specs.declared.schema.Schema.{Schema}
use Rattle.avro_schema.specs.SeenSchema.{schema_nodes}
use Rattle.avro_history.specs.ConfirmedHistory.{are_closed, nodes_of_all}
use Rattle.avro_history.proofs.ConfirmedSoFar.{ConfirmedSoFar, some_at, uneven, confirmed_one}
use Rattle.avro_history.proofs.confirming.confirm_history.Goals as goal

pub returns-then-writers-certificates-clause-refused : goal.returns-then-writers-certificates-clause-refused
returns-then-writers-certificates-clause-refused c =
    ap (λ l. are_closed (nodes_of_all c.args.writers.now) (schema_nodes c.args.reader.now) l) (sym c.certificates-certificates.ensures)
    ∙ uneven c.args.writers.now (schema_nodes c.args.reader.now) c.certificates-certificates.result.now (λ e. grind (arith, common_steps))

pub loop-i-preserved : goal.loop-i-preserved
loop-i-preserved c =
    let W = c.args.writers.now in
    let C = c.certificates-certificates.result.now in
    let told = c.in_ok-approved.ensures in
    let is = some_at c.in_ok-approved.field-0 c.in-Some.approved _ c.in-Some.is told.of_these in
    let even : length W ≡ length C = grind (arith, common_steps) in
    let pushed : c.push.new.self.items ≡ c.loop-i.approvals.items ++ (c.in-Some.approved ∷ []) = grind (arith, common_steps) in
    subst (λ (l : List (Schema × Schema)). ConfirmedSoFar W c.args.reader.now C (c.loop-i.i + 1) l)
    (sym (pushed ∙ ap (λ (p : Schema × Schema). c.loop-i.approvals.items ++ (p ∷ [])) is))
    (confirmed_one W c.args.reader.now C c.loop-i.i c.loop-i.approvals.items c.loop-i.invariant c.index-writers-i.result c.index-certificates-i.result
    c.loop-i-test.true (omega (arith, even, c.loop-i-test.true)) c.index-writers-i.is c.index-certificates-i.is
    (some_at c.in_ok-approved.field-0 c.in-Some.approved _ c.in-Some.is told.confirmed)
    (some_at c.in_ok-approved.field-0 c.in-Some.approved _ c.in-Some.is told.compatible))
