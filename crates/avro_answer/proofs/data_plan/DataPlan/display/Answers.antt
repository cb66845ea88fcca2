use Rattle.std.proofs.Common.{ℕ, List, Option, None, subst}
use Rattle.std.specs.Prelude.{IfOk}
use Rattle.std.specs.Option.{IfSome}
use Rattle.std.specs.Result.{IfErr}
use Rattle.avro_schema.specs.Node.{Node}
use Rattle.avro_schema.specs.SeenSchema.{schema_nodes}
use Rattle.avro_show.specs.Spans.{StandsIn}
use Rattle.avro_answer.specs.DataRead.{fault_found}
use Rattle.avro_answer.specs.ReadAnswer.{IsAllFound}
use Rattle.avro_answer.specs.inside.AtFront.{IsDisplayed}
use Rattle.avro_answer.proofs.DataPlans.{in_none, in_plan, table_for, table_plain}
use Rattle.avro_answer.proofs.data_plan.DataPlan.display.Goals as goal

pub returns-in-Some-clause-shown : goal.returns-in-Some-clause-shown
returns-in-Some-clause-shown c =
    let p = c.self.inside in
    let scratch = c.display_for.new.scratch in
    in_plan (λ (W : List Node) (R : Option (List Node)). IfOk c.display_for.result (λ len. (display : List ℕ)
    × IsDisplayed W R c.args.limits.now c.args.bytes.now len display × StandsIn scratch.text scratch.shown display))
    p.writer.now c.args.self.now p.plan c.in-Some.plan c.self.view_is c.in-Some.is c.self.invariant.0
    (c.display_for.ensures.shown (table_for p.writer.now (schema_nodes p.table) p.plan c.self.invariant.1 c.in-Some.plan c.in-Some.is))

pub returns-in-Some-clause-refused : goal.returns-in-Some-clause-refused
returns-in-Some-clause-refused c =
    let p = c.self.inside in
    in_plan (λ (W : List Node) (R : Option (List Node)). IfErr c.display_for.result (λ e. IfSome (fault_found e) (IsAllFound W R c.args.limits.now 0 c.args.bytes.now)))
    p.writer.now c.args.self.now p.plan c.in-Some.plan c.self.view_is c.in-Some.is c.self.invariant.0 c.display_for.ensures.refused

pub returns-in-None-clause-shown : goal.returns-in-None-clause-shown
returns-in-None-clause-shown c =
    let p = c.self.inside in
    let scratch = c.display_plain.new.scratch in
    in_none (λ (W : List Node) (R : Option (List Node)). IfOk c.display_plain.result (λ len. (display : List ℕ)
    × IsDisplayed W R c.args.limits.now c.args.bytes.now len display × StandsIn scratch.text scratch.shown display))
    p.writer.now c.args.self.now p.plan c.self.view_is c.in-None.is
    (subst (λ (W : List Node). IfOk c.display_plain.result (λ len. (display : List ℕ)
    × IsDisplayed W None c.args.limits.now c.args.bytes.now len display × StandsIn scratch.text scratch.shown display))
    (table_plain p.writer.now (schema_nodes p.table) p.plan c.self.invariant.1 c.in-None.is) c.display_plain.ensures.shown)

pub returns-in-None-clause-refused : goal.returns-in-None-clause-refused
returns-in-None-clause-refused c =
    let p = c.self.inside in
    in_none (λ (W : List Node) (R : Option (List Node)). IfErr c.display_plain.result (λ e. IfSome (fault_found e) (IsAllFound W R c.args.limits.now 0 c.args.bytes.now)))
    p.writer.now c.args.self.now p.plan c.self.view_is c.in-None.is
    (subst (λ (W : List Node). IfErr c.display_plain.result (λ e. IfSome (fault_found e) (IsAllFound W None c.args.limits.now 0 c.args.bytes.now)))
    (table_plain p.writer.now (schema_nodes p.table) p.plan c.self.invariant.1 c.in-None.is) c.display_plain.ensures.refused)
