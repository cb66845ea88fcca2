use Rattle.std.proofs.Common.{List, Option}
use Rattle.std.specs.Prelude.{IfOk}
use Rattle.std.specs.Option.{IfSome}
use Rattle.std.specs.Result.{IfErr}
use Rattle.avro_schema.specs.Node.{Node}
use Rattle.avro_schema.specs.Value.{Value}
use Rattle.avro_answer.specs.DataRead.{fault_found}
use Rattle.avro_answer.specs.ReadAnswer.{datum, IsAllFound}
use Rattle.avro_answer.proofs.DataPlans.{in_none, in_plan}
use Rattle.avro_answer.proofs.data_plan.DataPlan.pass.Goals as goal

pub returns-in-Some-clause-found : goal.returns-in-Some-clause-found
returns-in-Some-clause-found c =
    let p = c.self.inside in
    in_plan (λ (W : List Node) (R : Option (List Node)). IfOk c.pass_for.result (λ len. (u : Value) × IsAllFound W R c.args.limits.now 0 c.args.bytes.now (datum u len)))
    p.writer.now c.args.self.now p.plan c.in-Some.plan c.self.view_is c.in-Some.is c.self.invariant.0 c.pass_for.ensures.found

pub returns-in-Some-clause-refused : goal.returns-in-Some-clause-refused
returns-in-Some-clause-refused c =
    let p = c.self.inside in
    in_plan (λ (W : List Node) (R : Option (List Node)). IfErr c.pass_for.result (λ e. IfSome (fault_found e) (IsAllFound W R c.args.limits.now 0 c.args.bytes.now)))
    p.writer.now c.args.self.now p.plan c.in-Some.plan c.self.view_is c.in-Some.is c.self.invariant.0 c.pass_for.ensures.refused

pub returns-in-None-clause-found : goal.returns-in-None-clause-found
returns-in-None-clause-found c =
    let p = c.self.inside in
    in_none (λ (W : List Node) (R : Option (List Node)). IfOk c.pass_plain.result (λ len. (u : Value) × IsAllFound W R c.args.limits.now 0 c.args.bytes.now (datum u len)))
    p.writer.now c.args.self.now p.plan c.self.view_is c.in-None.is c.pass_plain.ensures.found

pub returns-in-None-clause-refused : goal.returns-in-None-clause-refused
returns-in-None-clause-refused c =
    let p = c.self.inside in
    in_none (λ (W : List Node) (R : Option (List Node)). IfErr c.pass_plain.result (λ e. IfSome (fault_found e) (IsAllFound W R c.args.limits.now 0 c.args.bytes.now)))
    p.writer.now c.args.self.now p.plan c.self.view_is c.in-None.is c.pass_plain.ensures.refused
