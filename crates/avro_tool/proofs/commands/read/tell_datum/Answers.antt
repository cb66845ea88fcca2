use Rattle.std.proofs.Common.{◌≡◌, ◌∙◌, ◌⊎◌, inl, ℕ, [], List, Option, ap, subst, sym}
use Rattle.std.specs.Prelude.{option_map}
use Rattle.std.specs.Option.{IfSome}
use Rattle.avro_schema.specs.Node.{Node}
use Rattle.avro_schema.specs.SeenSchema.{schema_nodes}
use Rattle.avro_resolve.specs.declared.error.ReadResolveError.{ReadResolveError}
use Rattle.avro_device.specs.PutFront.{PutsFrontOf}
use Rattle.avro_display.proofs.public.Fronts.{on_any_err}
use Rattle.avro_answer.specs.DataRead.{IsDatumTold, fault_found}
use Rattle.avro_answer.specs.ReadAnswer.{IsAllFound}
use Rattle.avro_tool.specs.DefaultLimits.{datum_limits}
use Rattle.avro_tool.specs.FailureText.{IsDataFailure}
use Rattle.avro_tool.specs.declared.failure.Failure.{Failure}
use Rattle.avro_tool.proofs.DataFailures.{data_blames, data_fails, data_memory, data_refused, front_or_none}
use Rattle.avro_tool.proofs.commands.read.tell_datum.Goals as goal

-- what is so of the plan's schemas is so of these
for_schemas : (P : List Node → Option (List Node) → Type 0) {W V : List Node} {R S : Option (List Node)} → W ≡ V → R ≡ S → P W R → P V S
for_schemas P {W} {V} {R} {S} same also h = subst (λ (X : List Node). P X S) same (subst (P W) also h)

pub returns-in-Ok-clause-told : goal.returns-in-Ok-clause-told
returns-in-Ok-clause-told g c =
    let asked = c.args.asked.now in
    for_schemas (λ (W : List Node) (R : Option (List Node)). (text : List ℕ) × IsDatumTold W R datum_limits asked.form asked.skip c.args.bytes.now text
    × g.O.Output.keeps c.args.out.now text c.put_datum.new.out) (ap schema_nodes c.in_ok-plan.ensures.written) c.in_ok-plan.ensures.read (rw c.in-Ok.is at c.put_datum.ensures.put)

pub returns-clause-fails : goal.returns-clause-fails
returns-clause-fails g c =
    let asked = c.args.asked.now in
    let p = c.in_ok-plan.plan in
    let is_found = IsAllFound (schema_nodes p.0) (option_map schema_nodes p.1) datum_limits asked.skip c.args.bytes.now in
    let is_put = g.O.Output.keeps c.args.out.now [] c.put_datum.new.out in
    let told = c.put_datum.ensures in
    let refused = rw c.in-Err.is at told.refused in
    record {
      only = for_schemas (λ (W : List Node) (R : Option (List Node)). IsDataFailure asked.data c.args.is_cut (IsAllFound W R datum_limits asked.skip c.args.bytes.now) c.failure_of.result)
          (ap schema_nodes c.in_ok-plan.ensures.written) c.in_ok-plan.ensures.read
          (rw c.failure_of.ensures (data_fails asked.data is_found is_put c.args.is_cut c.in-Err.error refused));
      blamed = λ is.
          let same : c.failure_of.result ≡ Failure.CannotPrint = cc in
          data_blames asked.data is_found is_put c.args.is_cut c.in-Err.error refused (rw c.in-Err.is at told.fails) (sym c.failure_of.ensures ∙ same);
      memory = λ is.
          let same : c.failure_of.result ≡ Failure.OutOfMemory = cc in
          data_memory asked.data c.args.is_cut c.in-Err.error (rw c.in-Err.is at told.unused) (rw c.in-Err.is at told.memory) (sym c.failure_of.ensures ∙ same);
      works = tt;
    }

pub returns-clause-refused : goal.returns-clause-refused
returns-clause-refused g c told is =
    let asked = c.args.asked.now in
    let p = c.in_ok-plan.plan in
    let keeps = g.O.Output.keeps c.args.out.now [] c.put_datum.new.out in
    let refused = rw c.in-Err.is at c.put_datum.ensures.refused in
    let unused = rw c.in-Err.is at c.put_datum.ensures.unused in
    let same : c.failure_of.result ≡ Failure.Data asked.data told = cc in (
      (data_refused asked.data c.args.is_cut
          (λ (e : ReadResolveError). keeps × IfSome (fault_found e) (IsAllFound (schema_nodes p.0) (option_map schema_nodes p.1) datum_limits asked.skip c.args.bytes.now))
          asked.data told c.in-Err.error refused (sym c.failure_of.ensures ∙ same)).1.0,
      (data_refused asked.data c.args.is_cut (λ _. g.O.Output.failures c.put_datum.new.out ≡ g.O.Output.failures c.args.out.now)
          asked.data told c.in-Err.error unused (sym c.failure_of.ensures ∙ same)).1,
    )

pub returns-clause-front : goal.returns-clause-front
returns-clause-front g c =
    let asked = c.args.asked.now in
    for_schemas (λ (W : List Node) (R : Option (List Node)). g.O.Output.keeps c.args.out.now [] c.put_datum.new.out ⊎ (text : List ℕ) × IsDatumTold W R datum_limits asked.form asked.skip c.args.bytes.now text
    × PutsFrontOf g.O.Output.keeps c.args.out.now c.put_datum.new.out text) (ap schema_nodes c.in_ok-plan.ensures.written) c.in_ok-plan.ensures.read
    (front_or_none _ c.in-Err.error (rw c.in-Err.is at c.put_datum.ensures.refused) (rw c.in-Err.is at c.put_datum.ensures.front))

pub returns-in_err-plan-clause-front : goal.returns-in_err-plan-clause-front
returns-in_err-plan-clause-front g c = on_any_err (inl (g.met.O.Output.none c.args.out.now)) c.from_residual.result
