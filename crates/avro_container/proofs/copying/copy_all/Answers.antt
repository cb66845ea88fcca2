-- Each step goes on from the run of those before it.
use Rattle.std.proofs.Common.{◌≤◌, Ok, Err, inl, inr, ap, subst, sym, ◌∙◌, refl}
use Rattle.std.proofs.lemmas.Result.{err_from_is_err_and}
use Rattle.avro_container.specs.Copying.{IfBlock}
use Rattle.avro_file.proofs.public.Small.{err_inj}
use Rattle.avro_container.proofs.CopySteps.{HasRun-begin, HasRun-header, HasRun-block, HasRun-end, HasRun-refused, HasRun-fault, CopiesFront-whole}
use Rattle.avro_container.proofs.copying.copy_all.Goals as goal

pub loop-count-init : goal.loop-count-init
loop-count-init g c =
    (HasRun-begin g.I.Input.gives g.O.Output.keeps g.met.I.Input.none g.met.O.Output.none _ _ _ _ c.args.copier.now c.requires.fresh refl refl, refl, refl)

pub loop-count-preserved-in-Header : goal.loop-count-preserved-in-Header
loop-count-preserved-in-Header g c =
    let step = c.in_ok-step.ensures in (
      HasRun-header g.I.Input.gives g.O.Output.keeps g.met.I.Input.chain g.met.O.Output.chain _ _ _ _ _ _ _ _ _ _ _ _ _
          c.loop-count.invariant.0 _ c.in-Header.is step.moves step.job step.limits,
      step.input_works ∙ c.loop-count.invariant.1,
      step.output_works ∙ c.loop-count.invariant.2,
    )

pub loop-count-preserved : goal.loop-count-preserved
loop-count-preserved g c =
    let step = c.in_ok-step.ensures in (
      HasRun-block g.I.Input.gives g.O.Output.keeps g.met.I.Input.chain g.met.O.Output.chain _ _ _ _ _ _ _ _ _ _ _ _ _ c.in-Block.count
          c.loop-count.invariant.0 _ c.in-Block.is step.moves step.job step.limits
          (subst (λ s. IfBlock (Ok s) (λ n. n ≤ 16777216)) c.in-Block.is step.few),
      step.input_works ∙ c.loop-count.invariant.1,
      step.output_works ∙ c.loop-count.invariant.2,
    )

pub returns-in_err-step-clause-front : goal.returns-in_err-step-clause-front
returns-in_err-step-clause-front g c =
    let p = err_from_is_err_and c.from_residual.result c.from_residual.ensures.1 in
    rw p.1 (HasRun-refused g.I.Input.gives g.O.Output.keeps g.met.I.Input.chain g.met.O.Output.chain _ _ _ _ _ _ _ _ _ _ c.step.new.self _ _ _
    c.loop-count.invariant.0 c.in_err-step.ensures.moves)

pub returns-clause-whole : goal.returns-clause-whole
returns-clause-whole g c =
    let step = c.in_ok-step.ensures in
    HasRun-end g.I.Input.gives g.O.Output.keeps g.met.I.Input.chain g.met.O.Output.chain _ _ _ _ _ _ _ _ _ _ _ c.step.new.self _ _
    c.loop-count.invariant.0 _ c.in-End.is step.moves c.in_ok-put_rest.ensures.none

pub returns-in_err-put_rest-clause-front : goal.returns-in_err-put_rest-clause-front
returns-in_err-put_rest-clause-front g c =
    let p = err_from_is_err_and c.from_residual-in_err-put_rest.result c.from_residual-in_err-put_rest.ensures.1 in
    let step = c.in_ok-step.ensures in
    rw p.1 (CopiesFront-whole g.I.Input.gives g.O.Output.keeps _ _ _ _ _ _ _ _ _
    (HasRun-end g.I.Input.gives g.O.Output.keeps g.met.I.Input.chain g.met.O.Output.chain _ _ _ _ _ _ _ _ _ _ _ c.step.new.self _ _
    c.loop-count.invariant.0 _ c.in-End.is step.moves c.in_err-put_rest.ensures.none))

pub returns-in_err-step-clause-fault : goal.returns-in_err-step-clause-fault
returns-in_err-step-clause-fault g c =
    let p = err_from_is_err_and c.from_residual.result c.from_residual.ensures.1 in
    rw (p.1, p.2) (λ f is_fault.
    HasRun-fault g.I.Input.gives g.O.Output.keeps g.met.I.Input.chain g.met.O.Output.chain _ _ _ _ _ _ _ _ _ _ c.step.new.self _ _ _ f
    c.loop-count.invariant.0 c.in_err-step.ensures.moves is_fault)

pub returns-in_err-step-clause-output_fails : goal.returns-in_err-step-clause-output_fails
returns-in_err-step-clause-output_fails g c =
    let p = err_from_is_err_and c.from_residual.result c.from_residual.ensures.1 in
    rw (p.1, p.2) (λ failed.
    elim (c.in_err-step.ensures.output_fails (ap Err (err_inj _ _ _ failed))) [
      | inl more ↦ inl (λ same. more (same ∙ sym c.loop-count.invariant.2))
      | inr stuck ↦ inr stuck
    ])
