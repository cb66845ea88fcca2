-- The header or the next block is copied.
use Rattle.std.proofs.Common.{◌≡◌, ◌∙◌, Some, refl, ap, sym, subst, rules, arith}
use Rattle.std.proofs.lemmas.Option.{same_Some, none-some}
use Rattle.std.proofs.lemmas.Result.{err_from_is_err_and}
use Rattle.std.specs.Option.{option_copied}
use Rattle.std.specs.Prelude.{option_map}
use Rattle.avro_container.specs.CopierSeen.{job_in, limits_in, stored_of}
use Rattle.avro_file.specs.HeaderTaken.{header_value}
use Rattle.avro_container.specs.Steps.{reading_of}
use Rattle.avro_container.specs.TaskSeen.{job_of}
use Rattle.avro_container.specs.inside.DataPacked.{IsKeptOf}
use Rattle.avro_container.proofs.Stepping.{block-gives, end-gives, header-gives}
use Rattle.avro_container.proofs.copying.copier.Copier.next_part.Goals as goal

pub returns-in-Some-2-clause-gives : goal.returns-in-Some-2-clause-gives
returns-in-Some-2-clause-gives g c = λ on.
    let self = c.args.self.now in
    let kept : (stored_of self).header ≡ Some (header_value c.header.result.now) =
    ap (option_map (λ o. header_value o.0)) c.in-Some.is ∙ ap (λ h. Some (header_value h)) (sym c.header.ensures) in
    block-gives g.I.Input.gives g.O.Output.keeps _ _ _ _ (job_in self) (limits_in self) _ (stored_of self) _ _ c.from.result c.in-Some-2.count (search rules)
    kept kept (search (rules, arith)) on (rw c.in-Some-2.is at c.in_ok-count-in-Some.ensures.block)

pub returns-in-None-2-clause-gives : goal.returns-in-None-2-clause-gives
returns-in-None-2-clause-gives g c = λ on.
    let self = c.args.self.now in
    let kept : (stored_of self).header ≡ Some (header_value c.header.result.now) =
    ap (option_map (λ o. header_value o.0)) c.in-Some.is ∙ ap (λ h. Some (header_value h)) (sym c.header.ensures) in
    let empty = rw c.in-None-2.is at c.in_ok-count-in-Some.ensures.empty in
    end-gives g.I.Input.gives g.O.Output.keeps g.met.O.Output.none _ _ _ _ (job_in self) (limits_in self) _ (stored_of self) _ _
    kept kept empty.0 empty.1 refl refl on.0 (rw c.in-None-2.is at c.in_ok-count-in-Some.ensures.told) (rw c.in-None-2.is at c.in_ok-count-in-Some.ensures.none) (rw c.in-None-2.is at c.in_ok-count-in-Some.ensures.still)

pub returns-in_err-count-in-Some-clause-refused : goal.returns-in_err-count-in-Some-clause-refused
returns-in_err-count-in-Some-clause-refused g c =
    let self = c.args.self.now in
    let p = err_from_is_err_and c.from_residual.result c.from_residual.ensures.1 in
    rw (p.1, p.2)
    (c.in_err-count-in-Some.ensures.refused (stored_of self)
    (ap (option_map (λ o. header_value o.0)) c.in-Some.is ∙ ap (λ h. Some (header_value h)) (sym c.header.ensures)) refl refl)

pub returns-in_ok-opened-in-None-clause-gives : goal.returns-in_ok-opened-in-None-clause-gives
returns-in_ok-opened-in-None-clause-gives g c = λ on.
    let self = c.args.self.now in
    header-gives g.I.Input.gives g.O.Output.keeps _ _ _ _ (job_in self) (limits_in self) _ (stored_of self) _ (header_value c.in_ok-opened-in-None.opened.0)
    (ap (option_map (λ o. header_value o.0)) c.in-None.is) (self.none_yet c.in-None.is) refl refl on c.in_ok-opened-in-None.ensures.copied

pub returns-in_err-opened-in-None-clause-refused : goal.returns-in_err-opened-in-None-clause-refused
returns-in_err-opened-in-None-clause-refused g c =
    let self = c.args.self.now in
    let p = err_from_is_err_and c.from_residual-in_err-opened-in-None.result c.from_residual-in_err-opened-in-None.ensures.1 in
    rw (p.1, p.2)
    (c.in_err-opened-in-None.ensures.refused (stored_of self) (ap (option_map (λ o. header_value o.0)) c.in-None.is) (self.none_yet c.in-None.is))

pub invariant_of-block : goal.invariant_of-block
invariant_of-block g c =
    let self = c.args.self.now in
    let read = option_copied self.task.reader in
    record {
      planned = c.plan.ensures ∙ ap (option_map (λ r. (c.in-Some.opened.0.schema, r.1))) (self.same c.in-Some.opened c.in-Some.is)
          ∙ ap (λ h. option_map (λ r. (h.schema, r.1)) read) (sym c.header.ensures);
    }

pub copy_block-requires-clause-known : goal.copy_block-requires-clause-known
copy_block-requires-clause-known g c =
    let self = c.args.self.now in
    subst (λ h. IsKeptOf (reading_of (job_of self.task) self.task.limits (header_value h)) self.store.empty)
    (sym c.header.ensures) (self.known c.in-Some.opened c.in-Some.is)

pub invariant_of-self : goal.invariant_of-self
invariant_of-self g c =
    let self = c.args.self.now in
    let task = self.task in
    record {
      near = c.copy_block.ensures.limited;
      none_yet = λ none. absurd (none-some _ (sym none ∙ c.in-Some.is));
      known = λ opened is. subst (λ h. IsKeptOf (reading_of (job_of task) task.limits (header_value h)) c.copy_block.new.store.empty)
          (c.header.ensures ∙ ap (λ o. o.0) (same_Some _ _ (sym c.in-Some.is ∙ is))) c.copy_block.ensures.known;
      same = self.same;
    }

pub invariant_of-self-in-Some-2-clause-known : goal.invariant_of-self-in-Some-2-clause-known
invariant_of-self-in-Some-2-clause-known g c = λ opened is.
    let task = c.args.self.now.task in
    subst (λ h. IsKeptOf (reading_of (job_of task) task.limits (header_value h)) c.copy_block.new.store.empty)
    (c.header.ensures ∙ ap (λ o. o.0) (same_Some _ _ (sym c.in-Some.is ∙ is))) c.copy_block.ensures.known

pub invariant_of-self-in-None-2-clause-known : goal.invariant_of-self-in-None-2-clause-known
invariant_of-self-in-None-2-clause-known g c = λ opened is.
    let task = c.args.self.now.task in
    subst (λ h. IsKeptOf (reading_of (job_of task) task.limits (header_value h)) c.copy_block.new.store.empty)
    (c.header.ensures ∙ ap (λ o. o.0) (same_Some _ _ (sym c.in-Some.is ∙ is))) c.copy_block.ensures.known
