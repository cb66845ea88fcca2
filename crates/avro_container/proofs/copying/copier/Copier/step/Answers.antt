-- A step, or what it answers after an error or the end.
use Rattle.std.proofs.Common.{refl, rules}
use Rattle.avro_container.specs.CopierSeen.{job_in, limits_in, stored_of}
use Rattle.avro_file.specs.FileSeen.{file_fault}
use Rattle.avro_container.specs.Steps.{GoesOn}
use Rattle.avro_container.proofs.Stepping.{step-ended, step-failed, step-gives, step-refused}
use Rattle.avro_container.proofs.copying.copier.Copier.step.Goals as goal

pub returns-then-self-clause-moves : goal.returns-then-self-clause-moves
returns-then-self-clause-moves g c =
    let self = c.args.self.now in
    step-failed g.I.Input.gives g.O.Output.keeps g.met.I.Input.none g.met.O.Output.none _ _ (job_in self) (limits_in self) _ (stored_of self)
    c.if-self.true self.near

pub returns-then-self-2-clause-moves : goal.returns-then-self-2-clause-moves
returns-then-self-2-clause-moves g c =
    let self = c.args.self.now in
    step-ended g.I.Input.gives g.O.Output.keeps g.met.I.Input.none g.met.O.Output.none _ _ (job_in self) (limits_in self) _ (stored_of self)
    c.if-self.false c.if-self-2.true self.near

pub returns-in-Ok-clause-moves : goal.returns-in-Ok-clause-moves
returns-in-Ok-clause-moves g c =
    let self = c.args.self.now in
    let new = c.next_part.new.self in
    let on : GoesOn (stored_of self) = (c.if-self.false, c.if-self-2.false) in
    step-gives g.I.Input.gives g.O.Output.keeps _ _ _ _ (job_in self) (limits_in self) _ (stored_of self) (stored_of new) _ on (search rules) (c.in-Ok.ensures.gives on)

pub returns-in-Err-clause-moves : goal.returns-in-Err-clause-moves
returns-in-Err-clause-moves g c =
    let self = c.args.self.now in
    let on : GoesOn (stored_of self) = (c.if-self.false, c.if-self-2.false) in
    step-refused g.I.Input.gives g.O.Output.keeps _ _ _ _ (job_in self) (limits_in self) _ (stored_of self) _ (file_fault c.in-Err.error) on refl (search rules)
    c.in-Err.ensures.refused
