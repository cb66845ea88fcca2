use Rattle.std.proofs.Common.{◌≡◌, ◌∙◌, ap, length, rules}
use Rattle.std.specs.Vec.{vec_len}
use Rattle.avro_resolve.specs.Ends.{turned}
use Rattle.avro_compare.specs.Fault.{fault_in}
use Rattle.avro_resolve.proofs.RecordSlots.{good_field, faulty_field, no_field}
use Rattle.avro_resolve.proofs.resolving.record_maker.put_field.Goals as goal

pub returns-in_ok-push-in-Good-made-clause-stands : goal.returns-in_ok-push-in-Good-made-clause-stands
returns-in_ok-push-in-Good-made-clause-stands g c = λ told writer reader nodes fs id at vs v h is_field stands.
    good_field (g.M.Make.stands_for c.args._maker.now) (g.M.Make.fields_stand_for c.args._maker.now) writer reader nodes fs id vs v is_field at c.in-Good.slots c.push.new.self c.in-Good.field-1 c.in-Good.field-2 c.in-Good.field-3 c.in-Good.field-4 c.in-Good-made.out
    c.in_ok-push-in-Good-made.ensures.items (rw c.in-Good.is at h) (rw (c.in-Good.is, c.in-Good-made.is) at stands)

pub returns-in_ok-outer-in-Faulty-made-clause-stands : goal.returns-in_ok-outer-in-Faulty-made-clause-stands
returns-in_ok-outer-in-Faulty-made-clause-stands g c = λ told writer reader nodes fs id at vs v h is_field stands.
    let counted : vec_len c.in-Good.slots ≡ length c.in-Good.slots.items = search rules in
    faulty_field (g.M.Make.stands_for c.args._maker.now) (g.M.Make.fields_stand_for c.args._maker.now) writer reader nodes fs id vs v is_field at c.in-Good.slots c.in-Good.field-1 c.in-Good.field-2 c.in-Good.field-3 c.in-Good.field-4 c.in-Faulty-made.fault c.in_ok-outer-in-Faulty-made.outer
    (c.in_ok-outer-in-Faulty-made.ensures ∙ ap (λ k. fault_in k (turned c.in-Faulty-made.fault.value)) (c.len.ensures ∙ counted)) (rw c.in-Good.is at h) (rw (c.in-Good.is, c.in-Faulty-made.is) at stands)

pub returns-in_ok-push-in-Nothing-made-clause-stands : goal.returns-in_ok-push-in-Nothing-made-clause-stands
returns-in_ok-push-in-Nothing-made-clause-stands g c = λ told writer reader nodes fs id at vs v h is_field stands.
    no_field (g.M.Make.stands_for c.args._maker.now) (g.M.Make.fields_stand_for c.args._maker.now) writer reader nodes fs id vs v is_field at c.in-Good.slots c.push-in-Nothing-made.new.self c.in-Good.field-1 c.in-Good.field-2 c.in-Good.field-3 c.in-Good.field-4
    c.in_ok-push-in-Nothing-made.ensures.items (rw c.in-Good.is at h) (rw (c.in-Good.is, c.in-Nothing-made.is) at stands)
