use Rattle.avro_resolve.proofs.RecordSlots.{fields_after_fault}
use Rattle.avro_resolve.proofs.resolving.record_maker.skip_fields.Goals as goal

pub returns-in-Faulty : goal.returns-in-Faulty
returns-in-Faulty g c = λ told writer reader nodes fs at vs ws all h.
    rw c.in-Faulty.is (fields_after_fault (g.M.Make.stands_for c.args._maker.now) (g.M.Make.fields_stand_for c.args._maker.now) writer reader nodes fs vs ws at c.in-Faulty.field-0 (rw c.in-Faulty.is at h))
