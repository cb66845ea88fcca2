use Rattle.avro_compare.proofs.reader_types.space_of.Goals as goal

pub returns-clause-number : goal.returns-clause-number
returns-clause-number c = c.number.ensures
