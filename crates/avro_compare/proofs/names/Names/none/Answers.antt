use Rattle.avro_compare.proofs.names.Names.none.Goals as goal

pub invariant_of-result : goal.invariant_of-result
invariant_of-result c = (tt, tt)
