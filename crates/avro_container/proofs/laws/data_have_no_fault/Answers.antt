use Rattle.avro_container.proofs.public.NoFault.{data_have_no_fault_lem}
use Rattle.avro_container.proofs.laws.data_have_no_fault.Goals as goal

pub returns : goal.returns
returns c = data_have_no_fault_lem c.prefix.ensures c.fault_or_within.ensures c.declared_is_schema.ensures
