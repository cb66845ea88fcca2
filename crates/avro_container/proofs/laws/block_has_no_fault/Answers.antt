use Rattle.avro_container.proofs.public.NoFault.{block_has_no_fault_lem}
use Rattle.avro_container.proofs.laws.block_has_no_fault.Goals as goal

pub returns : goal.returns
returns g c = λ input. block_has_no_fault_lem c.prefix.ensures c.fault_or_within.ensures c.declared_is_schema.ensures (g.I.Input.ended input)
