use Rattle.avro_schema.specs.SeenSchema.{schema_nodes}
use Rattle.avro_answer.proofs.DataFound.{one_found}
use Rattle.avro_answer.proofs.data_found.one_found.Goals as goal

pub returns : goal.returns
returns c = λ reader limits bytes found there.
    one_found c.prefix.ensures c.fault_or_within.ensures c.one_fault.ensures (schema_nodes c.args.writer.now) c.root-root.ensures.formed reader limits bytes found there
