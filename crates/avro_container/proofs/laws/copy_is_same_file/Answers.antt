use Rattle.avro_container.proofs.public.CopiedFiles.{copy_is_same_file_lem}
use Rattle.avro_container.proofs.laws.copy_is_same_file.Goals as goal

pub returns : goal.returns
returns c = copy_is_same_file_lem c.plain_encodes.ensures c.declared_is_schema.ensures
