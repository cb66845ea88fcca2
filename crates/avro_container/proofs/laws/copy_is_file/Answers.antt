use Rattle.avro_container.proofs.public.CopiedFiles.{copy_is_file_lem}
use Rattle.avro_container.proofs.laws.copy_is_file.Goals as goal

pub returns : goal.returns
returns c = copy_is_file_lem c.plain_encodes.ensures c.resolved_fits.ensures c.declared_is_schema.ensures
