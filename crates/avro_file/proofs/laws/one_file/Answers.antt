use Rattle.avro_file.proofs.public.OneFile.{one_file_lem}
use Rattle.avro_file.proofs.laws.one_file.Goals as goal

pub returns : goal.returns
returns c = one_file_lem c.prefix.ensures c.one_schema.ensures
