use Rattle.avro_file.proofs.public.OneFile.{one_header_lem}
use Rattle.avro_file.proofs.laws.one_header.Goals as goal

pub returns : goal.returns
returns c = one_header_lem c.prefix.ensures c.one_schema.ensures
