use Rattle.avro_explain.proofs.FaultyData.{compatible_none}
use Rattle.avro_explain.proofs.laws.compatible_finds_none.Goals as goal

pub returns : goal.returns
returns c = λ writer reader dead formed theirs greatest compatible. compatible_none writer reader formed theirs dead greatest compatible
