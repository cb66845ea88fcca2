use Rattle.avro_canonical.proofs.OneText.{one_text}
use Rattle.avro_canonical.proofs.laws.one_text.Goals as goal

pub returns : goal.returns
returns c = one_text
