use Rattle.std.proofs.Common.{◌∙◌}
use Rattle.avro_binary.proofs.leaves.string_of.Goals as goal

pub returns-in-Ok : goal.returns-in-Ok
returns-in-Ok c = λ content s. c.in-Ok.ensures.text.0 ∙ c.in_ok-content_of.ensures content s
