use Rattle.std.proofs.Common.{◌∙◌}
use Rattle.avro_binary.proofs.LeafBytes.{content_behind}
use Rattle.avro_binary.proofs.leaves.content_of.Goals as goal

pub returns-in-Ok : goal.returns-in-Ok
returns-in-Ok c content s = c.split_at.ensures.back ∙ content_behind c.in-Ok.field-0-0 _ content _ c.in-Ok.ensures.found.1 s
