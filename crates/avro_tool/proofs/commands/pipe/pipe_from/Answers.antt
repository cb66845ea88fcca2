-- The word that the failure has is that of standard input.
use Rattle.std.proofs.Common.{Err, ap, rules}
use Rattle.avro_tool.proofs.commands.pipe.pipe_from.Goals as goal

pub returns-in-Err-clause-fails : goal.returns-in-Err-clause-fails
returns-in-Err-clause-fails g c = (_, c.of_container.ensures.named c.in-Err.ensures.named (search rules) (λ e. c.in-Err.ensures.first (ap (λ error. Err error) e)))
