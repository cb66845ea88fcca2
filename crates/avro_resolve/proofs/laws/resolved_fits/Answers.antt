-- By the law over any two nodes.
use Rattle.avro_resolve.proofs.Resolved.{resolved_root_fits}
use Rattle.avro_resolve.proofs.laws.resolved_fits.Goals as goal

pub returns : goal.returns
returns c = λ writer reader v u read h e. resolved_root_fits writer reader v u read h e
