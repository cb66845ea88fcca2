use Rattle.avro_resolve.proofs.Telling.{ok_told}
use Rattle.avro_resolve.proofs.resolving.ResolvingMake.leaf.Goals as goal

pub returns-clause-stands : goal.returns-clause-stands
returns-clause-stands g c = λ nodes n fit. ok_told _ _ c.make_leaf.result (λ told. c.make_leaf.ensures.stands nodes n told fit)
