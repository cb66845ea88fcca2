use Rattle.avro_resolve.proofs.Telling.{some_told}
use Rattle.avro_resolve.proofs.resolving.ResolvingMake.pieces.Goals as goal

pub returns-clause-stands : goal.returns-clause-stands
returns-clause-stands g c = λ nodes name aliases fs vs spelled fit.
    some_told _ _ c.copy_record.result (λ told. c.copy_record.ensures.stands nodes name aliases fs vs told spelled fit)
