use Rattle.avro_resolve.proofs.Telling.{ok_told}
use Rattle.avro_resolve.proofs.resolving.ResolvingMake.record.Goals as goal

pub returns-clause-stands : goal.returns-clause-stands
returns-clause-stands g c = λ nodes name aliases fs at vs h fit.
    ok_told _ _ c.make_record.result (λ told. c.make_record.ensures.stands told nodes name aliases fs at.at vs (h told).0 fit)
