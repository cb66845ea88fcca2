use Rattle.avro_resolve.proofs.Telling.{ok_told}
use Rattle.avro_resolve.proofs.resolving.ResolvingMake.fields.Goals as goal

pub returns-clause-stands : goal.returns-clause-stands
returns-clause-stands g c = λ nodes fs. ok_told _ _ c.start_filling.result (λ told. c.start_filling.ensures.stands told nodes fs)
