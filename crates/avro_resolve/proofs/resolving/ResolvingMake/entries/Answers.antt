use Rattle.avro_resolve.proofs.Telling.{ok_told}
use Rattle.avro_resolve.proofs.resolving.ResolvingMake.entries.Goals as goal

pub returns-clause-stands : goal.returns-clause-stands
returns-clause-stands g c = λ nodes id. ok_told _ _ c.start_entries.result (λ told. c.start_entries.ensures.stands told nodes id)
