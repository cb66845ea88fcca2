use Rattle.avro_schema.specs.SeenSchema.{schema_nodes}
use Rattle.avro_resolve.proofs.Telling.{ok_told}
use Rattle.avro_resolve.proofs.resolving.ResolvingMake.array.Goals as goal

pub returns-clause-stands : goal.returns-clause-stands
returns-clause-stands g c = λ nodes id at vs h.
    ok_told _ _ c.make_array.result (λ told. c.make_array.ensures.stands told (schema_nodes c.args.self.now.plan.now.0) (schema_nodes c.args.self.now.plan.now.1) nodes id at.at vs (h told))
