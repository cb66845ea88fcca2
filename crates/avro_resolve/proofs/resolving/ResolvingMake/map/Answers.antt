use Rattle.avro_schema.specs.SeenSchema.{schema_nodes}
use Rattle.avro_resolve.proofs.Telling.{ok_told}
use Rattle.avro_resolve.proofs.resolving.ResolvingMake.map.Goals as goal

pub returns-clause-stands : goal.returns-clause-stands
returns-clause-stands g c = λ nodes id at es h.
    ok_told _ _ c.make_map.result (λ told. c.make_map.ensures.stands told (schema_nodes c.args.self.now.plan.now.0) (schema_nodes c.args.self.now.plan.now.1) nodes id at.at es (h told))
