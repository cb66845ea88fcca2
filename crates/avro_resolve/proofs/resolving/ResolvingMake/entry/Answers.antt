use Rattle.avro_schema.specs.SeenSchema.{schema_nodes}
use Rattle.avro_resolve.proofs.Telling.{on_told}
use Rattle.avro_resolve.proofs.resolving.ResolvingMake.entry.Goals as goal

pub returns-clause-stands : goal.returns-clause-stands
returns-clause-stands g c = λ nodes id at es v h stands.
    on_told _ _ c.put_entry.result (λ told. c.put_entry.ensures.stands told (schema_nodes c.args.self.now.plan.now.0) (schema_nodes c.args.self.now.plan.now.1) nodes id at.at es v (h told) (stands told))
