use Rattle.avro_schema.specs.SeenSchema.{schema_nodes}
use Rattle.avro_resolve.proofs.Telling.{on_told}
use Rattle.avro_resolve.proofs.resolving.ResolvingMake.field.Goals as goal

pub returns-clause-stands : goal.returns-clause-stands
returns-clause-stands g c = λ nodes fs id at vs v h is stands.
    on_told _ _ c.fill_next.result (λ told. c.fill_next.ensures told (schema_nodes c.args.self.now.plan.now.0) (schema_nodes c.args.self.now.plan.now.1) nodes fs id at.at vs v (h told) is (stands told))
