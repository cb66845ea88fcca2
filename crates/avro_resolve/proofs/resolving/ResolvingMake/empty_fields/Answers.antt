use Rattle.avro_schema.specs.SeenSchema.{schema_nodes}
use Rattle.avro_resolve.proofs.resolving.ResolvingMake.empty_fields.Goals as goal

pub returns-clause-added : goal.returns-clause-added
returns-clause-added g c = λ nodes fs at vs ws all counted none fitting stands told.
    let plan = c.args.self.now.plan.now in
    (c.skip_fields.ensures told (schema_nodes plan.0) (schema_nodes plan.1) nodes fs at.at vs ws all (stands told).0, (stands told).1)
