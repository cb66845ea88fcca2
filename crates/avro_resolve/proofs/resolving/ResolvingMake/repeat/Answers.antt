use Rattle.avro_schema.specs.SeenSchema.{schema_nodes}
use Rattle.avro_resolve.proofs.resolving.ResolvingMake.repeat.Goals as goal

pub returns-clause-added : goal.returns-clause-added
returns-clause-added g c = λ nodes id at vs v all h stands told.
    c.repeat_item.ensures.added told (schema_nodes c.args.self.now.plan.now.0) (schema_nodes c.args.self.now.plan.now.1) nodes id at.at vs v all (h told) (stands told)
