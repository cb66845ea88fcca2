use Rattle.std.proofs.Common.{subst, sym}
use Rattle.avro_schema.specs.SeenSchema.{schema_nodes}
use Rattle.avro_schema.proofs.public.Choices.{HasFewChoices, HasFewChoices-from_is_schema}
use Rattle.avro_compare.proofs.pairs.target_by.Goals as goal

pub target_to-requires-clause-few : goal.target_to-requires-clause-few
target_to-requires-clause-few c = subst HasFewChoices (sym c.get.ensures.node) (HasFewChoices-from_is_schema (schema_nodes c.args.reader.now) c.get.ensures.formed c.args.r.0)
