use Rattle.std.proofs.Common.{subst}
use Rattle.avro_schema.specs.SeenSchema.{schema_nodes}
use Rattle.avro_compare.specs.inside.TypeNames.{FindsFirst, FindsPlaces}
use Rattle.avro_compare.proofs.reader_types.union_table.Goals as goal

pub returns : goal.returns
returns c = (
  subst (λ ids. FindsFirst c.args.texts.now (schema_nodes c.args.reader.now) ids c.in_ok-firsts.firsts) c.branches_of-branches.ensures.ids c.in_ok-firsts.ensures,
  subst (λ ids. FindsPlaces ids c.in_ok-places.places) c.branches_of-branches.ensures.ids c.in_ok-places.ensures,
)
