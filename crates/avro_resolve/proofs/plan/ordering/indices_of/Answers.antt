use Rattle.std.proofs.Common.{length, refl, subst, sym}
use Rattle.std.proofs.lemmas.Option.{slice_get_read}
use Rattle.avro_schema.specs.SeenSchema.{schema_nodes}
use Rattle.avro_compare.specs.Planned.{IsComparison}
use Rattle.avro_resolve.proofs.plan.ordering.indices_of.Goals as goal

pub find-requires : goal.find-requires
find-requires c =
    subst (λ s. IsComparison (schema_nodes s.0) (schema_nodes s.1) c.index-pairs-index.result) (sym c.none-names.ensures)
    (c.requires c.loop-index.index c.index-pairs-index.result
    (slice_get_read c.args.pairs.now (length c.args.pairs.now) c.loop-index.index c.index-pairs-index.result refl c.loop-index-test.true c.index-pairs-index.is))
