use Rattle.std.proofs.Common.{length, refl, subst, sym}
use Rattle.std.proofs.lemmas.Option.{slice_get_read}
use Rattle.avro_schema.specs.Node.{node_at}
use Rattle.avro_schema.specs.SeenSchema.{schema_nodes}
use Rattle.avro_compare.specs.Planned.{AreSources, IsComparison}
use Rattle.avro_compare.specs.Resolve.{fields_at}
use Rattle.avro_compare.proofs.public.Planning.{holds_push, same_some}
use Rattle.avro_resolve.specs.Copied.{IsFlag, IsVerbatim}
use Rattle.avro_resolve.proofs.plan.verbatim.flags_of.Goals as goal

pub is_verbatim-requires : goal.is_verbatim-requires
is_verbatim-requires c =
    subst (λ s. IsComparison (schema_nodes s.0) (schema_nodes s.1) c.index-pairs-index.result) (sym c.new-plan.ensures)
    (c.requires c.loop-index.index c.index-pairs-index.result
    (slice_get_read c.args.pairs.now (length c.args.pairs.now) c.loop-index.index c.index-pairs-index.result refl c.loop-index-test.true c.index-pairs-index.is))

pub loop-index-preserved : goal.loop-index-preserved
loop-index-preserved c =
    let writer = schema_nodes c.args.writer.now in
    let reader = schema_nodes c.args.reader.now in
    let pairs = c.args.pairs.now in
    let pair = c.index-pairs-index.result in
    let i = c.loop-index.index in
    let got = slice_get_read pairs (length pairs) i pair refl c.loop-index-test.true c.index-pairs-index.is in
    holds_push (λ k b. IsFlag writer reader pairs k b) c.loop-index.flags.items c.push.new.self.items c.is_verbatim.result i c.in_ok-push.ensures.items c.loop-index.invariant
    (λ p here set. subst (λ q. IsVerbatim writer reader q.w q.r × AreSources (fields_at (node_at writer q.w.0)) (fields_at (node_at reader q.r.0)) q.sources.items) (same_some got here)
    (subst (λ s. IsVerbatim (schema_nodes s.0) (schema_nodes s.1) pair.w pair.r × AreSources (fields_at (node_at (schema_nodes s.0) pair.w.0)) (fields_at (node_at (schema_nodes s.1) pair.r.0)) pair.sources.items) c.new-plan.ensures (c.is_verbatim.ensures set)))
