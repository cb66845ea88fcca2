use Rattle.std.proofs.Common.{◌≡◌, sym, subst, rules}
use Rattle.std.specs.Prelude.{IfSome}
use Rattle.avro_schema.specs.Node.{node_at}
use Rattle.avro_schema.specs.SeenSchema.{schema_nodes}
use Rattle.avro_compare.specs.Planned.{AreSources}
use Rattle.avro_compare.specs.Resolve.{fields_at}
use Rattle.avro_resolve.specs.Copied.{IsVerbatim}
use Rattle.avro_resolve.proofs.plan.plan_ref.PlanRef.verbatim.Goals as goal

pub returns : goal.returns
returns c =
    let writer = c.self.inside.writer.now in
    let reader = c.self.inside.reader.now in
    let here : c.args.self.now ≡ (writer, reader) = search rules in
    subst (λ s. IfSome c.verbatim_kept.result (λ sources. IsVerbatim (schema_nodes s.0) (schema_nodes s.1) c.args.w c.args.r × AreSources (fields_at (node_at (schema_nodes s.0) c.args.w.0)) (fields_at (node_at (schema_nodes s.1) c.args.r.0)) sources.now)) (sym here)
    (c.verbatim_kept.ensures (schema_nodes writer) (schema_nodes reader) c.self.invariant.1)
