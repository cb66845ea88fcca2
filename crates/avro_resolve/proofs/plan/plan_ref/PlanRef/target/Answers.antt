use Rattle.std.proofs.Common.{◌≡◌, ◌∙◌, ap, sym, subst, true, rules}
use Rattle.avro_schema.specs.Node.{node_at}
use Rattle.avro_schema.specs.SeenSchema.{schema_nodes}
use Rattle.avro_schema.specs.WellFormed.{is_schema}
use Rattle.avro_compare.specs.Pairs.{IsTarget, target_at}
use Rattle.avro_compare.proofs.public.Leading.{pair_leads}
use Rattle.avro_resolve.specs.inside.Guided.{ArrivesAt}
use Rattle.avro_resolve.proofs.Arriving.{pair_arrives}
use Rattle.avro_resolve.proofs.plan.plan_ref.PlanRef.target.Goals as goal

pub returns-in-Some-clause-leads : goal.returns-in-Some-clause-leads
returns-in-Some-clause-leads c =
    let writer = schema_nodes c.self.inside.writer.now in
    let reader = schema_nodes c.self.inside.reader.now in
    let here : c.args.self.now ≡ (c.self.inside.writer.now, c.self.inside.reader.now) = search rules in
    let kept = c.in-Some.ensures writer reader c.self.invariant.0 in
    let same = kept.0.targets ∙ ap (λ n. target_at writer reader n c.in-Some.pair.now.r) kept.1 ∙ ap (λ n. target_at writer reader c.args.w n) kept.2 in
    subst (λ s. IsTarget (schema_nodes s.0) (schema_nodes s.1) (node_at (schema_nodes s.0) c.args.w.0) (node_at (schema_nodes s.1) c.args.r.0) c.in-Some.pair.now.target) (sym here)
    (subst (λ a. IsTarget writer reader (node_at writer c.args.w.0) (node_at reader c.args.r.0) a) (sym same) (pair_leads writer reader c.args.w c.args.r))

pub returns-in-Some-clause-arrives : goal.returns-in-Some-clause-arrives
returns-in-Some-clause-arrives c =
    let writer = schema_nodes c.self.inside.writer.now in
    let reader = schema_nodes c.self.inside.reader.now in
    let here : c.args.self.now ≡ (c.self.inside.writer.now, c.self.inside.reader.now) = search rules in
    let kept = c.in-Some.ensures writer reader c.self.invariant.0 in
    let same = kept.0.targets ∙ ap (λ n. target_at writer reader n c.in-Some.pair.now.r) kept.1 ∙ ap (λ n. target_at writer reader c.args.w n) kept.2 in
    subst (λ s. ArrivesAt (schema_nodes s.0) (schema_nodes s.1) (node_at (schema_nodes s.0) c.args.w.0) c.args.r.0 c.in-Some.pair.now.target) (sym here)
    (subst (λ a. ArrivesAt writer reader (node_at writer c.args.w.0) c.args.r.0 a) (sym same) (pair_arrives writer reader c.root-root.ensures.formed c.args.w c.args.r))

pub returns-in-None-clause-leads : goal.returns-in-None-clause-leads
returns-in-None-clause-leads c =
    let writer = schema_nodes c.args.self.now.0 in
    let reader = schema_nodes c.args.self.now.1 in
    subst (λ a. IsTarget writer reader (node_at writer c.args.w.0) (node_at reader c.args.r.0) a) (sym c.target_by.ensures) (pair_leads writer reader c.args.w c.args.r)

pub returns-in-None-clause-arrives : goal.returns-in-None-clause-arrives
returns-in-None-clause-arrives c =
    let writer = schema_nodes c.args.self.now.0 in
    let reader = schema_nodes c.args.self.now.1 in
    let here : c.args.self.now ≡ (c.self.inside.writer.now, c.self.inside.reader.now) = search rules in
    let formed = subst (λ s. is_schema (schema_nodes s.1) ≡ true) (sym here) c.root-root.ensures.formed in
    subst (λ a. ArrivesAt writer reader (node_at writer c.args.w.0) c.args.r.0 a) (sym c.target_by.ensures) (pair_arrives writer reader formed c.args.w c.args.r)
