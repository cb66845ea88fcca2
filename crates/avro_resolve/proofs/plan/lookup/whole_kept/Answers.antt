use Rattle.std.proofs.Common.{◌≡◌, ◌∙◌, None, sym, subst, rules}
use Rattle.avro_schema.specs.Node.{node_at}
use Rattle.avro_compare.specs.Planned.{AreFor}
use Rattle.avro_compare.specs.Resolve.{fields_at}
use Rattle.avro_compare.specs.declared.comparison.Target.TheVariants.{To}
use Rattle.avro_compare.proofs.public.Leading.{inside_by}
use Rattle.avro_resolve.proofs.Targeting.{kept_leads}
use Rattle.avro_resolve.proofs.plan.lookup.whole_kept.Goals as goal

pub returns-in-None-missing : goal.returns-in-None-missing
returns-in-None-missing c = λ writer reader kept.
    let pair = c.in-Some.pair.now in
    let here = c.in-To-None-default in
    let found = c.in-Some.ensures writer reader kept in
    let own : pair.target ≡ To None here.field-1 = search rules in
    let none : pair.missing ≡ None = search rules in
    let inside = inside_by writer reader pair found.1 found.2 (found.0.inside here.field-1 own) in
    record {
      leads = kept_leads writer reader pair c.args.w c.args.r here.field-1 found.0 found.1 found.2 own;
      complete = sym inside.complete ∙ none;
      fields = subst (λ known. AreFor (fields_at (node_at writer c.args.w.0)) (fields_at (node_at reader c.args.r.0)) known) (sym c.deref.ensures.value) inside.fields;
    }
