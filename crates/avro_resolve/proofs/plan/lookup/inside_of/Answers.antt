use Rattle.std.proofs.Common.{◌≡◌, None, rules}
use Rattle.avro_compare.specs.declared.comparison.Target.TheVariants.{To}
use Rattle.avro_resolve.proofs.plan.lookup.inside_of.Goals as goal

pub returns-in-To-None-default : goal.returns-in-To-None-default
returns-in-To-None-default c = λ writer reader kept.
    let here = c.in-To-None-default in
    let own : c.args.pair.now.target ≡ To None here.field-1 = search rules in
    kept.inside here.field-1 own
