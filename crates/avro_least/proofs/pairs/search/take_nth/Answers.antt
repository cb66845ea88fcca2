use Rattle.std.proofs.Common.{◌≡◌, ℕ, Some, sym, ◌∙◌, ap, subst}
use Rattle.avro_schema.specs.declared.schema.NodeId.{NodeId}
use Rattle.avro_least.specs.inside.Leading.{HasTaken}
use Rattle.avro_least.proofs.public.Keys.{some_same}
use Rattle.avro_least.proofs.pairs.search.take_nth.Goals as goal

pub returns-in_ok-take_part-in-Some-clause-quiet : goal.returns-in_ok-take_part-in-Some-clause-quiet
returns-in_ok-take_part-in-Some-clause-quiet c quiet =
    let still = c.in_ok-take_part-in-Some.ensures.quiet quiet in (
      still.0,
      still.1,
      λ k a b e. subst (λ (n : ℕ). HasTaken c.args.graph.now c.args.search.now c.args.i n)
          (ap (λ (q : ℕ × NodeId × NodeId). q.0) (some_same (c.in-Some.k, c.in-Some.a, c.in-Some.b) (k, a, b) (sym c.in-Some.is ∙ e))) still.2,
    )
