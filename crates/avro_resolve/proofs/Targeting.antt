-- Where a pair of nodes leads, if not to a branch.
use Rattle.std.proofs.Common.{◌≡◌, ◌∙◌, ℕ, Bool, true, false, cond, List, Option, Some, None, refl, sym, ap, subst}
use Rattle.avro_schema.specs.Node.{Node, node_at}
use Rattle.avro_schema.specs.declared.schema.NodeId.{NodeId}
use Rattle.avro_compare.specs.Match.{is_match, first_match}
use Rattle.avro_compare.specs.Pairs.{IsTarget, target_at, target_of, branch_target}
use Rattle.avro_compare.specs.Planned.{IsComparison}
use Rattle.avro_compare.specs.declared.comparison.Comparison.{Comparison}
use Rattle.avro_compare.specs.declared.comparison.Target.TheVariants.{Fault, To}
use Rattle.avro_compare.specs.declared.error.FaultKind.TheVariants.{NoMatch}
use Rattle.avro_compare.proofs.public.Leading.{pair_leads}

-- then it is the reader's node itself
own_node : (writer reader : List Node) (w : Node) (r q : NodeId) (n : Node) → target_of writer reader w r n ≡ To None q → target_of writer reader w r n ≡ To None r
own_node writer reader w r q (Node.union ids) e = chosen (first_match writer reader w ids) e
  where
    chosen : (o : Option ℕ) → branch_target ids o ≡ To None q → branch_target ids o ≡ To None r
    chosen None f = absurd cc
    chosen (Some k) f = absurd cc
own_node writer reader w r q n e = chosen (is_match writer reader w n) e
  where
    chosen : (t : Bool) → cond t (To None r) (Fault NoMatch) ≡ To None q → cond t (To None r) (Fault NoMatch) ≡ To None r
    chosen true f = refl
    chosen false f = absurd cc

-- of what is kept of a pair, at equal nodes
pub kept_leads : (writer reader : List Node) (p : Comparison) (w r q : NodeId) → IsComparison writer reader p → p.w ≡ w → p.r ≡ r → p.target ≡ To None q
    → IsTarget writer reader (node_at writer w.0) (node_at reader r.0) (To None r)
kept_leads writer reader p w r q kept e f own =
    let targets : p.target ≡ target_at writer reader w r = kept.targets ∙ ap (λ n. target_at writer reader n p.r) e ∙ ap (λ n. target_at writer reader w n) f in
    subst (λ a. IsTarget writer reader (node_at writer w.0) (node_at reader r.0) a) (own_node writer reader (node_at writer w.0) r q (node_at reader r.0) (sym targets ∙ own)) (pair_leads writer reader w r)
