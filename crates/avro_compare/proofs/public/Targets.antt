-- What is kept of a pair of nodes, of two nodes at hand that are its own.
use Rattle.std.proofs.Common.{◌≡◌, ◌∙◌, List, None, Vec, ap, refl, sym, subst}
use Rattle.std.specs.declared.alloc.Global.{Global}
use Rattle.avro_schema.specs.Node.{Node, node_at, branches_of}
use Rattle.avro_schema.specs.Seen.{node_of}
use Rattle.avro_schema.specs.declared.schema.Node.{Node as KeptNode}
use Rattle.avro_schema.specs.declared.schema.NodeId.{NodeId}
use Rattle.avro_compare.specs.Pairs.{target_of}
use Rattle.avro_compare.specs.Planned.{AreInside, IsComparison}
use Rattle.avro_compare.specs.declared.comparison.Target.TheVariants.{To}
use Rattle.avro_compare.specs.declared.comparison.Comparison.{Comparison}

module _ (writer reader : List Node) (pair : Comparison) (n q : Node) (comparison : IsComparison writer reader pair)
    (from : n ≡ node_at writer pair.w.0) (to : q ≡ node_at reader pair.r.0) where
  -- where it leads
  pub targets_of : pair.target ≡ target_of writer reader n pair.r q
  targets_of = comparison.targets ∙ ap (λ (m : Node). target_of writer reader m pair.r (node_at reader pair.r.0)) (sym from) ∙ ap (target_of writer reader n pair.r) (sym to)

  -- what is inside, where it leads to the reader's node itself
  pub inside_of : (b : NodeId) → pair.target ≡ To None b → AreInside n q pair
  inside_of b is =
      subst (λ (m : Node). AreInside m q pair) (sym from)
      (subst (λ (m : Node). AreInside (node_at writer pair.w.0) m pair) (sym to) (comparison.inside b is))

-- a kept node that is no union
pub plain_kept : (n : KeptNode) → ((x : Vec NodeId Global) → n ≡ KeptNode.Union x → ⊥) → branches_of (node_of n) ≡ None
plain_kept (KeptNode.Union ids) h = absurd (h ids refl)
plain_kept _ h = refl
