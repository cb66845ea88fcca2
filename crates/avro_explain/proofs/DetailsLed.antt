-- What fails at a pair of nodes, by where it leads.
use Rattle.std.proofs.Common.{◌≡◌, ℕ, Bool, true, false, cond, List, [], ◌∷◌, Option, Some, None, refl, sym, subst, arith}
use Rattle.avro_schema.specs.Node.{Node, branches_of}
use Rattle.avro_schema.specs.declared.schema.NodeId.{NodeId}
use Rattle.avro_compare.specs.Match.{is_match, first_match}
use Rattle.avro_compare.specs.Pairs.{target_of, branch_target}
use Rattle.avro_compare.specs.declared.error.FaultKind.TheVariants.{NoMatch}
use Rattle.avro_compare.specs.declared.comparison.Target.{Target}
use Rattle.avro_compare.specs.declared.comparison.Target.TheVariants.{To, Fault}
use Rattle.avro_compare.proofs.public.NodeKinds.{union_of_branches}
use Rattle.avro_explain.specs.Details.{details_of_kind, details_of, unless_some}
use Rattle.avro_explain.specs.inside.Walks.{detail_for}
use Rattle.avro_explain.specs.declared.found.Detail.{Detail}
use Rattle.avro_explain.proofs.LocalFaults.{details_of_union, details_of_others}

module _ (writer reader : List Node) (n : Node) (r : NodeId) where
  target_of_others : (q : Node) → branches_of q ≡ None → target_of writer reader n r q ≡ cond (is_match writer reader n q) (To None r) (Fault NoMatch)
  target_of_others (Node.union ids) h = absurd (grind arith)
  target_of_others _ h = refl

  -- what each kind of target says of the details
  abbrev pub Tells : Target → List Detail → List Detail → Type 0
  Tells (Target.Fault kind) inside ds = ds ≡ detail_for kind ∷ []
  Tells (Target.To None b) inside ds = ds ≡ inside
  Tells (Target.To (Some k) b) inside ds = ds ≡ []

  tells : (q : Node) → branches_of n ≡ None → Tells (target_of writer reader n r q) (details_of_kind n q) (details_of writer reader n q)
  tells q plain = by_reader (branches_of q) refl
    where
      of_choice : (ids : List ℕ) (o : Option ℕ) (inside ds : List Detail) → ds ≡ unless_some o → Tells (branch_target ids o) inside ds
      of_choice ids None inside ds e = e
      of_choice ids (Some k) inside ds e = e

      of_match : (t : Bool) (inside ds : List Detail) → ds ≡ cond t inside (Detail.NoMatch ∷ []) → Tells (cond t (To None r) (Fault NoMatch)) inside ds
      of_match true inside ds e = e
      of_match false inside ds e = e

      by_reader : (o : Option (List ℕ)) → branches_of q ≡ o → Tells (target_of writer reader n r q) (details_of_kind n q) (details_of writer reader n q)
      by_reader None e = subst (λ (a : Target). Tells a (details_of_kind n q) (details_of writer reader n q)) (sym (target_of_others q e))
          (of_match (is_match writer reader n q) (details_of_kind n q) (details_of writer reader n q) (details_of_others writer reader n q plain e))
      by_reader (Some ids) e =
          subst (λ (m : Node). Tells (target_of writer reader n r m) (details_of_kind n m) (details_of writer reader n m)) (sym (union_of_branches q ids e))
          (of_choice ids (first_match writer reader n ids) (details_of_kind n (Node.union ids)) (details_of writer reader n (Node.union ids)) (details_of_union writer reader n ids plain))

  pub told : (q : Node) (target : Target) → branches_of n ≡ None → target_of writer reader n r q ≡ target → Tells target (details_of_kind n q) (details_of writer reader n q)
  told q target plain e = subst (λ (a : Target). Tells a (details_of_kind n q) (details_of writer reader n q)) e (tells q plain)
