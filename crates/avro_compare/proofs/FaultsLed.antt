-- What where a pair of nodes leads says of its fault and of its leads.
use Rattle.std.proofs.Common.{◌≡◌, ◌∙◌, ℕ, Bool, true, false, not, ◌||◌, cond, List, Option, Some, None, refl, sym, ap, arith}
use Rattle.std.specs.Prelude.{is_none}
use Rattle.avro_schema.specs.Node.{Node, branches_of}
use Rattle.avro_schema.specs.declared.schema.NodeId.{NodeId}
use Rattle.avro_compare.specs.Children.{has_fault_of_kind, has_local_fault}
use Rattle.avro_compare.specs.Leads.{choice_leads, leads_of}
use Rattle.avro_compare.specs.Match.{is_match, first_match}
use Rattle.avro_compare.specs.Pairs.{target_of, branch_target}
use Rattle.avro_compare.specs.declared.error.FaultKind.TheVariants.{NoMatch}
use Rattle.avro_compare.specs.declared.comparison.Target.{Target}
use Rattle.avro_compare.specs.declared.comparison.Target.TheVariants.{Fault, To}
use Rattle.avro_compare.specs.inside.Led.{led_by}
use Rattle.avro_compare.proofs.public.NodeKinds.{fault_of_union, fault_of_others}

-- the fault of an target, given that of the two nodes
abbrev pub target_fault : Bool → Target → Bool
target_fault own (Fault kind) = true
target_fault own (To (Some k) q) = false
target_fault own (To None q) = own

no_plain_union : (ids : List ℕ) → branches_of (Node.union ids) ≡ None → ⊥
no_plain_union ids h = grind arith

module _ (writer reader : List Node) (n : Node) (r : NodeId) where
  of_branch : (ids : List ℕ) (own : Bool) (o : Option ℕ) → target_fault own (branch_target ids o) ≡ is_none o
  of_branch ids own None = refl
  of_branch ids own (Some k) = refl

  of_match : (own t : Bool) → target_fault own (cond t (To None r) (Fault NoMatch)) ≡ (not t || own)
  of_match own true = refl
  of_match own false = refl

  led_is : (q : Node) → branches_of n ≡ None → target_fault (has_fault_of_kind n q) (target_of writer reader n r q) ≡ has_local_fault writer reader n q
  led_is (Node.union ids) h = of_branch ids (has_fault_of_kind n (Node.union ids)) (first_match writer reader n ids) ∙ sym (fault_of_union writer reader n ids h)
  led_is q h = of_match (has_fault_of_kind n q) (is_match writer reader n q) ∙ sym (fault_of_others writer reader n q h refl)

  pub led_fault : (q : Node) (target led : Target) → branches_of n ≡ None → target ≡ target_of writer reader n r q → target ≡ led → target_fault (has_fault_of_kind n q) led ≡ has_local_fault writer reader n q
  led_fault q target led h e is = ap (target_fault (has_fault_of_kind n q)) (sym is ∙ e) ∙ led_is q h

  -- the leads to a branch of a union
  by_branch : (w : ℕ) (ids : List ℕ) (o : Option ℕ) → led_by w (branch_target ids o) ≡ choice_leads w ids o
  by_branch w ids None = refl
  by_branch w ids (Some k) = refl

  leads_of_union : (m : Node) (w : ℕ) (ids : List ℕ) → branches_of m ≡ None → choice_leads w ids (first_match writer reader m ids) ≡ leads_of writer reader w r.0 m (Node.union ids)
  leads_of_union (Node.union ps) w ids plain = absurd (no_plain_union ps plain)
  leads_of_union _ w ids plain = refl

  pub led_leads : (w : ℕ) (ids : List ℕ) (q : Node) (target : Target) → branches_of n ≡ None → q ≡ Node.union ids → target ≡ target_of writer reader n r q
      → led_by w target ≡ leads_of writer reader w r.0 n q
  led_leads w ids q target plain is e =
      ap (led_by w) (e ∙ ap (target_of writer reader n r) is) ∙ by_branch w ids (first_match writer reader n ids) ∙ leads_of_union n w ids plain
      ∙ ap (leads_of writer reader w r.0 n) (sym is)
