-- Where no fault is found at the pairs that the roots lead to, these show that the schemas are compatible.
use Rattle.std.proofs.Common.{◌≡◌, ℕ, suc, Bool, true, false, not, ◌&&◌, ◌||◌, List, [], ◌∷◌, ◌++◌, length, inl, inr, refl, sym, ◌∙◌, ap, subst, nat_lt, nat_le, filter_map}
use Rattle.std.proofs.lemmas.Bool.{false≢true, and_from, not_from_false}
use Rattle.std.specs.List.{list_all}
use Rattle.avro_name.specs.Name.{same_name}
use Rattle.avro_schema.specs.Distinct.{are_distinct}
use Rattle.avro_schema.specs.Node.{Node, node_at, node_name}
use Rattle.avro_schema.specs.WellFormed.{is_schema, are_good_nodes, max_nodes}
use Rattle.avro_compare.specs.Children.{Pair, children_of, has_local_fault}
use Rattle.avro_certificate.specs.Closed.{same_pair, is_among, is_among_pairs, is_dead, is_closed, is_closed_at}
use Rattle.avro_certificate.specs.Compatible.{AreCompatible}
use Rattle.avro_certificate.specs.Evidence.{IsGreatestDead, IsReached, roots, child}
use Rattle.avro_certificate.proofs.public.Resolving.{closed_compatible}
use Rattle.avro_certificate.proofs.public.Tests.{and_left, and_right, all_among_pairs, or_cases, or_from_left, or_from_right, same_pair-true}
use Rattle.avro_explain.specs.Details.{details_of}
use Rattle.avro_explain.specs.Places.{pair_of, pairs_of, findings, findings_at, findings_from, AreFaults, AreReached}
use Rattle.avro_explain.specs.declared.found.Detail.{Detail}
use Rattle.avro_explain.specs.declared.found.Finding.{Finding}
use Rattle.avro_explain.specs.declared.found.Place.{Place}
use Rattle.avro_explain.proofs.LeadPairs.{same_itself}
use Rattle.avro_explain.proofs.LocalFaults.{no_fault}
use Rattle.avro_certificate.proofs.public.Within.{is_within, pair_within, children_within, node_within}

root_within : (nodes : List Node) → is_schema nodes ≡ true → nat_lt 0 (length nodes) ≡ true
root_within nodes h =
    and_left (nat_lt 0 (length nodes)) (nat_le (length nodes) max_nodes) (and_left (nat_lt 0 (length nodes) && nat_le (length nodes) max_nodes) (are_good_nodes nodes 0 nodes)
    (and_left _ (are_distinct same_name (filter_map node_name nodes)) h))

module _ (writer reader : List Node) where
  -- the pairs that the roots lead to are pairs of nodes
  reached_within : (dead : List ℕ) → is_schema writer ≡ true → is_schema reader ≡ true → (p : Pair) → IsReached writer reader dead p → is_within writer reader p ≡ true
  reached_within dead formed theirs p (roots live) = pair_within writer reader 0 0 (root_within writer formed) (root_within reader theirs)
  reached_within dead formed theirs p (child q c before among live) =
      let own = reached_within dead formed theirs q before in
      all_among_pairs (is_within writer reader) (children_of writer reader q.w q.r (node_at writer q.w) (node_at reader q.r)) p
      (children_within writer reader q.w q.r (node_at writer q.w) (node_at reader q.r)
      (and_left (nat_lt q.w (length writer)) (nat_lt q.r (length reader)) own) (and_right (nat_lt q.w (length writer)) (nat_lt q.r (length reader)) own)
      (node_within writer q.w formed) (node_within reader q.r theirs)) among

  -- no place has a fault where there are none of all places

  no_more : (xs ys : List Finding) → xs ++ ys ≡ [] → (xs ≡ []) × (ys ≡ [])
  no_more [] ys e = (refl, e)
  no_more (x ∷ xs) ys e = absurd cc

  no_finding : (index : ℕ) (ds : List Detail) → findings index ds ≡ [] → ds ≡ []
  no_finding index [] e = refl
  no_finding index (d ∷ ds) e = absurd cc

  faultless_at : (index : ℕ) (places : List Place) → findings_from writer reader index places ≡ [] → (p : Pair) → is_among_pairs (pairs_of places) p ≡ true
      → has_local_fault writer reader (node_at writer p.w) (node_at reader p.r) ≡ false
  faultless_at index [] e p among = absurd (false≢true among)
  faultless_at index (q ∷ qs) e p among =
      let parts = no_more (findings_at writer reader index q) (findings_from writer reader (suc index) qs) e in
      elim (or_cases (same_pair p (pair_of q)) (is_among_pairs (pairs_of qs) p) among) [
        | inl same ↦ subst (λ (x : Pair). has_local_fault writer reader (node_at writer x.w) (node_at reader x.r) ≡ false) (sym (same_pair-true p (pair_of q) same))
            (no_fault writer reader (node_at writer q.w.0) (node_at reader q.r.0) (no_finding index (details_of writer reader (node_at writer q.w.0) (node_at reader q.r.0)) parts.0))
        | inr later ↦ faultless_at (suc index) qs parts.1 p later
      ]

  all_themselves : (test : Pair → Bool) (ps : List Pair) → ((p : Pair) → is_among_pairs ps p ≡ true → test p ≡ true) → list_all test ps ≡ true
  all_themselves test [] each = refl
  all_themselves test (p ∷ ps) each =
      and_from (test p) (list_all test ps) (each p (or_from_left (same_pair p p) (is_among_pairs ps p) (same_itself p)))
      (all_themselves test ps (λ q h. each q (or_from_right (same_pair q p) (is_among_pairs ps q) h)))

  -- and none of all places where none has one
  pub all_none : (index : ℕ) (places : List Place)
      → ((p : Pair) → is_among_pairs (pairs_of places) p ≡ true → details_of writer reader (node_at writer p.w) (node_at reader p.r) ≡ [])
      → findings_from writer reader index places ≡ []
  all_none index [] each = refl
  all_none index (q ∷ qs) each =
      ap (λ (ds : List Detail). findings index ds ++ findings_from writer reader (suc index) qs)
      (each (pair_of q) (or_from_left (same_pair (pair_of q) (pair_of q)) (is_among_pairs (pairs_of qs) (pair_of q)) (same_itself (pair_of q))))
      ∙ all_none (suc index) qs (λ p h. each p (or_from_right (same_pair p (pair_of q)) (is_among_pairs (pairs_of qs) p) h))

  pub none_compatible : (dead : List ℕ) (places : List Place) → is_schema writer ≡ true → is_schema reader ≡ true → IsGreatestDead writer dead
      → AreReached writer reader dead (pairs_of places) → AreFaults writer reader places [] → AreCompatible writer reader
  none_compatible dead places formed theirs greatest reached none = closed_compatible writer reader dead (pairs_of places) theirs closed
    where
      pairs : List Pair
      pairs = pairs_of places

      stands_there : (c : Pair) → (is_among dead c.w ≡ false → is_among_pairs pairs c ≡ true) → (is_among dead c.w || is_among_pairs pairs c) ≡ true
      stands_there c h = decided (is_among dead c.w) refl
        where
          decided : (t : Bool) → is_among dead c.w ≡ t → (is_among dead c.w || is_among_pairs pairs c) ≡ true
          decided true e = or_from_left (is_among dead c.w) (is_among_pairs pairs c) e
          decided false e = or_from_right (is_among dead c.w) (is_among_pairs pairs c) (h e)

      closed_at : (p : Pair) → is_among_pairs pairs p ≡ true → is_closed_at writer reader dead pairs p ≡ true
      closed_at p among =
          let cs = children_of writer reader p.w p.r (node_at writer p.w) (node_at reader p.r) in
          let own = reached.no_other p among in
          and_from (is_within writer reader p) (is_among dead p.w || (not (has_local_fault writer reader (node_at writer p.w) (node_at reader p.r))
          && list_all (λ c. is_among dead c.w || is_among_pairs pairs c) cs))
          (reached_within dead formed theirs p own)
          (or_from_right (is_among dead p.w) _
          (and_from (not (has_local_fault writer reader (node_at writer p.w) (node_at reader p.r))) (list_all (λ c. is_among dead c.w || is_among_pairs pairs c) cs)
          (not_from_false _ (faultless_at 0 places (sym none) p among))
          (all_themselves (λ c. is_among dead c.w || is_among_pairs pairs c) cs
          (λ c there. stands_there c (λ live. reached.all_reached c (child p c own there live))))))

      closed : is_closed writer reader dead pairs ≡ true
      closed =
          and_from (is_dead writer dead && (is_among dead 0 || is_among_pairs pairs (record { w = 0; r = 0 }))) (list_all (is_closed_at writer reader dead pairs) pairs)
          (and_from (is_dead writer dead) (is_among dead 0 || is_among_pairs pairs (record { w = 0; r = 0 })) greatest.all_dead
          (stands_there (record { w = 0; r = 0 }) (λ live. reached.all_reached (record { w = 0; r = 0 }) (roots live))))
          (all_themselves (is_closed_at writer reader dead pairs) pairs closed_at)
