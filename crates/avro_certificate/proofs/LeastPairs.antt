-- The pairs that the roots lead to are in each closed set.
use Rattle.std.proofs.Common.{arith, ◌≡◌, ℕ, true, false, not, ◌&&◌, ◌||◌, List, length, sym, ◌∙◌}
use Rattle.std.proofs.lemmas.Bool.{true≢false}
use Rattle.std.specs.Prelude.{nat_lt}
use Rattle.std.specs.List.{list_all}
use Rattle.avro_schema.specs.Node.{Node, node_at}
use Rattle.avro_compare.specs.Children.{Pair, children_of, has_local_fault}
use Rattle.avro_certificate.specs.Closed.{is_among, is_among_pairs, is_dead, is_closed, is_closed_at}
use Rattle.avro_certificate.specs.Evidence.{IsReached, roots, child}
use Rattle.avro_certificate.proofs.public.Tests.{and_left, and_right, or_not, all_among_pairs}

module _ (writer reader : List Node) (dead : List ℕ) where
  lives : (p : Pair) → IsReached writer reader dead p → is_among dead p.w ≡ false
  lives p reached = grind arith

  pub closed_holds : (pairs : List Pair) → is_closed writer reader dead pairs ≡ true → (p : Pair) → IsReached writer reader dead p → is_among_pairs pairs p ≡ true
  closed_holds pairs closed p (roots live) =
      let root = is_among dead 0 || is_among_pairs pairs (record { w = 0; r = 0 }) in
      or_not (is_among dead 0) (is_among_pairs pairs (record { w = 0; r = 0 }))
      (and_right (is_dead writer dead) root (and_left (is_dead writer dead && root) (list_all (is_closed_at writer reader dead pairs) pairs) closed))
      (λ gone. true≢false (sym gone ∙ live))
  closed_holds pairs closed p (child q c before among live) =
      let root = is_among dead 0 || is_among_pairs pairs (record { w = 0; r = 0 }) in
      let all = and_right (is_dead writer dead && root) (list_all (is_closed_at writer reader dead pairs) pairs) closed in
      let own = all_among_pairs (is_closed_at writer reader dead pairs) pairs q all (closed_holds pairs closed q before) in
      let children = list_all (λ x. is_among dead x.w || is_among_pairs pairs x) (children_of writer reader q.w q.r (node_at writer q.w) (node_at reader q.r)) in
      let good = not (has_local_fault writer reader (node_at writer q.w) (node_at reader q.r)) in
      let alive = or_not (is_among dead q.w) (good && children)
      (and_right (nat_lt q.w (length writer) && nat_lt q.r (length reader)) (is_among dead q.w || (good && children)) own)
      (λ gone. true≢false (sym gone ∙ lives q before)) in
      or_not (is_among dead p.w) (is_among_pairs pairs p)
      (all_among_pairs (λ x. is_among dead x.w || is_among_pairs pairs x) (children_of writer reader q.w q.r (node_at writer q.w) (node_at reader q.r)) p
      (and_right good children alive) among)
      (λ gone. true≢false (sym gone ∙ live))
