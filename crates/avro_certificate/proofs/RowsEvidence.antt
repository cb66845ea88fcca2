-- Pairs that the roots of two schemas lead to, and a pair that they do not: computed.
use Rattle.std.proofs.Common.{◌≡◌, ℕ, zero, suc, true, [], ◌∷◌, refl, arith}
use Rattle.std.proofs.lemmas.Bool.{false≢true, ltb-true}
use Rattle.std.specs.Prelude.{nat_lt, ◌&&◌, length}
use Rattle.avro_schema.specs.Node.{Node, node_at}
use Rattle.avro_schema.proofs.public.RowsSchemas.{linked_list, record_of_itself, int_or_nothing}
use Rattle.avro_compare.specs.Children.{Pair}
use Rattle.avro_certificate.specs.Closed.{is_among, is_dead_node}
use Rattle.avro_certificate.specs.Evidence.{IsGreatestDead, IsReached, roots, child}
use Rattle.avro_certificate.proofs.LeastPairs.{closed_holds}
use Rattle.avro_certificate.proofs.public.Tests.{and_left, all_among}

abbrev pair : ℕ → ℕ → Pair
pair w r = record { w = w; r = r }

-- the end of a list, by its links
end_of_list : IsReached (linked_list Node.int) (linked_list Node.long) [] (pair 3 3)
end_of_list =
    child (pair 3 2) (pair 3 3) (child (pair 2 2) (pair 3 2) (child (pair 0 0) (pair 2 2) (roots refl) refl refl) refl refl) refl refl

-- the value of a list and the reader's link are no pair
no_link_of_value : IsReached (linked_list Node.int) (linked_list Node.long) [] (pair 1 2) → ⊥
no_link_of_value m = false≢true (closed_holds (linked_list Node.int) (linked_list Node.long) []
    (pair 0 0 ∷ pair 0 2 ∷ pair 1 1 ∷ pair 2 2 ∷ pair 3 2 ∷ pair 3 3 ∷ []) refl (pair 1 2) m)

-- a dead branch leads nowhere
no_dead_branch : IsReached int_or_nothing (Node.long ∷ []) (2 ∷ []) (pair 2 0) → ⊥
no_dead_branch m = false≢true (closed_holds int_or_nothing (Node.long ∷ []) (2 ∷ []) (pair 0 0 ∷ pair 1 0 ∷ []) refl (pair 2 0) m)

-- the one node of a record that holds itself is the greatest dead set
of_itself : IsGreatestDead record_of_itself (0 ∷ [])
of_itself = record {
  all_dead = refl;
  greatest = λ other dead p among.
      only p (and_left (nat_lt p (length record_of_itself)) (is_dead_node other (node_at record_of_itself p))
      (all_among (λ id. nat_lt id (length record_of_itself) && is_dead_node other (node_at record_of_itself id)) other p dead among));
}
  where
    only : (p : ℕ) → nat_lt p 1 ≡ true → is_among (0 ∷ []) p ≡ true
    only zero h = refl
    only (suc p) h = absurd (omega (arith, ltb-true (suc p) 1 h))

-- the empty set is dead and not the greatest
not_greatest : IsGreatestDead record_of_itself [] → ⊥
not_greatest g = false≢true (g.greatest (0 ∷ []) refl 0 refl)
