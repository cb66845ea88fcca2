-- What shows of two compatible schemas that they are: all dead nodes, and the pairs that the roots lead to.
use Rattle.std.specs.Prelude.{◌≡◌, ℕ, true, false, List}
use Rattle.avro_schema.specs.Node.{Node, node_at}
use Rattle.avro_compare.specs.Children.{Pair, children_of}
use Rattle.avro_certificate.specs.Closed.{is_among, is_among_pairs, is_dead}

-- a dead set of nodes that contains every dead set
pub record IsGreatestDead (writer : List Node) (dead : List ℕ) : Type 0 where
  pub all_dead : is_dead writer dead ≡ true
  pub greatest : (other : List ℕ) → is_dead writer other ≡ true → (p : ℕ) → is_among other p ≡ true → is_among dead p ≡ true

-- The pairs that the roots lead to: the roots, and each child of such a pair, if the writer's node is not dead.
pub data IsReached (writer reader : List Node) (dead : List ℕ) : Pair → Type 0 where
  roots : is_among dead 0 ≡ false → IsReached writer reader dead (record { w = 0; r = 0 })
  child : (p c : Pair) → IsReached writer reader dead p
      → is_among_pairs (children_of writer reader p.w p.r (node_at writer p.w) (node_at reader p.r)) c ≡ true → is_among dead c.w ≡ false
      → IsReached writer reader dead c

-- the greatest dead set, and exactly the pairs that are reached
pub record IsEvidence (writer reader : List Node) (dead : List ℕ) (pairs : List Pair) : Type 0 where
  pub dead_nodes : IsGreatestDead writer dead
  pub all_reached : (p : Pair) → IsReached writer reader dead p → is_among_pairs pairs p ≡ true
  pub no_other : (p : Pair) → is_among_pairs pairs p ≡ true → IsReached writer reader dead p
