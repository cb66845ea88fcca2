-- Sets of nodes and of pairs of nodes that show that two schemas are compatible.
use Rattle.std.specs.Prelude.{ℕ, Bool, false, not, ◌&&◌, ◌||◌, List, length, nat_lt, ◌==◌}
use Rattle.std.specs.List.{list_all, list_any}
use Rattle.avro_schema.specs.Node.{Node, node_at, field_ids}
use Rattle.avro_compare.specs.Children.{Pair, children_of, has_local_fault}

-- membership of a list of numbers, by a test
abbrev pub is_among : List ℕ → ℕ → Bool
is_among xs x = list_any (λ y. y == x) xs

-- a record with a field in the set, or a union with all of its branches in the set
abbrev pub is_dead_node : List ℕ → Node → Bool
is_dead_node dead (Node.record_of name aliases fields) = list_any (is_among dead) (field_ids fields)
is_dead_node dead (Node.union ids) = list_all (is_among dead) ids
is_dead_node dead n = false

-- each node of the set is a record with a field in it or a union with all its branches in it, and so has no datum
abbrev pub is_dead : List Node → List ℕ → Bool
is_dead writer dead = list_all (λ id. nat_lt id (length writer) && is_dead_node dead (node_at writer id)) dead

-- two pairs of the same nodes
abbrev pub same_pair : Pair → Pair → Bool
same_pair p q = p.w == q.w && p.r == q.r

-- membership of a list of pairs, by a test
abbrev pub is_among_pairs : List Pair → Pair → Bool
is_among_pairs pairs p = list_any (same_pair p) pairs

-- a pair is one of nodes of the schemas; unless its writer's node is dead, it has no fault of its own, and each child
-- whose writer's node is not dead is there
abbrev pub is_closed_at : List Node → List Node → List ℕ → List Pair → Pair → Bool
is_closed_at writer reader dead pairs p =
    nat_lt p.w (length writer) && nat_lt p.r (length reader)
    && (is_among dead p.w
    || (not (has_local_fault writer reader (node_at writer p.w) (node_at reader p.r))
    && list_all (λ child. is_among dead child.w || is_among_pairs pairs child)
    (children_of writer reader p.w p.r (node_at writer p.w) (node_at reader p.r))))

-- The first set is dead; the roots are a pair unless the writer's is dead; and no pair has a fault of its own or lacks
-- a child, except for dead nodes.
abbrev pub is_closed : List Node → List Node → List ℕ → List Pair → Bool
is_closed writer reader dead pairs =
    is_dead writer dead && (is_among dead 0 || is_among_pairs pairs (record { w = 0; r = 0 }))
    && list_all (is_closed_at writer reader dead pairs) pairs
