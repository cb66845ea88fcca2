-- What the sets must hold for a pair of nodes whose writer's node is not dead.
use Rattle.std.specs.Prelude.{ℕ, Bool, not, ◌&&◌, ◌||◌, List}
use Rattle.std.specs.List.{list_all}
use Rattle.avro_schema.specs.Node.{Node, node_at}
use Rattle.avro_compare.specs.Children.{Pair, children_of, has_local_fault}
use Rattle.avro_certificate.specs.Closed.{is_among, is_among_pairs}

-- the sets account for a pair: its writer's node is dead, or the pair is there
abbrev pub stands : List ℕ → List Pair → Pair → Bool
stands dead pairs p = is_among dead p.w || is_among_pairs pairs p

abbrev pub closed_live : List Node → List Node → List ℕ → List Pair → ℕ → ℕ → Bool
closed_live writer reader dead pairs w r =
    not (has_local_fault writer reader (node_at writer w) (node_at reader r))
    && list_all (stands dead pairs) (children_of writer reader w r (node_at writer w) (node_at reader r))
