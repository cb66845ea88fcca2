-- How contracts see pairs of numbers of nodes.
use Rattle.std.specs.Prelude.{ℕ, List, map}
use Rattle.avro_compare.specs.Children.{Pair}

-- two numbers as a pair of nodes
abbrev pub pair_of : ℕ × ℕ → Pair
pair_of p = record { w = p.0; r = p.1 }

-- several of them
abbrev pub pairs_of : List (ℕ × ℕ) → List Pair
pairs_of ps = map pair_of ps
