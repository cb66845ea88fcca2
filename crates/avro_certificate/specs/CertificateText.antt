-- The text of a certificate: a set of nodes and a set of pairs of nodes, each as a list that rises.
use Rattle.std.specs.Prelude.{◌≡◌, ℕ, Bool, true, ◌+◌, ◌==◌, ◌&&◌, ◌||◌, cond, nat_lt, List, [], ◌∷◌, ◌++◌, map, flat_map, codes}
use Rattle.std.specs.List.{list_all}
use Rattle.std.specs.Int.Digits.{digits_of}
use Rattle.avro_compare.specs.Children.{Pair}

-- a number in ASCII decimal digits, the highest first, without leading zeros
abbrev pub decimal : ℕ → List ℕ
decimal n = cond (n == 0) (48 ∷ []) (map (λ d. 48 + d) (digits_of 10 n))

-- the line of a dead node
abbrev pub dead_line : ℕ → List ℕ
dead_line n = codes "dead " ++ decimal n ++ (10 ∷ [])

-- the line of a pair
abbrev pub pair_line : Pair → List ℕ
pair_line p = codes "pair " ++ decimal p.w ++ (32 ∷ []) ++ decimal p.r ++ (10 ∷ [])

-- the lines of a certificate: `approval 1`, each dead node, each pair, `end`
abbrev pub certificate_text : List ℕ → List Pair → List ℕ
certificate_text dead pairs = codes "approval 1\n" ++ flat_map dead_line dead ++ flat_map pair_line pairs ++ codes "end\n"

-- each stands before all that follow it
abbrev pub is_rising : {A : Type 0} → (A → A → Bool) → List A → Bool
is_rising before [] = true
is_rising before (x ∷ xs) = list_all (before x) xs && is_rising before xs

-- the order of pairs: by the writer's node, then by the reader's
abbrev pub is_before : Pair → Pair → Bool
is_before p q = nat_lt p.w q.w || (p.w == q.w && nat_lt p.r q.r)

-- a text that is the lines of two strictly increasing lists, whatever their numbers
pub record CertText (dead : List ℕ) (pairs : List Pair) (text : List ℕ) : Type 0 where
  pub rising : is_rising nat_lt dead ≡ true
  pub rising_pairs : is_rising is_before pairs ≡ true
  pub written : text ≡ certificate_text dead pairs

-- a number is at most 4,095, the last node that a schema can have
abbrev pub is_small : ℕ → Bool
is_small n = nat_lt n 4096

-- both numbers of a pair are
abbrev pub is_small_pair : Pair → Bool
is_small_pair p = is_small p.w && is_small p.r

-- no number of two lists is over 4,095
abbrev pub are_small : List ℕ → List Pair → Bool
are_small dead pairs = list_all is_small dead && list_all is_small_pair pairs
