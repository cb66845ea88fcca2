-- Lists in which no element occurs twice.
use Rattle.std.specs.Prelude.{Bool, true, not, ◌&&◌, List, [], ◌∷◌}
use Rattle.std.specs.List.{list_any}

-- no element occurs twice, by a test of equality
abbrev pub are_distinct : {A : Type 0} → (A → A → Bool) → List A → Bool
are_distinct equal [] = true
are_distinct equal (x ∷ xs) = not (list_any (equal x) xs) && are_distinct equal xs
