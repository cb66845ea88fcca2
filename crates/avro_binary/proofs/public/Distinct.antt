-- Keys that are distinct.
use Rattle.std.proofs.Common.{◌≡◌, ℕ, true, false, not, ◌||◌, List, [], ◌∷◌, ◌++◌, refl, ap, ◌∙◌}
use Rattle.std.specs.Prelude.{bytes_eq}
use Rattle.std.specs.List.{list_any}
use Rattle.std.specs.Cmp.Lexicographic.{nat_list_eq_equiv}
use Rattle.std.proofs.lemmas.Bool.{and_parts, and_from, or_parts, not-true}
use Rattle.std.proofs.lemmas.List.Folds.{list_any-append}
use Rattle.avro_schema.specs.Distinct.{are_distinct}

-- a key that does not occur before keeps them distinct
pub distinct-push : (keys : List (List ℕ)) (k : List ℕ) → are_distinct bytes_eq keys ≡ true → list_any (bytes_eq k) keys ≡ false → are_distinct bytes_eq (keys ++ k ∷ []) ≡ true
distinct-push [] k d h = refl
distinct-push (x ∷ keys) k d h =
    let parts = and_parts (not (list_any (bytes_eq x) keys)) (are_distinct bytes_eq keys) d in
    let apart = or_parts (bytes_eq k x) (list_any (bytes_eq k) keys) h in
    let other : bytes_eq x k ≡ false = nat_list_eq_equiv.symm x k ∙ apart.0 in
    let none : list_any (bytes_eq x) (keys ++ k ∷ []) ≡ false =
    list_any-append (bytes_eq x) keys (k ∷ []) ∙ (λ i. not-true (list_any (bytes_eq x) keys) parts.0 i || (other i || false)) in
    and_from (not (list_any (bytes_eq x) (keys ++ k ∷ []))) (are_distinct bytes_eq (keys ++ k ∷ [])) (ap not none) (distinct-push keys k parts.1 apart.1)
