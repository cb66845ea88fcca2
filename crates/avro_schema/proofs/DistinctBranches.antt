-- The branches of a union are distinct nodes.
use Rattle.std.proofs.Common.{◌≡◌, ℕ, Bool, true, false, ◌&&◌, List, length, filter_map, sym, ◌∙◌, subst, nat_lt}
use Rattle.std.specs.Prelude.{eqb}
use Rattle.std.specs.List.{list_all}
use Rattle.std.specs.Cmp.{unsigned_ties}
use Rattle.std.specs.Ordering.{eq_by_cmp, nat_cmp}
use Rattle.std.proofs.lemmas.Bool.{and_parts, false≢true, false_from_ne_true}
use Rattle.avro_schema.specs.Node.{Node}
use Rattle.avro_schema.specs.WellFormed.{is_union, same_kind}
use Rattle.avro_schema.specs.Distinct.{are_distinct}
use Rattle.avro_schema.specs.SeenKind.{kind_at, has_kind}
use Rattle.avro_schema.proofs.Unique.{are_distinct-from_IsDistinct}
use Rattle.avro_schema.proofs.public.Choices.{distinct_ids}

-- where a node occurs twice there is no union
pub repeated_branch : (nodes : List Node) (ids : List ℕ) → false ≡ are_distinct (eq_by_cmp nat_cmp) ids → false ≡ is_union nodes ids
repeated_branch nodes ids twice =
    sym (false_from_ne_true (is_union nodes ids) (λ h.
    let all = and_parts (nat_lt 0 (length ids) && list_all (has_kind nodes) ids) (are_distinct same_kind (filter_map (kind_at nodes) ids)) h in
    let some = and_parts (nat_lt 0 (length ids)) (list_all (has_kind nodes) ids) all.0 in
    let distinct = are_distinct-from_IsDistinct eqb ids (distinct_ids nodes ids some.1 all.1) in
    false≢true (twice ∙ subst (λ (same : ℕ → ℕ → Bool). are_distinct same ids ≡ true) (λ i x y. unsigned_ties x y i) distinct)))
