-- What a schema's union is made of, and a union's first branch that matches.
use Rattle.std.proofs.Common.{◌≡◌, ℕ, zero, suc, ◌+◌, Bool, true, false, List, [], ◌∷◌, Some, None, length, refl, subst, cond, arith}
use Rattle.std.specs.Prelude.{is_some, slice_get, nat_lt, filter_map}
use Rattle.std.specs.List.{list_all}
use Rattle.avro_schema.specs.Node.{Node, node_at, branches_of}
use Rattle.avro_schema.specs.Distinct.{are_distinct}
use Rattle.avro_schema.specs.WellFormed.{branch_kind, same_kind, meets_its_rules, are_good_nodes, is_schema}
use Rattle.avro_compare.specs.Match.{is_match, first_match_from, first_match}
use Rattle.avro_certificate.proofs.public.Tests.{and_left, and_right, all_at}
use Rattle.avro_compare.proofs.public.NodeKinds.{no_union}

-- each of some good nodes meets the rules of its kind
good_at : (nodes : List Node) (id : ℕ) (ns : List Node) (k : ℕ) (n : Node) → are_good_nodes nodes id ns ≡ true → slice_get ns k ≡ Some n
    → meets_its_rules nodes n ≡ true
good_at nodes id [] k n good here = absurd (grind arith)
good_at nodes id (m ∷ ms) zero n good here =
    subst (λ (x : Node). meets_its_rules nodes x ≡ true) (some_same m n here) (and_right _ _ (and_left _ _ good))
  where
    some_same : (a b : Node) → Some a ≡ Some b → a ≡ b
    some_same a b e = cc
good_at nodes id (m ∷ ms) (suc k) n good here = good_at nodes (suc id) ms k n (and_right _ _ good) here

-- each node of a schema meets the rules of its kind
pub meets_rules_at : (nodes : List Node) (id : ℕ) → is_schema nodes ≡ true → meets_its_rules nodes (node_at nodes id) ≡ true
meets_rules_at nodes id good = grind (arith, and_left, and_right, good_at)

-- a branch of a schema's union is no union
pub plain_branch : (nodes : List Node) (id : ℕ) (ids : List ℕ) (k b : ℕ) → is_schema nodes ≡ true → node_at nodes id ≡ Node.union ids
    → slice_get ids k ≡ Some b → branches_of (node_at nodes b) ≡ None
plain_branch nodes id ids k b good here taken =
    no_union (node_at nodes b) (all_at (λ p. is_some (branch_kind (node_at nodes p))) ids k b
    (and_right (nat_lt 0 (length ids)) (list_all (λ p. is_some (branch_kind (node_at nodes p))) ids)
    (and_left _ (are_distinct same_kind (filter_map (λ p. branch_kind (node_at nodes p)) ids))
    (subst (λ (n : Node). meets_its_rules nodes n ≡ true) here (meets_rules_at nodes id good)))) taken)

-- the first branch that matches, from an index on, stands among the branches
first_match_at : (index : ℕ) (writer reader : List Node) (w : Node) (bs : List ℕ) (k : ℕ) → first_match_from index writer reader w bs ≡ Some k
    → (i : ℕ) × (k ≡ index + i) × ((b : ℕ) × (slice_get bs i ≡ Some b))
first_match_at index writer reader w [] k h = absurd (grind arith)
first_match_at index writer reader w (b ∷ bs) k h = step (is_match writer reader w (node_at reader b)) h (first_match_at (suc index) writer reader w bs k)
  where
    step : (t : Bool) → cond t (Some index) (first_match_from (suc index) writer reader w bs) ≡ Some k
        → (first_match_from (suc index) writer reader w bs ≡ Some k → (i : ℕ) × (k ≡ suc index + i) × ((b : ℕ) × (slice_get bs i ≡ Some b)))
        → (i : ℕ) × (k ≡ index + i) × ((c : ℕ) × (slice_get (b ∷ bs) i ≡ Some c))
    step true e later = (0, grind arith, (b, refl))
    step false e later = let found = later e in (suc found.0, omega (arith, found.1), found.2)

-- the first branch that matches stands among the branches
pub first_match_within : (writer reader : List Node) (w : Node) (ids : List ℕ) (k : ℕ) → first_match writer reader w ids ≡ Some k
    → (b : ℕ) × (slice_get ids k ≡ Some b)
first_match_within writer reader w ids k h = grind (arith, first_match_at)
