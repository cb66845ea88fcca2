-- Pairs of nodes.
use Rattle.std.proofs.Common.{◌≡◌, ℕ, zero, suc, ◌-◌, ◌+◌, ◌<◌, ◌≤◌, Bool, true, false, IsTrue, List, [], ◌∷◌, length, refl, sym, ap, ◌∙◌, subst, arith, ◌↔◌, ⊎_elim}
use Rattle.std.specs.Prelude.{slice_index_or, unwrap_or, option_and_then, cond, Option, None, Some, slice_get, drop}
use Rattle.std.proofs.lemmas.Bool.{cond-true, cases_lt}
use Rattle.std.proofs.lemmas.Option.{slice_get-get_or}
use Rattle.avro_schema.specs.Node.{Node, node_at, field_ids, branches_of}
use Rattle.avro_schema.specs.Seen.{ids_of, seen_fields}
use Rattle.avro_schema.specs.declared.schema.NodeId.{NodeId}
use Rattle.avro_schema.specs.declared.schema.Field.{Field}
use Rattle.avro_schema.specs.WellFormed.{is_schema}
use Rattle.avro_compare.specs.Match.{Matches, reader_union, nulls, match_within, is_match, first_match, first_match_at, first_match_from}
use Rattle.avro_compare.specs.inside.TypeNames.{branches_at}
use Rattle.avro_compare.proofs.EnoughSteps.{is_match-Matches}
use Rattle.avro_compare.proofs.public.MatchTest.{match_within-sound}

-- an id past the end is null's
pub node_past : (nodes : List Node) (k : ℕ) → (k < length nodes → ⊥) → node_at nodes k ≡ Node.null
node_past [] k past = refl
node_past (n ∷ ns) zero past = absurd (past (omega arith))
node_past (n ∷ ns) (suc k) past = node_past ns k (λ h. past (omega (h, arith)))

-- ---- The loop over arrays and maps

module _ (writer reader : List Node) (answer : Bool) where
  pub from_all : (all : ℕ) (n m : Node) → answer ≡ match_within all writer reader n m → answer ≡ match_within (all - 0) writer reader n m
  from_all all n m e =
      let same : all ≡ all - 0 = omega arith in
      subst (λ (k : ℕ). answer ≡ match_within k writer reader n m) same e

  pub one_less : (all d : ℕ) (n m a b : Node) → d < all → ((steps : ℕ) → match_within (suc steps) writer reader n m ≡ match_within steps writer reader a b)
      → answer ≡ match_within (all - d) writer reader n m → answer ≡ match_within (all - (d + 1)) writer reader a b
  one_less all d n m a b low step e =
      let same : all - d ≡ suc (all - (d + 1)) = omega (arith, low) in
      subst (λ (k : ℕ). answer ≡ match_within k writer reader n m) same e ∙ step (all - (d + 1))

  pub none_left : (all d : ℕ) (n m : Node) → all ≤ d → match_within 0 writer reader n m ≡ false → answer ≡ match_within (all - d) writer reader n m → false ≡ answer
  none_left all d n m low none e =
      let same : all - d ≡ 0 = omega (arith, low) in
      sym (subst (λ (k : ℕ). answer ≡ match_within k writer reader n m) same e ∙ none)

-- ---- The first match

pub seen_get : (ids : List NodeId) (i : ℕ) (b : NodeId) → slice_get ids i ≡ Some b → slice_get (ids_of ids) i ≡ Some b.0
seen_get [] i b e = absurd cc
seen_get (x ∷ ids) zero b e = let same : x ≡ b = cc in ap (λ (y : NodeId). Some y.0) same
seen_get (x ∷ ids) (suc i) b e = seen_get ids i b e

module _ (writer reader : List Node) (w : Node) where
  pub found_here : (k i : ℕ) (ids : List NodeId) (b : NodeId) → slice_get ids i ≡ Some b → is_match writer reader w (node_at reader b.0) ≡ true
      → first_match_from k writer reader w (ids_of (drop i ids)) ≡ Some k
  found_here k i [] b e m = absurd cc
  found_here k zero (x ∷ ids) b e m =
      let same : b ≡ x = cc in
      cond-true (is_match writer reader w (node_at reader x.0)) (Some k) (first_match_from (suc k) writer reader w (ids_of ids))
      (subst (λ (y : NodeId). is_match writer reader w (node_at reader y.0) ≡ true) same m)
  found_here k (suc i) (x ∷ ids) b e m = found_here k i ids b e m

-- ---- The node of a field

pub node_then : (fs : List Field) (i : ℕ) (d : Field) → i < length fs → (slice_index_or fs i d).node.0 ≡ unwrap_or (slice_get (field_ids (seen_fields fs)) i) 0
node_then [] i d low = absurd (omega (arith, low))
node_then (f ∷ fs) zero d low = refl
node_then (f ∷ fs) (suc i) d low = node_then fs i d (omega (arith, low))

pub node_else : (fs : List Field) (i : ℕ) → length fs ≤ i → 0 ≡ unwrap_or (slice_get (field_ids (seen_fields fs)) i) 0
node_else [] i high = refl
node_else (f ∷ fs) zero high = absurd (omega (arith, high))
node_else (f ∷ fs) (suc i) high = node_else fs i (omega (arith, high))

-- ---- The test is the relation, also where there is no node

pub same_steps : (writer reader : List Node) (w r : Node) (steps : ℕ) (answer : Bool) → steps ≡ length writer → answer ≡ match_within steps writer reader w r → answer ≡ is_match writer reader w r
same_steps writer reader w r steps answer count e = subst (λ (k : ℕ). answer ≡ match_within k writer reader w r) count e

null_passes : (writer reader : List Node) (r : Node) → Matches writer reader Node.null r → is_match writer reader Node.null r ≡ true
null_passes writer reader r reader_union = refl
null_passes writer reader r nulls = refl

pub test_is_relation : (writer reader : List Node) (i : ℕ) (r : Node) (answer : Bool) → is_schema writer ≡ true → answer ≡ is_match writer reader (node_at writer i) r
    → IsTrue answer ↔ Matches writer reader (node_at writer i) r
test_is_relation writer reader i r answer formed e = (
  (λ yes. match_within-sound (length writer) writer reader (node_at writer i) r (sym e ∙ yes)),
  (λ m. e ∙ ⊎_elim (λ low. (is_match-Matches writer reader i r formed low).1 m) (λ past. outside (node_past writer i (λ low. omega (low, past, arith))) m) (cases_lt i (length writer))),
)
  where
    outside : node_at writer i ≡ Node.null → Matches writer reader (node_at writer i) r → is_match writer reader (node_at writer i) r ≡ true
    outside none m = rw none (null_passes writer reader r (subst (λ (n : Node). Matches writer reader n r) none m))

pub ids_count : (ids : List NodeId) → length (ids_of ids) ≡ length ids
ids_count [] = refl
ids_count (x ∷ ids) = ap suc (ids_count ids)

pub id_below : (ids : List NodeId) (i : ℕ) → i < length ids → i < length (ids_of ids)
id_below ids i low = omega (arith, low, ids_count ids)

-- ---- The first match among the branches of a node

pub match_of_branches : (writer reader : List Node) (w r : Node) → first_match writer reader w (branches_at r) ≡ first_match_at writer reader w r
match_of_branches writer reader w r = by (branches_of r)
  where
    by : (o : Option (List ℕ)) → first_match writer reader w (unwrap_or o []) ≡ option_and_then (first_match writer reader w) o
    by None = refl
    by (Some ids) = refl

module _ (writer reader : List Node) (w : Node) where
  -- it is the index of a branch that matches
  found_at : (n i : ℕ) (ids : List ℕ) → first_match_from n writer reader w ids ≡ Some i → (j : ℕ) × (b : ℕ) × (i ≡ n + j) × (slice_get ids j ≡ Some b) × (is_match writer reader w (node_at reader b) ≡ true)
  found_at n i [] e = absurd cc
  found_at n i (x ∷ ids) e = by (is_match writer reader w (node_at reader x)) refl (found_at (suc n) i ids)
    where
      by : (t : Bool) → is_match writer reader w (node_at reader x) ≡ t
          → (first_match_from (suc n) writer reader w ids ≡ Some i → (j : ℕ) × (b : ℕ) × (i ≡ suc n + j) × (slice_get ids j ≡ Some b) × (is_match writer reader w (node_at reader b) ≡ true))
          → (j : ℕ) × (b : ℕ) × (i ≡ n + j) × (slice_get (x ∷ ids) j ≡ Some b) × (is_match writer reader w (node_at reader b) ≡ true)
      by true h later =
          let here : Some n ≡ Some i = sym (ap (λ c. cond c (Some n) (first_match_from (suc n) writer reader w ids)) h) ∙ e in
          let same : n ≡ i = cc in (0, x, omega (arith, same), refl, h)
      by false h later =
          let rest = later (sym (ap (λ c. cond c (Some n) (first_match_from (suc n) writer reader w ids)) h) ∙ e) in
          let at = rest.2 in (suc rest.0, rest.1, omega (arith, at), rest.3, rest.4)

  pub first_matches : (ids : List ℕ) (n i b : ℕ) → first_match_from n writer reader w ids ≡ Some (n + i) → slice_get ids i ≡ Some b → is_match writer reader w (node_at reader b) ≡ true
  first_matches ids n i b e at =
      let found = found_at n (n + i) ids e in
      let there = found.2 in
      let same : found.0 ≡ i = omega (arith, there) in
      let one : Some found.1 ≡ Some b = sym found.3 ∙ ap (slice_get ids) same ∙ at in
      let is : found.1 ≡ b = cc in subst (λ (k : ℕ). is_match writer reader w (node_at reader k) ≡ true) is found.4

  pub first_within : (ids : List NodeId) (i : ℕ) → first_match writer reader w (ids_of ids) ≡ Some i → i < length ids
  first_within ids i e =
      let found = found_at 0 i (ids_of ids) e in
      let there = found.2 in
      let low = get_low (ids_of ids) found.0 found.1 found.3 in omega (arith, there, low, ids_count ids)
    where
      get_low : (xs : List ℕ) (j b : ℕ) → slice_get xs j ≡ Some b → j < length xs
      get_low [] j b e = absurd cc
      get_low (x ∷ xs) zero b e = omega arith
      get_low (x ∷ xs) (suc j) b e = let low = get_low xs j b e in omega (arith, low)

  pub never_past : (ids : List NodeId) (i : ℕ) → first_match writer reader w (ids_of ids) ≡ Some i → slice_get ids i ≡ None → ⊥
  never_past ids i e none = apart (sym none ∙ slice_get-get_or ids i (record { 0 = 0 }) (first_within ids i e))
    where
      apart : {A : Type 0} {x : A} → None ≡ Some x → ⊥
      apart h = cc
