-- How a reader's union takes a value into its first branch that matches.
use Rattle.std.proofs.Common.{◌≡◌, ℕ, zero, suc, ◌+◌, ◌<◌, Bool, true, false, cond, List, [], ◌∷◌, length, Option, Some, None, refl, arith}
use Rattle.std.specs.Prelude.{IfOk, is_some, slice_get, unwrap_or}
use Rattle.std.specs.List.{list_all}
use Rattle.std.proofs.lemmas.Bool.{and_parts}
use Rattle.avro_schema.specs.Value.{Value}
use Rattle.avro_schema.specs.Node.{Node, node_at}
use Rattle.avro_schema.specs.Fits.{fits, is_some_and}
use Rattle.avro_schema.specs.WellFormed.{branch_kind, is_union, meets_its_rules}
use Rattle.avro_compare.specs.Match.{Matches, is_match, first_match, first_match_from}
use Rattle.avro_compare.specs.Fault.{fault_here, no_match}
use Rattle.avro_compare.specs.Resolve.{Resolved, matched, branch_node, into_branch, through}
use Rattle.avro_resolve.proofs.Outcomes.{IfOk-cond, IfOk-result_map}
use Rattle.avro_compare.proofs.public.MatchTest.{match_within-sound}
use Rattle.avro_resolve.proofs.AtMatch.{FitsAt, IsPlain}
use Rattle.avro_compare.proofs.public.Rules.{MeetRules}

-- the first match stands among the branches
pub first_match-within : (index : ℕ) (writer reader : List Node) (w : Node) (bs : List ℕ) (k : ℕ) → first_match_from index writer reader w bs ≡ Some k → k < index + length bs
first_match-within index writer reader w [] k e = absurd (cc)
first_match-within index writer reader w (b ∷ bs) k e =
    either (is_match writer reader w (node_at reader b)) (first_match_from (suc index) writer reader w bs) e (first_match-within (suc index) writer reader w bs k)
  where
    either : (test : Bool) (rest : Option ℕ) → cond test (Some index) rest ≡ Some k → (rest ≡ Some k → k < suc index + length bs) → k < index + length (b ∷ bs)
    either true rest is more = let same : index ≡ k = cc in omega arith
    either false rest is more = omega (arith, more is)

-- what each id passes the one at an index passes
pub all-at : (test : ℕ → Bool) (ids : List ℕ) (k : ℕ) → list_all test ids ≡ true → k < length ids → test (unwrap_or (slice_get ids k) 0) ≡ true
all-at test [] k h low = absurd (omega arith)
all-at test (p ∷ ids) zero h low = (and_parts (test p) (list_all test ids) h).0
all-at test (p ∷ ids) (suc k) h low = all-at test ids k (and_parts (test p) (list_all test ids) h).1 (omega arith)

-- there is a branch there
there : (test : ℕ → Bool) (ids : List ℕ) (k : ℕ) → k < length ids → test (unwrap_or (slice_get ids k) 0) ≡ true → is_some_and test (slice_get ids k) ≡ true
there test [] k low h = absurd (omega arith)
there test (p ∷ ids) zero low h = h
there test (p ∷ ids) (suc k) low h = there test ids k (omega arith) h

-- no branch of a union is one
pub plain-branch : (reader : List Node) (ids : List ℕ) (k : ℕ) → is_union reader ids ≡ true → k < length ids → IsPlain (branch_node reader ids k)
plain-branch reader ids k h low = all-at (λ id. is_some (branch_kind (node_at reader id))) ids k (all-plain h) low
  where
    all-plain : is_union reader ids ≡ true → list_all (λ id. is_some (branch_kind (node_at reader id))) ids ≡ true
    all-plain is = grind arith

-- at a node that is no union
matched-fits : (writer reader : List Node) (w r : Node) (resolve : Node → Resolved)
    → (Matches writer reader w r → IfOk (resolve r) (FitsAt reader r)) → IfOk (matched writer reader w r resolve) (FitsAt reader r)
matched-fits writer reader w r resolve h =
    IfOk-cond (FitsAt reader r) (is_match writer reader w r) (resolve r) (fault_here no_match)
    (λ e. h (match_within-sound (length writer) writer reader w r e))

-- what resolution makes of a value at each node that is no union
abbrev pub EachFits : List Node → List Node → Node → (Node → Resolved) → Type 0
EachFits writer reader w resolve =
    (q : Node) → Matches writer reader w q → IsPlain q → meets_its_rules reader q ≡ true → IfOk (resolve q) (FitsAt reader q)

branch-fits : (writer reader : List Node) (w : Node) (ids : List ℕ) (resolve : Node → Resolved) → MeetRules reader → is_union reader ids ≡ true
    → EachFits writer reader w resolve → (found : Option ℕ) → first_match writer reader w ids ≡ found
    → IfOk (into_branch writer reader w ids found resolve) (FitsAt reader (Node.union ids))
branch-fits writer reader w ids resolve rules is each None e = tt
branch-fits writer reader w ids resolve rules is each (Some k) e =
    let low : k < length ids = omega (arith, first_match-within 0 writer reader w ids k e) in
    let q = branch_node reader ids k in
    IfOk-result_map (FitsAt reader q) (FitsAt reader (Node.union ids)) (Value.union k) (matched writer reader w q resolve)
    (matched-fits writer reader w q resolve (λ m. each q m (plain-branch reader ids k is low) (rules (unwrap_or (slice_get ids k) 0))))
    (λ v h. there (λ id. fits reader (node_at reader id) v) ids k low h)

-- at any node
pub through-fits : (writer reader : List Node) (w r : Node) (resolve : Node → Resolved) → MeetRules reader → meets_its_rules reader r ≡ true
    → EachFits writer reader w resolve → IfOk (through writer reader w r resolve) (FitsAt reader r)
through-fits writer reader w (Node.union ids) resolve rules good each = branch-fits writer reader w ids resolve rules good each (first_match writer reader w ids) refl
through-fits writer reader w r resolve rules good each = matched-fits writer reader w r resolve (λ m. each r m refl good)
