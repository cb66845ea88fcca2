-- The branches of a union, and maps of their first indices, as a branch is added.
use Rattle.std.proofs.Common.{◌≡◌, ◌∙◌, ℕ, ◌+◌, ◌<◌, ◌≤◌, Bool, true, false, ◌&&◌, ◌==◌, cond, List, length, Option, Some, None, drop, refl, sym, ap, arith}
use Rattle.std.specs.Prelude.{is_some, position, slice_index_or}
use Rattle.std.specs.List.{list_all, position_from}
use Rattle.std.specs.Ordering.{is_eq, nat_cmp}
use Rattle.std.specs.Cmp.{unsigned_ties}
use Rattle.std.proofs.lemmas.Iterator.Adapters.{position_from-zero}
use Rattle.std.proofs.Math.ListN.{drop_of_length-le}
use Rattle.avro_schema.specs.Node.{Node, node_at}
use Rattle.avro_schema.specs.Seen.{ids_of}
use Rattle.avro_schema.specs.WellFormed.{branch_kind, is_schema, is_union, meets_its_rules}
use Rattle.avro_schema.specs.declared.schema.NodeId.{NodeId}
use Rattle.avro_compare.specs.inside.NamedTypes.{NamedType}
use Rattle.avro_compare.specs.inside.TypeNames.{NameKey, branches_at, is_number, is_own, is_text, key_cmp}
use Rattle.avro_compare.proofs.HeldAliases.{same_key}
use Rattle.avro_compare.proofs.public.Lists.{next_in}
use Rattle.avro_compare.proofs.public.Rules.{MeetRules-from_is_schema}

-- a union's branches are no unions
pub all_plain : (reader : List Node) (r : ℕ) → is_schema reader ≡ true → list_all (λ id. is_some (branch_kind (node_at reader id))) (branches_at (node_at reader r)) ≡ true
all_plain reader r formed = by (node_at reader r) (MeetRules-from_is_schema reader formed r)
  where
    of_union : (ids : List ℕ) → is_union reader ids ≡ true → list_all (λ id. is_some (branch_kind (node_at reader id))) ids ≡ true
    of_union ids is = grind arith

    by : (n : Node) → meets_its_rules reader n ≡ true → list_all (λ id. is_some (branch_kind (node_at reader id))) (branches_at n) ≡ true
    by (Node.union ids) rules = of_union ids rules
    by _ rules = refl

-- ---- A type's kind and simple name

never : (here : Bool) → (here && false) ≡ false
never true = refl
never false = refl

module _ (texts : List (List ℕ)) (t : NamedType) (branch : ℕ) (key : NameKey) (old : Option ℕ) where
  pub not_put : is_number key.1 None ≡ is_text texts key.1 t.name.simple → old ≡ cond (is_own texts key.0 key.1 t) (Some branch) old
  not_put e = sym (ap (λ c. cond (t.kind == key.0 && c) (Some branch) old) (sym e) ∙ ap (λ c. cond c (Some branch) old) (never (t.kind == key.0)))

  pub name_put : (simple : ℕ) (new : Option ℕ) → is_number key.1 (Some simple) ≡ is_text texts key.1 t.name.simple → new ≡ cond (is_eq (key_cmp (t.kind, simple) key)) (Some branch) old
      → new ≡ cond (is_own texts key.0 key.1 t) (Some branch) old
  name_put simple new e put =
      put ∙ ap (λ c. cond c (Some branch) old) (same_key (t.kind, simple) key ∙ ap (λ c. t.kind == key.0 && c) e)

pub place_put : (place b : ℕ) (index : ℕ) (old new : Option ℕ) → new ≡ cond (is_eq (nat_cmp place b)) (Some index) old → new ≡ cond (place == b) (Some index) old
place_put place b index old new put = put ∙ ap (λ c. cond c (Some index) old) (sym (unsigned_ties place b))

-- ---- One branch more

-- the first of the branches from an index on that passes
abbrev pub branch_from : (ℕ → Bool) → List NodeId → ℕ → Option ℕ
branch_from test branches n = position_from test n (ids_of (drop n branches))

pub branch_next : (test : ℕ → Bool) (branches : List NodeId) (n : ℕ) (d : NodeId) (before after : Option ℕ) → n < length branches
    → before ≡ branch_from test branches (n + 1) → after ≡ cond (test (slice_index_or branches n d).0) (Some n) before → after ≡ branch_from test branches n
branch_next test branches n d before after low known put =
    put ∙ ap (λ o. cond (test (slice_index_or branches n d).0) (Some n) o) known
    ∙ sym (ap (λ (bs : List NodeId). position_from test n (ids_of bs)) (next_in branches n d low))

pub branch_none : (test : ℕ → Bool) (branches : List NodeId) (n : ℕ) → length branches ≤ n → None ≡ branch_from test branches n
branch_none test branches n high = ap (λ (bs : List NodeId). position_from test n (ids_of bs)) (sym (drop_of_length-le branches high))

pub branch_first : (test : ℕ → Bool) (branches : List NodeId) (n : ℕ) (found : Option ℕ) → n ≡ 0 → found ≡ branch_from test branches n → found ≡ position test (ids_of branches)
branch_first test branches n found none known = known ∙ ap (branch_from test branches) none ∙ sym (position_from-zero test (ids_of branches))
