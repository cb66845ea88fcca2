-- Rows of nodes by their kinds.
use Rattle.avro_schema_json.proofs.Words.{◌≡◌, ℕ, ◌≤◌, true, false, cond, Option, Some, None, Ordering, refl, sym, arith, nat_lt, Equal-is, nat_cmp_is, get, place_of, pair_cmp, HasRow, HasKind, KeepsKinds, has_place, Row}
use Rattle.std.specs.Ordering.{nat_cmp, is_eq}
use Rattle.std.specs.BTreeMap.{BTreeMap}
use Rattle.std.proofs.lemmas.Map.Lookups.{exact_unsigned, exact_pairs}
use Rattle.avro_schema_json.proofs.EachSeen.{put-each}

-- ---- keys that are pairs

-- a key is another where they are equal in their order
pub same_pair : (a b : ℕ × ℕ) → is_eq (pair_cmp a b) ≡ true → a ≡ b
same_pair a b h = exact_pairs nat_cmp nat_cmp exact_unsigned exact_unsigned a b ((Equal-is (pair_cmp a b)).0 h)

pub same_number : (n : ℕ) → nat_cmp n n ≡ Ordering.Equal
same_number n = sym (nat_cmp_is n n Ordering.Equal refl)

pub pair_itself : (a : ℕ × ℕ) → is_eq (pair_cmp a a) ≡ true
pair_itself a = rw (same_number a.0, same_number a.1) refl

-- ---- rows of kinds

pub in_row : (found : Option Row) (row : Row) (p : ℕ) → Some row ≡ found → HasRow found p → has_place row.words p ≡ true
in_row found row p same has = grind arith

pub in_none : (found : Option Row) (p : ℕ) → None ≡ found → HasRow found p → ⊥
in_none found p same has = grind arith

-- one row more
pub kind-put : (old new : BTreeMap (ℕ × ℕ) Row) (kind : ℕ × ℕ) (row : Row) → ((p : ℕ) → HasKind old kind p → has_place row.words p ≡ true)
    → ((q : ℕ × ℕ) → get pair_cmp new q ≡ cond (is_eq (pair_cmp kind q)) (Some row) (get pair_cmp old q)) → KeepsKinds old new
kind-put old new kind row within put =
    put-each (λ a b. is_eq (pair_cmp a b)) same_pair (λ k o. (p : ℕ) → HasKind old k p → HasRow o p) (get pair_cmp old) (get pair_cmp new) kind row put (λ k p h. h) within

pub kind-added : (old new : BTreeMap (ℕ × ℕ) Row) (kind : ℕ × ℕ) (row : Row) (p : ℕ) → has_place row.words p ≡ true
    → ((q : ℕ × ℕ) → get pair_cmp new q ≡ cond (is_eq (pair_cmp kind q)) (Some row) (get pair_cmp old q)) → HasKind new kind p
kind-added old new kind row p there put = grind (arith, pair_itself)

-- nodes past the last place share it
pub past_last : (last m : ℕ) → last ≤ m → place_of last m ≡ last
past_last last m past = let above : nat_lt m last ≡ false = grind (arith, past) in rw above refl
