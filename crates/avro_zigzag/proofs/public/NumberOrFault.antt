-- Bytes begin with a number in range or have a fault.
use Rattle.std.proofs.Common.{◌≡◌, ℕ, zero, suc, ◌+◌, ◌*◌, ◌/◌, ◌%◌, ◌-◌, ◌^◌, ◌<◌, ◌≤◌, ℤ, pos, negsuc, true, List, [], ◌∷◌, ◌++◌, refl, sym, ap, subst, arith, ◌⊎◌, inl, inr}
use Rattle.std.specs.Prelude.{nat_lt}
use Rattle.std.specs.List.{All, list_all}
use Rattle.std.proofs.lemmas.Bool.Decides.{nat_tests}
use Rattle.std.proofs.lemmas.List.Elements.{All-nil, All-cons, All-head, All-tail}
use Rattle.std.proofs.lemmas.Bool.{cases_lt}
use Rattle.std.proofs.Math.Nat.{pow-suc}
use Rattle.avro_zigzag.specs.declared.VarError.{VarError}
use Rattle.avro_zigzag.specs.declared.VarError.TheVariants.{EndOfInput, OutOfRange}
use Rattle.avro_zigzag.specs.Number.{zigzag, AreGroups, SpellsInt, SpellsLong, is_int, is_long}
use Rattle.avro_zigzag.specs.NumberFault.{NumberFails, ends, too_large, LongFails, IntFails}
use Rattle.avro_zigzag.proofs.public.Spelling.{are_groups-from_last, are_groups-from_front, is_long-from_zigzag, is_int-from_zigzag}
use Rattle.avro_zigzag.proofs.public.Faults.{go_on-from_first}

-- groups at the front, the value of which is below the bound
pub record GroupsBegin (most top : ℕ) (bytes : List ℕ) : Type 0 where
  pub n : ℕ
  pub front : List ℕ
  pub rest : List ℕ
  pub groups : AreGroups most n front
  pub below : n < (top + 1) * 128 ^ (most - 1)
  pub split : bytes ≡ front ++ rest

abbrev FaultAt : ℕ → ℕ → List ℕ → Type 0
FaultAt most top bytes = (e : VarError) × NumberFails most top bytes e

one-group : (most top b : ℕ) (bytes : List ℕ) → b < 128 → b < (top + 1) * 128 ^ (most - 1) → 1 ≤ most → GroupsBegin most top (b ∷ bytes)
one-group most top b bytes low below some = record {
  n = b;
  front = b ∷ [];
  rest = bytes;
  groups = record { groups = are_groups-from_last b low; value = omega arith; few = omega arith };
  below = below;
  split = refl;
}

room : (top k : ℕ) → 128 ≤ (top + 1) * 128 ^ suc k
room top zero = omega arith
room top (suc k) = omega (arith, room top k, ap (λ p. (top + 1) * p) (pow-suc 128 (suc k)))

group-first : (k top b : ℕ) (bytes : List ℕ) → 128 ≤ b → b < 256 → GroupsBegin (suc k) top bytes → GroupsBegin (suc (suc k)) top (b ∷ bytes)
group-first k top b bytes low high g =
    let s = g.groups in record {
      n = b % 128 + 128 * g.n;
      front = b ∷ g.front;
      rest = g.rest;
      groups = record {
        groups = are_groups-from_front b g.front low high s.groups;
        value = let v = s.value in omega arith;
        few = let f = s.few in omega arith;
      };
      below =
          let l = g.below in
          let place : suc k - 1 ≡ k = omega arith in
          let next : suc (suc k) - 1 ≡ suc k = omega arith in
          omega (arith, ap (λ i. (top + 1) * 128 ^ i) place, ap (λ i. (top + 1) * 128 ^ i) next, ap (λ p. (top + 1) * p) (pow-suc 128 k));
      split = ap (λ q. b ∷ q) g.split;
    }

fault-first : (k top b : ℕ) (bytes : List ℕ) (e : VarError) → 128 ≤ b → NumberFails (suc k) top bytes e → NumberFails (suc (suc k)) top (b ∷ bytes) e
fault-first k top b bytes _ low (ends go short) = ends (go_on-from_first b bytes low go) (omega arith)
fault-first k top b bytes _ low (too_large front rest c is go last above) =
    too_large (b ∷ front) rest c (ap (λ q. b ∷ q) is) (go_on-from_first b front low go) (omega arith) above

groups_or_fault : (k top : ℕ) (bytes : List ℕ) → top < 128 → All (λ b. b < 256) bytes → GroupsBegin (suc k) top bytes ⊎ FaultAt (suc k) top bytes
groups_or_fault k top [] low all = inr (EndOfInput, ends refl (omega arith))
groups_or_fault zero top (b ∷ bytes) low all = elim (cases_lt top b) [
  | inl above ↦ inr (OutOfRange, too_large [] bytes b refl refl refl above)
  | inr within ↦ inl (one-group 1 top b bytes (omega arith) (omega arith) (omega arith))
]
groups_or_fault (suc k) top (b ∷ bytes) low all = elim (cases_lt b 128) [
  | inl small ↦ inl (one-group (suc (suc k)) top b bytes small (let wide = room top k in let next : suc (suc k) - 1 ≡ suc k = omega arith in omega (arith, ap (λ i. (top + 1) * 128 ^ i) next)) (omega arith))
  | inr large ↦ more large (groups_or_fault k top bytes low (All-tail (λ x. x < 256) b bytes all))
]
  where
    more : 128 ≤ b → GroupsBegin (suc k) top bytes ⊎ FaultAt (suc k) top bytes → GroupsBegin (suc (suc k)) top (b ∷ bytes) ⊎ FaultAt (suc (suc k)) top (b ∷ bytes)
    more large (inl g) = inl (group-first k top b bytes large (All-head (λ x. x < 256) b bytes all) g)
    more large (inr f) = inr (f.0, fault-first k top b bytes f.0 large f.1)

-- each number is the zig-zag number of one
from_zigzag : (n : ℕ) → (v : ℤ) × (zigzag v ≡ n)
from_zigzag n = elim (cases_lt (n % 2) 1) [
  | inl even ↦ (pos (n / 2), omega arith)
  | inr odd ↦ (negsuc (n / 2), omega arith)
]

-- a long, or an int, that begins bytes
pub record LongBegins (bytes : List ℕ) : Type 0 where
  pub v : ℤ
  pub front : List ℕ
  pub rest : List ℕ
  pub in_range : is_long v ≡ true
  pub spelled : SpellsLong v front
  pub split : bytes ≡ front ++ rest

pub record IntBegins (bytes : List ℕ) : Type 0 where
  pub v : ℤ
  pub front : List ℕ
  pub rest : List ℕ
  pub in_range : is_int v ≡ true
  pub spelled : SpellsInt v front
  pub split : bytes ≡ front ++ rest

long_begins : (bytes : List ℕ) → GroupsBegin 10 1 bytes → LongBegins bytes
long_begins bytes g =
    let z = from_zigzag g.n in
    let below = g.below in record {
      v = z.0;
      front = g.front;
      rest = g.rest;
      in_range = is_long-from_zigzag z.0 (let e = z.1 in omega arith);
      spelled = subst (λ (n : ℕ). AreGroups 10 n g.front) (sym z.1) g.groups;
      split = g.split;
    }

int_begins : (bytes : List ℕ) → GroupsBegin 5 15 bytes → IntBegins bytes
int_begins bytes g =
    let z = from_zigzag g.n in
    let below = g.below in record {
      v = z.0;
      front = g.front;
      rest = g.rest;
      in_range = is_int-from_zigzag z.0 (let e = z.1 in omega arith);
      spelled = subst (λ (n : ℕ). AreGroups 5 n g.front) (sym z.1) g.groups;
      split = g.split;
    }

pub long_or_fault_lem : (bytes : List ℕ) → All (λ b. b < 256) bytes → LongBegins bytes ⊎ ((e : VarError) × LongFails bytes e)
long_or_fault_lem bytes all = elim (groups_or_fault 9 1 bytes (omega arith) all) [ inl g ↦ inl (long_begins bytes g) | inr f ↦ inr f ]

pub int_or_fault_lem : (bytes : List ℕ) → All (λ b. b < 256) bytes → IntBegins bytes ⊎ ((e : VarError) × IntFails bytes e)
int_or_fault_lem bytes all = elim (groups_or_fault 4 15 bytes (omega arith) all) [ inl g ↦ inl (int_begins bytes g) | inr f ↦ inr f ]

-- the test of bytes
All-from_test : (bytes : List ℕ) → list_all (λ b. nat_lt b 256) bytes ≡ true → All (λ b. b < 256) bytes
All-from_test [] h = All-nil (λ b. b < 256)
All-from_test (b ∷ bytes) h = All-cons (λ x. x < 256) b bytes (below b bytes h) (All-from_test bytes (others b bytes h))
  where
    below : (b : ℕ) (bytes : List ℕ) → list_all (λ x. nat_lt x 256) (b ∷ bytes) ≡ true → b < 256
    below b bytes h = grind (arith, nat_tests)

    others : (b : ℕ) (bytes : List ℕ) → list_all (λ x. nat_lt x 256) (b ∷ bytes) ≡ true → list_all (λ x. nat_lt x 256) bytes ≡ true
    others b bytes h = grind (arith, nat_tests)

pub long_stands_or_fails : (bytes : List ℕ) → list_all (λ b. nat_lt b 256) bytes ≡ true
    → ((v : ℤ) × (front rest : List ℕ) × (is_long v ≡ true) × SpellsLong v front × (bytes ≡ front ++ rest)) ⊎ ((e : VarError) × LongFails bytes e)
long_stands_or_fails bytes h = elim (long_or_fault_lem bytes (All-from_test bytes h)) [
  | inl g ↦ inl (g.v, g.front, g.rest, g.in_range, g.spelled, g.split)
  | inr f ↦ inr f
]

pub int_stands_or_fails : (bytes : List ℕ) → list_all (λ b. nat_lt b 256) bytes ≡ true
    → ((v : ℤ) × (front rest : List ℕ) × (is_int v ≡ true) × SpellsInt v front × (bytes ≡ front ++ rest)) ⊎ ((e : VarError) × IntFails bytes e)
int_stands_or_fails bytes h = elim (int_or_fault_lem bytes (All-from_test bytes h)) [
  | inl g ↦ inl (g.v, g.front, g.rest, g.in_range, g.spelled, g.split)
  | inr f ↦ inr f
]
