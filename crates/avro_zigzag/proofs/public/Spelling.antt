-- What spells a number, and that nothing else does.
use Rattle.std.proofs.Common.{◌≡◌, ℕ, zero, suc, ◌+◌, ◌*◌, ◌/◌, ◌%◌, ◌^◌, ◌<◌, ◌≤◌, ℤ, pos, negsuc, Bool, true, false, List, [], ◌∷◌, ◌++◌, length, refl, sym, ap, ◌∙◌, add-one, arith}
use Rattle.std.proofs.lemmas.Bool.Decides.{nat_tests}
use Rattle.std.specs.Prelude.{nat_lt}
use Rattle.std.proofs.Math.Nat.{pow-suc}
use Rattle.avro_zigzag.specs.Number.{zigzag, are_groups, groups_value, AreGroups, AreLeastGroups, SpellsInt, SpellsLong, IsShortest, groups_within, number_bytes, is_int, is_long}

-- a last group
pub are_groups-last : (b : ℕ) → are_groups (b ∷ []) ≡ true → b < 128
are_groups-last b h = grind (arith, nat_tests)

pub are_groups-from_last : (b : ℕ) → b < 128 → are_groups (b ∷ []) ≡ true
are_groups-from_last b h = grind (arith, nat_tests)

-- a group with more after it
pub are_groups-more : (b c : ℕ) (bytes : List ℕ) → are_groups (b ∷ c ∷ bytes) ≡ true → (128 ≤ b) × (b < 256) × (are_groups (c ∷ bytes) ≡ true)
are_groups-more b c bytes h = grind (arith, nat_tests)

pub are_groups-from_more : (b c : ℕ) (bytes : List ℕ) → 128 ≤ b → b < 256 → are_groups (c ∷ bytes) ≡ true → are_groups (b ∷ c ∷ bytes) ≡ true
are_groups-from_more b c bytes low high h = grind (arith, nat_tests)

-- there is a group
pub are_groups-some : (bytes : List ℕ) → are_groups bytes ≡ true → 1 ≤ length bytes
are_groups-some [] h = absurd (grind arith)
are_groups-some (b ∷ bytes) h = omega arith

-- the same in front of any groups
pub are_groups-from_front : (b : ℕ) (bytes : List ℕ) → 128 ≤ b → b < 256 → are_groups bytes ≡ true → are_groups (b ∷ bytes) ≡ true
are_groups-from_front b [] low high h = absurd (grind arith)
are_groups-from_front b (c ∷ bytes) low high h = are_groups-from_more b c bytes low high h

-- a number below 128 takes one group
pub least-last : (n : ℕ) → n < 128 → AreLeastGroups n (n ∷ [])
least-last n h = record {
  groups = are_groups-from_last n h;
  value = omega arith;
  shortest = λ others is _. are_groups-some others is;
}

-- what the groups of a larger number begin with
longer : (n : ℕ) (bytes others : List ℕ) → 128 ≤ n → ((tail : List ℕ) → are_groups tail ≡ true → groups_value tail ≡ n / 128 → length bytes ≤ length tail)
    → are_groups others ≡ true → groups_value others ≡ n → length bytes + 1 ≤ length others
longer n bytes [] low shortest is e = absurd (grind arith)
longer n bytes (b ∷ []) low shortest is e = absurd (omega (arith, are_groups-last b is))
longer n bytes (b ∷ c ∷ others) low shortest is e =
    let tail = are_groups-more b c others is in
    omega (arith, shortest (c ∷ others) tail.2 (omega arith))

-- a larger one takes one group more than its upper bits
pub least-more : (n : ℕ) (bytes : List ℕ) → 128 ≤ n → AreLeastGroups (n / 128) bytes → AreLeastGroups n ((128 + n % 128) ∷ bytes)
least-more n bytes low least = record {
  groups = are_groups-from_front (128 + n % 128) bytes (omega arith) (omega arith) least.groups;
  value = omega (arith, least.value);
  shortest = λ others is e. omega (arith, longer n bytes others low least.shortest is e);
}

-- one step of `groups_within`
within_more : (test : Bool) (n : ℕ) (bytes : List ℕ) → nat_lt n 128 ≡ test → (128 ≤ n → AreLeastGroups (n / 128) bytes)
    → AreLeastGroups n (elim test [ true ↦ n ∷ [] | false ↦ (128 + n % 128) ∷ bytes ])
within_more true n bytes e least = least-last n (below_128 n e)
  where
    below_128 : (n : ℕ) → nat_lt n 128 ≡ true → n < 128
    below_128 n e = grind (arith, nat_tests)
within_more false n bytes e least = let low : 128 ≤ n = from_128 n e in least-more n bytes low (least low)
  where
    from_128 : (n : ℕ) → nat_lt n 128 ≡ false → 128 ≤ n
    from_128 n e = grind (arith, nat_tests)

-- enough steps compute the least groups
pub least-groups_within : (more n : ℕ) → n ≤ more → AreLeastGroups n (groups_within more n)
least-groups_within zero n h = least-last n (omega arith)
least-groups_within (suc more) n h =
    within_more (nat_lt n 128) n (groups_within more (n / 128)) refl (λ low. least-groups_within more (n / 128) (omega arith))

-- `number_bytes` is the shortest spelling of each number
pub IsShortest-number_bytes : (v : ℤ) → IsShortest v (number_bytes v)
IsShortest-number_bytes v = least-groups_within (zigzag v) (zigzag v) (omega arith)

-- no groups begin others
pub groups-prefix : (a b x y : List ℕ) → are_groups a ≡ true → are_groups b ≡ true → a ++ x ≡ b ++ y → a ≡ b
groups-prefix [] b x y p q e = absurd (grind arith)
groups-prefix (c ∷ a) [] x y p q e = absurd (grind arith)
groups-prefix (c ∷ []) (d ∷ []) x y p q e = cc
groups-prefix (c ∷ []) (d ∷ k ∷ b) x y p q e =
    let same : c ≡ d = cc in absurd (omega (arith, are_groups-last c p, are_groups-more d k b q))
groups-prefix (c ∷ j ∷ a) (d ∷ []) x y p q e =
    let same : c ≡ d = cc in absurd (omega (arith, are_groups-last d q, are_groups-more c j a p))
groups-prefix (c ∷ j ∷ a) (d ∷ k ∷ b) x y p q e =
    let rest : (j ∷ a) ++ x ≡ (k ∷ b) ++ y = cc in
    let same = groups-prefix (j ∷ a) (k ∷ b) x y (are_groups-more c j a p).2 (are_groups-more d k b q).2 rest in cc

-- no two numbers have one zig-zag number
pub same_from_zigzag : (v w : ℤ) → zigzag v ≡ zigzag w → v ≡ w
same_from_zigzag (pos m) (pos n) e = ap pos (omega arith)
same_from_zigzag (pos m) (negsuc n) e = absurd (omega arith)
same_from_zigzag (negsuc m) (pos n) e = absurd (omega arith)
same_from_zigzag (negsuc m) (negsuc n) e = ap negsuc (omega arith)

-- no spelling begins another
pub one_spelling_lem : {most more : ℕ} (v w : ℤ) (a b x y : List ℕ) → AreGroups most (zigzag v) a → AreGroups more (zigzag w) b → a ++ x ≡ b ++ y → (a ≡ b) × (v ≡ w)
one_spelling_lem v w a b x y s t e =
    let same = groups-prefix a b x y s.groups t.groups e in
    (same, same_from_zigzag v w (sym s.value ∙ ap groups_value same ∙ t.value))

-- groups of one length and one value are the same
groups-same : (a b : List ℕ) → are_groups a ≡ true → are_groups b ≡ true → length a ≡ length b → groups_value a ≡ groups_value b → a ≡ b
groups-same [] b p q l e = absurd (grind arith)
groups-same (c ∷ a) [] p q l e = absurd (grind arith)
groups-same (c ∷ []) (d ∷ []) p q l e = let same : c ≡ d = omega (arith, are_groups-last c p, are_groups-last d q) in cc
groups-same (c ∷ []) (d ∷ k ∷ b) p q l e = absurd (omega arith)
groups-same (c ∷ j ∷ a) (d ∷ []) p q l e = absurd (omega arith)
groups-same (c ∷ j ∷ a) (d ∷ k ∷ b) p q l e =
    let left = are_groups-more c j a p in
    let right = are_groups-more d k b q in
    let first : c ≡ d = omega (arith, left, right) in
    let rest = groups-same (j ∷ a) (k ∷ b) left.2 right.2 (omega arith) (omega arith) in cc

-- each number has one shortest spelling, the computed one
pub same_spelling : (v : ℤ) (a b : List ℕ) → IsShortest v a → IsShortest v b → a ≡ b
same_spelling v a b s t =
    groups-same a b s.groups t.groups (omega (arith, s.shortest b t.groups t.value, t.shortest a s.groups s.value)) (s.value ∙ sym t.value)

pub number_bytes-from_spelling : (v : ℤ) (a : List ℕ) → IsShortest v a → a ≡ number_bytes v
number_bytes-from_spelling v a s = same_spelling v a (number_bytes v) s (IsShortest-number_bytes v)

-- no spelling is shorter than the shortest
pub none_shorter_lem : (most : ℕ) (v : ℤ) (short bytes : List ℕ) → IsShortest v short → AreGroups most (zigzag v) bytes → length short ≤ length bytes
none_shorter_lem most v short bytes s t = s.shortest bytes t.groups t.value

-- ---- How long a spelling is

-- one power of 128 more
pub power-more : (k : ℕ) → 128 ^ (k + 1) ≡ 128 * 128 ^ k
power-more k = rw add-one (omega (arith, pow-suc 128 k))

-- a number below a power of 128 takes at most that many groups
within-length-step : (test : Bool) (n k : ℕ) (bytes : List ℕ) → nat_lt n 128 ≡ test → n < 128 ^ (k + 1)
    → ((j : ℕ) → n / 128 < 128 ^ (j + 1) → length bytes ≤ j + 1)
    → length (elim test as (λ b. List ℕ) [ true ↦ n ∷ [] | false ↦ (128 + n % 128) ∷ bytes ]) ≤ k + 1
within-length-step true n k bytes e below h = omega arith
within-length-step false n zero bytes e below h = absurd (grind (arith, nat_tests))
within-length-step false n (suc j) bytes e below h =
    let power : 128 ^ (suc j + 1) ≡ 128 * 128 ^ suc j = power-more (suc j) in
    let again : 128 ^ (j + 1) ≡ 128 ^ suc j = ap (λ i. 128 ^ i) (add-one j) in
    omega (arith, h j (omega arith))

within-length : (more n k : ℕ) → n ≤ more → n < 128 ^ (k + 1) → length (groups_within more n) ≤ k + 1
within-length zero n k h below = omega arith
within-length (suc more) n k h below =
    within-length-step (nat_lt n 128) n k (groups_within more (n / 128)) refl below (λ j. within-length more (n / 128) j (omega arith))

pub least-length : (n k : ℕ) (bytes : List ℕ) → AreLeastGroups n bytes → 1 ≤ k → n < 128 ^ k → length bytes ≤ k
least-length n zero bytes least some below = absurd (omega arith)
least-length n (suc k) bytes least some below =
    let computed = least-groups_within n n (omega arith) in
    omega (arith, least.shortest (groups_within n n) computed.groups computed.value, within-length n n k (omega arith) (rw add-one below))

pub is_long-zigzag : (v : ℤ) → is_long v ≡ true → zigzag v < 2 ^ 64
is_long-zigzag (pos n) h = grind (arith, nat_tests)
is_long-zigzag (negsuc n) h = grind (arith, nat_tests)

pub is_long-from_zigzag : (v : ℤ) → zigzag v < 2 ^ 64 → is_long v ≡ true
is_long-from_zigzag (pos n) h = grind (arith, nat_tests)
is_long-from_zigzag (negsuc n) h = grind (arith, nat_tests)

pub is_int-zigzag : (v : ℤ) → is_int v ≡ true → zigzag v < 2 ^ 32
is_int-zigzag (pos n) h = grind (arith, nat_tests)
is_int-zigzag (negsuc n) h = grind (arith, nat_tests)

pub is_int-from_zigzag : (v : ℤ) → zigzag v < 2 ^ 32 → is_int v ≡ true
is_int-from_zigzag (pos n) h = grind (arith, nat_tests)
is_int-from_zigzag (negsuc n) h = grind (arith, nat_tests)

-- the shortest spelling is a spelling

pub SpellsLong-from_shortest : (v : ℤ) (a : List ℕ) → is_long v ≡ true → IsShortest v a → SpellsLong v a
SpellsLong-from_shortest v a h s =
    let below = is_long-zigzag v h in
    record { groups = s.groups; value = s.value; few = least-length (zigzag v) 10 a s (omega arith) (omega arith) }

pub SpellsInt-from_shortest : (v : ℤ) (a : List ℕ) → is_int v ≡ true → IsShortest v a → SpellsInt v a
SpellsInt-from_shortest v a h s =
    let below = is_int-zigzag v h in
    record { groups = s.groups; value = s.value; few = least-length (zigzag v) 5 a s (omega arith) (omega arith) }

pub SpellsLong-number_bytes : (v : ℤ) → is_long v ≡ true → SpellsLong v (number_bytes v)
SpellsLong-number_bytes v h = SpellsLong-from_shortest v (number_bytes v) h (IsShortest-number_bytes v)

pub SpellsInt-number_bytes : (v : ℤ) → is_int v ≡ true → SpellsInt v (number_bytes v)
SpellsInt-number_bytes v h = SpellsInt-from_shortest v (number_bytes v) h (IsShortest-number_bytes v)
