-- What stands at the front of bytes: a number or one fault.
use Rattle.std.proofs.Common.{◌≡◌, ℕ, suc, ◌+◌, ◌*◌, ◌%◌, ◌-◌, ◌^◌, ◌<◌, ◌≤◌, ℤ, true, List, [], ◌∷◌, ◌++◌, length, refl, sym, ap, ◌∙◌, subst, add-one, arith, length-append, append_assoc, append-nil, ◌⊎◌, inl, inr}
use Rattle.std.proofs.lemmas.Bool.Decides.{nat_tests}
use Rattle.std.specs.List.{All}
use Rattle.std.proofs.lemmas.List.Elements.{All-head, All-tail}
use Rattle.std.proofs.lemmas.Bool.{cases_lt}
use Rattle.std.proofs.Math.Nat.{mul-le-mul_right}
use Rattle.avro_zigzag.specs.declared.VarError.{VarError}
use Rattle.avro_zigzag.specs.Number.{zigzag, are_groups, groups_value, AreGroups, SpellsInt, SpellsLong, is_int, is_long}
use Rattle.avro_zigzag.specs.NumberFault.{go_on, NumberFails, ends, too_large, LongFails, IntFails}
use Rattle.avro_zigzag.proofs.public.Spelling.{are_groups-last, are_groups-from_last, are_groups-from_front, are_groups-more, are_groups-some, power-more, is_long-zigzag, is_int-zigzag}

-- the first of bytes that go on
pub go_on-first : (b : ℕ) (bytes : List ℕ) → go_on (b ∷ bytes) ≡ true → (128 ≤ b) × (go_on bytes ≡ true)
go_on-first b bytes h = grind (arith, nat_tests)

pub go_on-from_first : (b : ℕ) (bytes : List ℕ) → 128 ≤ b → go_on bytes ≡ true → go_on (b ∷ bytes) ≡ true
go_on-from_first b bytes low h = grind (arith, nat_tests)

pub go_on-push : (bytes : List ℕ) (b : ℕ) → go_on bytes ≡ true → 128 ≤ b → go_on (bytes ++ b ∷ []) ≡ true
go_on-push [] b h low = go_on-from_first b [] low h
go_on-push (c ∷ bytes) b h low = let parts = go_on-first c bytes h in go_on-from_first c (bytes ++ b ∷ []) parts.0 (go_on-push bytes b parts.1 low)

-- ---- The value of groups

power-suc : (k : ℕ) → 128 ^ suc k ≡ 128 * 128 ^ k
power-suc k = sym (ap (λ i. 128 ^ i) (add-one k)) ∙ power-more k

pub groups_value-below : (bytes : List ℕ) → groups_value bytes < 128 ^ length bytes
groups_value-below [] = omega arith
groups_value-below (b ∷ bytes) = omega (arith, groups_value-below bytes, power-suc (length bytes))

-- one more byte at the end
pub groups_value-push : (front : List ℕ) (b : ℕ) → groups_value (front ++ b ∷ []) ≡ groups_value front + b % 128 * 128 ^ length front
groups_value-push [] b = omega arith
groups_value-push (x ∷ front) b = omega (arith, groups_value-push front b, ap (λ q. b % 128 * q) (power-suc (length front)))

-- bytes that go on and a last byte are groups
pub groups-from_front : (front : List ℕ) (b : ℕ) → go_on front ≡ true → All (λ x. x < 256) front → b < 128 → are_groups (front ++ b ∷ []) ≡ true
groups-from_front [] b go bytes low = are_groups-from_last b low
groups-from_front (x ∷ front) b go bytes low =
    let parts = go_on-first x front go in
    are_groups-from_front x (front ++ b ∷ []) parts.0 (All-head (λ y. y < 256) x front bytes)
    (groups-from_front front b parts.1 (All-tail (λ y. y < 256) x front bytes) low)

-- ---- Where groups end

-- groups go past bytes that go on
pub groups-longer : (go front rest more : List ℕ) → go_on go ≡ true → are_groups front ≡ true → front ++ rest ≡ go ++ more → length go < length front
groups-longer [] front rest more h p e = are_groups-some front p
groups-longer (g ∷ go) [] rest more h p e = absurd (grind arith)
groups-longer (g ∷ go) (c ∷ []) rest more h p e =
    let same : c ≡ g = cc in absurd (omega (arith, are_groups-last c p, go_on-first g go h))
groups-longer (g ∷ go) (c ∷ d ∷ front) rest more h p e =
    let tail : (d ∷ front) ++ rest ≡ go ++ more = cc in
    omega (arith, groups-longer go (d ∷ front) rest more (go_on-first g go h).1 (are_groups-more c d front p).2 tail)

-- groups end at the first byte below 128
pub groups-end : (go front rest more : List ℕ) (b : ℕ) → go_on go ≡ true → b < 128 → are_groups front ≡ true → front ++ rest ≡ go ++ b ∷ more → front ≡ go ++ b ∷ []
groups-end [] [] rest more b h low p e = absurd (grind arith)
groups-end [] (c ∷ []) rest more b h low p e = cc
groups-end [] (c ∷ d ∷ front) rest more b h low p e =
    let same : c ≡ b = cc in absurd (omega (arith, are_groups-more c d front p))
groups-end (g ∷ go) [] rest more b h low p e = absurd (grind arith)
groups-end (g ∷ go) (c ∷ []) rest more b h low p e =
    let same : c ≡ g = cc in absurd (omega (arith, are_groups-last c p, go_on-first g go h))
groups-end (g ∷ go) (c ∷ d ∷ front) rest more b h low p e =
    let tail : (d ∷ front) ++ rest ≡ go ++ b ∷ more = cc in
    let same = groups-end go (d ∷ front) rest more b (go_on-first g go h).1 low (are_groups-more c d front p).2 tail in cc

-- ---- Numbers and faults exclude each other

-- the last possible byte is too large for a number below the bound
not_below : (top n b : ℕ) (go front rest more : List ℕ) → top < 128 → n < (top + 1) * 128 ^ length go → AreGroups (length go + 1) n front
    → front ++ rest ≡ go ++ b ∷ more → go_on go ≡ true → top < b → (b < 128) ⊎ (128 ≤ b) → ⊥
not_below top n b go front rest more low below least e h above (inl small) =
    let same = groups-end go front rest more b h small least.groups e in
    let value : n ≡ groups_value go + b % 128 * 128 ^ length go = sym least.value ∙ ap groups_value same ∙ groups_value-push go b in
    let whole : b % 128 * 128 ^ length go ≡ b * 128 ^ length go = ap (λ q. q * 128 ^ length go) (omega arith) in
    let more' : (top + 1) * 128 ^ length go ≤ b * 128 ^ length go = mul-le-mul_right (128 ^ length go) (omega arith) in
    omega arith
not_below top n b go front rest more low below least e h above (inr large) =
    let longer = groups-longer (go ++ b ∷ []) front rest more (go_on-push go b h large) least.groups (e ∙ sym (append_assoc go (b ∷ []) more)) in
    omega (arith, least.few, length-append go (b ∷ []))

-- no number in range stands at the front of bytes with a fault
pub number-excludes_fault : (most top n : ℕ) (bytes front rest : List ℕ) (fault : VarError) → top < 128 → n < (top + 1) * 128 ^ (most - 1)
    → AreGroups most n front → bytes ≡ front ++ rest → NumberFails most top bytes fault → ⊥
number-excludes_fault most top n bytes front rest _ low below least e (ends go short) =
    let longer = groups-longer bytes front rest [] go least.groups (sym e ∙ sym (append-nil bytes)) in
    omega (arith, ap length e, length-append front rest)
number-excludes_fault most top n bytes front rest _ low below least e (too_large go more b is h last above) =
    let count : most - 1 ≡ length go = omega arith in
    let bound : n < (top + 1) * 128 ^ length go = subst (λ (k : ℕ). n < (top + 1) * 128 ^ k) count below in
    not_below top n b go front rest more low bound (subst (λ (k : ℕ). AreGroups k n front) (sym last) least) (sym e ∙ is) h above (cases_lt b 128)

-- the same, for a long and an int
pub long-excludes_fault : (v : ℤ) (bytes front rest : List ℕ) (fault : VarError) → is_long v ≡ true → SpellsLong v front → bytes ≡ front ++ rest → LongFails bytes fault → ⊥
long-excludes_fault v bytes front rest fault h s e fails =
    number-excludes_fault 10 1 (zigzag v) bytes front rest fault (omega arith) (is_long-zigzag v h) s e fails

pub int-excludes_fault : (v : ℤ) (bytes front rest : List ℕ) (fault : VarError) → is_int v ≡ true → SpellsInt v front → bytes ≡ front ++ rest → IntFails bytes fault → ⊥
int-excludes_fault v bytes front rest fault h s e fails =
    number-excludes_fault 5 15 (zigzag v) bytes front rest fault (omega arith) (is_int-zigzag v h) s e fails

-- at most one fault holds
pub one_fault : (most top : ℕ) (bytes : List ℕ) (e f : VarError) → NumberFails most top bytes e → NumberFails most top bytes f → e ≡ f
one_fault most top bytes _ _ (ends g s) (ends h t) = refl
one_fault most top bytes _ _ (ends g s) (too_large go rest b is h last above) = absurd (omega (arith, ap length is, length-append go (b ∷ rest)))
one_fault most top bytes _ _ (too_large go rest b is h last above) (ends g s) = absurd (omega (arith, ap length is, length-append go (b ∷ rest)))
one_fault most top bytes _ _ (too_large go rest b is h last above) (too_large go' rest' b' is' h' last' above') = refl
