-- The steps of the loops that write and read groups.
use Rattle.std.proofs.Common.{◌≡◌, ℕ, zero, suc, ◌+◌, ◌*◌, ◌/◌, ◌%◌, ◌-◌, ◌^◌, ◌<◌, ◌≤◌, ℤ, pos, negsuc, true, List, [], ◌∷◌, ◌++◌, length, take, drop, get_or, set, refl, sym, ap, ◌∙◌, subst, arith, append_assoc, length-append, length-take, drop-cons, ◌⊎◌, inl, inr, to_z, of_z, w32, w64}
use Rattle.std.specs.List.{All}
use Rattle.std.proofs.lemmas.List.{take-append-drop, take_more, take_more_set, get_or-set_other}
use Rattle.std.proofs.lemmas.List.Elements.{All-take}
use Rattle.std.proofs.lemmas.Bool.{cases_lt}
use Rattle.std.proofs.lemmas.Nat.{pow-add}
use Rattle.std.proofs.lemmas.Int.{to_z-of_z}
use Rattle.std.proofs.Math.Nat.{mul-le-mul_right, pow-le-pow_right, pow-suc}
use Rattle.avro_zigzag.specs.declared.VarError.TheVariants.{OutOfRange}
use Rattle.avro_zigzag.specs.Number.{zigzag, groups_value, AreGroups, AreLeastGroups}
use Rattle.avro_zigzag.specs.NumberFault.{go_on, NumberFails, too_large}
use Rattle.avro_zigzag.proofs.public.Spelling.{least-last, least-more, one_spelling_lem, power-more}
use Rattle.avro_zigzag.proofs.public.Faults.{go_on-push, groups_value-below, groups_value-push, groups-from_front}

-- ---- Writing

-- a number below 2 ^ 64 has room for one group more while it has more than one
pub room : (rest len n : ℕ) → 128 ≤ rest → rest * 128 ^ len ≤ n → n < 2 ^ 64 → len + 1 < 10
room rest len n low within below = by_cases (cases_lt len 9)
  where
    by_cases : (len < 9) ⊎ (9 ≤ len) → len + 1 < 10
    by_cases (inl short) = omega arith
    by_cases (inr long) =
        let power : 128 ^ 9 ≤ 128 ^ len = pow-le-pow_right (omega arith) long in
        let product : 128 * 128 ^ len ≤ rest * 128 ^ len = mul-le-mul_right (128 ^ len) low in absurd (omega arith)

-- the upper bits, seven places up
pub rest-within : (rest len n : ℕ) → rest * 128 ^ len ≤ n → rest / 128 * 128 ^ (len + 1) ≤ n
rest-within rest len n within =
    let product : rest / 128 * 128 * 128 ^ len ≤ rest * 128 ^ len = mul-le-mul_right (128 ^ len) (omega arith) in
    omega (arith, ap (λ p. rest / 128 * p) (power-more len))

-- one group more behind those that are written
pub written_more : (n rest len : ℕ) (bytes : List ℕ) → len < length bytes → 128 ≤ rest
    → ((tail : List ℕ) → AreLeastGroups rest tail → AreLeastGroups n (take len bytes ++ tail))
    → (tail : List ℕ) → AreLeastGroups (rest / 128) tail → AreLeastGroups n (take (len + 1) (set bytes len (128 + rest % 128)) ++ tail)
written_more n rest len bytes short low so_far tail least =
    let b = 128 + rest % 128 in
    rw (take_more_set bytes len b short, append_assoc (take len bytes) (b ∷ []) tail) (so_far (b ∷ tail) (least-more rest tail low least))

-- no place past them is written
pub zero_more : (bytes : List ℕ) (len b : ℕ) → ((k : ℕ) → len ≤ k → get_or bytes k 0 ≡ 0) → (k : ℕ) → len + 1 ≤ k → get_or (set bytes len b) k 0 ≡ 0
zero_more bytes len b zeros k h = get_or-set_other bytes len k b 0 (omega arith) ∙ zeros k (omega arith)

-- the last group
pub written_all : (n rest len : ℕ) (bytes : List ℕ) → len < length bytes → rest < 128
    → ((tail : List ℕ) → AreLeastGroups rest tail → AreLeastGroups n (take len bytes ++ tail))
    → AreLeastGroups n (take (len + 1) (set bytes len rest))
written_all n rest len bytes short low so_far = rw (take_more_set bytes len rest short) (so_far (rest ∷ []) (least-last rest low))

-- ---- Reading

split_here : (xs : List ℕ) (i : ℕ) → i < length xs → xs ≡ take i xs ++ get_or xs i 0 ∷ drop (suc i) xs
split_here xs i h = sym (take-append-drop i xs) ∙ ap (λ ys. take i xs ++ ys) (drop-cons xs i 0 h)

front-length : (xs : List ℕ) (i : ℕ) → i < length xs → length (take i xs) ≡ i
front-length xs i h = omega (arith, length-take i xs)

pub fault-too_large : (most top i : ℕ) (xs : List ℕ) → i < length xs → go_on (take i xs) ≡ true → i + 1 ≡ most → top < get_or xs i 0
    → NumberFails most top xs OutOfRange
fault-too_large most top i xs h go last above =
    too_large (take i xs) (drop (suc i) xs) (get_or xs i 0) (split_here xs i h) go (omega (arith, front-length xs i h)) above

pub power-shift : (i : ℕ) → 2 ^ (7 * i) ≡ 128 ^ i
power-shift zero = refl
power-shift (suc i) =
    ap (λ k. 2 ^ k) (omega arith) ∙ pow-add 2 (7 * i) 7 ∙ ap (λ p. p * 128) (power-shift i) ∙ sym (pow-suc 128 i)

-- the shift is below 64
pub shift-below : (i most top : ℕ) → i < most → (top + 1) * 128 ^ (most - 1) ≤ 2 ^ 64 → i ≤ 9
shift-below i most top h fits = by_cases (cases_lt i 10)
  where
    by_cases : (i < 10) ⊎ (10 ≤ i) → i ≤ 9
    by_cases (inl short) = omega arith
    by_cases (inr long) =
        let power : 128 ^ 10 ≤ 128 ^ (most - 1) = pow-le-pow_right (omega arith) {i = 10} {j = most - 1} (omega arith) in
        let product : 1 * 128 ^ (most - 1) ≤ (top + 1) * 128 ^ (most - 1) = mul-le-mul_right (128 ^ (most - 1)) (omega arith) in absurd (omega arith)

-- one group more stays below the bound
pub value-below : (i most top group value : ℕ) → i < most → value < 128 ^ i → group < 128 → (i + 1 ≡ most → group ≤ top)
    → value + group * 128 ^ i < (top + 1) * 128 ^ (most - 1)
value-below i most top group value h below low last = by_cases (cases_lt (i + 1) most)
  where
    by_cases : (i + 1 < most) ⊎ (most ≤ i + 1) → value + group * 128 ^ i < (top + 1) * 128 ^ (most - 1)
    by_cases (inl more) =
        let power : 128 ^ (i + 1) ≤ 128 ^ (most - 1) = pow-le-pow_right (omega arith) {i = i + 1} {j = most - 1} (omega arith) in
        let product : (group + 1) * 128 ^ i ≤ 128 * 128 ^ i = mul-le-mul_right (128 ^ i) (omega arith) in
        let product' : 1 * 128 ^ (most - 1) ≤ (top + 1) * 128 ^ (most - 1) = mul-le-mul_right (128 ^ (most - 1)) (omega arith) in
        omega (arith, power-more i)
    by_cases (inr end) =
        let whole : i + 1 ≡ most = omega arith in
        let capped : group ≤ top = last whole in
        let place : i ≡ most - 1 = omega arith in
        let product : (group + 1) * 128 ^ i ≤ (top + 1) * 128 ^ i = mul-le-mul_right (128 ^ i) (omega arith) in
        omega (arith, ap (λ k. (top + 1) * 128 ^ k) place)

-- a shift that loses no bit
pub shift-whole : (group i bound : ℕ) → group * 128 ^ i < bound → bound ≤ 2 ^ 64 → group * 2 ^ (7 * i) % 2 ^ 64 ≡ group * 128 ^ i
shift-whole group i bound below fits = omega (arith, ap (λ p. group * p) (power-shift i))

-- what the shift and the sum give
pub group-added : (i most top byte group value : ℕ) → i < most → (top + 1) * 128 ^ (most - 1) ≤ 2 ^ 64 → value < 128 ^ i → byte ≡ group → group < 128
    → (i + 1 ≡ most → group ≤ top)
    → (value + byte * 2 ^ (7 * i) % 2 ^ 64 ≡ value + group * 128 ^ i) × (value + group * 128 ^ i < (top + 1) * 128 ^ (most - 1))
group-added i most top byte group value h fits so_far same low last =
    let below = value-below i most top group value h so_far low last in
    let whole = shift-whole group i ((top + 1) * 128 ^ (most - 1)) (omega arith) fits in
    (ap (λ b. value + b * 2 ^ (7 * i) % 2 ^ 64) same ∙ ap (λ x. value + x) whole, below)

-- the value of the groups so far and one more
value_pushed : (xs : List ℕ) (i b group : ℕ) → i < length xs → b % 128 ≡ group
    → groups_value (take i xs ++ b ∷ []) ≡ groups_value (take i xs) + group * 128 ^ i
value_pushed xs i b group h e =
    let power : b % 128 * 128 ^ length (take i xs) ≡ group * 128 ^ i =
    ap (λ k. b % 128 * 128 ^ k) (front-length xs i h) ∙ ap (λ q. q * 128 ^ i) e in
    omega (arith, groups_value-push (take i xs) b)

-- the groups that are read
pub read_last : (most : ℕ) (xs : List ℕ) (i value : ℕ) → i < most → i < length xs → All (λ x. x < 256) xs → go_on (take i xs) ≡ true
    → value ≡ groups_value (take i xs) → get_or xs i 0 < 128 → AreGroups most (value + get_or xs i 0 * 128 ^ i) (take (i + 1) xs)
read_last most xs i value within h bytes go so_far low =
    let b = get_or xs i 0 in
    subst (λ (ys : List ℕ). AreGroups most (value + b * 128 ^ i) ys) (sym (take_more xs i 0 h)) (record {
      groups = groups-from_front (take i xs) b go (All-take (λ x. x < 256) i xs bytes) low;
      value = let power = value_pushed xs i b b h (omega arith) in omega arith;
      few = omega (arith, length-append (take i xs) (b ∷ []), front-length xs i h);
    })

-- the number goes on
pub read_more : (xs : List ℕ) (i value : ℕ) → i < length xs → go_on (take i xs) ≡ true → value ≡ groups_value (take i xs)
    → 128 ≤ get_or xs i 0 → get_or xs i 0 < 256 → (go_on (take (i + 1) xs) ≡ true) × (value + (get_or xs i 0 - 128) * 128 ^ i ≡ groups_value (take (i + 1) xs))
read_more xs i value h go so_far low high =
    let b = get_or xs i 0 in
    let pushed = value_pushed xs i b (b - 128) h (omega arith) in (
      rw (take_more xs i 0 h) (go_on-push (take i xs) b go low),
      rw (take_more xs i 0 h) (omega arith),
    )

pub so_far-below : (xs : List ℕ) (i value : ℕ) → i < length xs → value ≡ groups_value (take i xs) → value < 128 ^ i
so_far-below xs i value h so_far =
    omega (arith, groups_value-below (take i xs), ap (λ k. 128 ^ k) (front-length xs i h))

-- ---- What is read is the only number

pub only_read : {most : ℕ} (v w : ℤ) (n len : ℕ) (bytes front rest : List ℕ) → zigzag w ≡ n → AreGroups most n (take len bytes) → len ≤ length bytes
    → AreGroups most (zigzag v) front → bytes ≡ front ++ rest → (w ≡ v) × (len ≡ length front)
only_read {most = most} v w n len bytes front rest e groups within s f =
    let found : AreGroups most (zigzag w) (take len bytes) = subst (λ (k : ℕ). AreGroups most k (take len bytes)) (sym e) groups in
    let same = one_spelling_lem w v (take len bytes) front (drop len bytes) rest found s (take-append-drop len bytes ∙ f) in
    (same.1, omega (arith, ap length same.0, length-take len bytes))

-- a number of 64 bits, and one of 32
pub wide : (z : ℤ) → zigzag z < 2 ^ 64 → to_z w64 (of_z w64 z) ≡ z
wide (pos n) h = to_z-of_z w64 (pos n) (record { sfits = omega arith })
wide (negsuc n) h = to_z-of_z w64 (negsuc n) (record { sfits = omega arith })

pub narrow : (z : ℤ) → zigzag z < 2 ^ 32 → to_z w32 (of_z w32 z) ≡ z
narrow (pos n) h = to_z-of_z w32 (pos n) (record { sfits = omega arith })
narrow (negsuc n) h = to_z-of_z w32 (negsuc n) (record { sfits = omega arith })
