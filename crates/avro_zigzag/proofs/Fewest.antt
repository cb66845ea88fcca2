-- Groups whose last is above 0 are the fewest of their value.
use Rattle.std.proofs.Common.{◌≡◌, ℕ, zero, suc, ◌+◌, ◌*◌, ◌%◌, ◌^◌, ◌<◌, ◌≤◌, ◌⊎◌, inl, inr, ℤ, true, List, [], ◌∷◌, ◌++◌, length, take, drop, get_or, refl, sym, ap, ◌∙◌, subst, length-append, length-take, drop-cons, arith}
use Rattle.std.proofs.lemmas.List.{take-append-drop}
use Rattle.std.proofs.lemmas.Bool.{cases_lt}
use Rattle.std.proofs.Math.Nat.{mul-le-mul_right, pow-le-pow_right}
use Rattle.avro_zigzag.specs.Number.{zigzag, are_groups, groups_value, AreGroups, AreLeastGroups, IsShortest}
use Rattle.avro_zigzag.specs.NumberFault.{go_on}
use Rattle.avro_zigzag.proofs.public.Spelling.{are_groups-last, are_groups-more, are_groups-some, least-last}
use Rattle.avro_zigzag.proofs.public.Faults.{groups-end, groups_value-below, groups_value-push}

-- no groups of the value of some and one above 0 after them are fewer
not_fewer : (front others : List ℕ) (b : ℕ) → b < 128 → 1 ≤ b → groups_value others ≡ groups_value (front ++ b ∷ []) → length front < length others
not_fewer front others b low some e = by_cases (cases_lt (length front) (length others))
  where
    by_cases : (length front < length others) ⊎ (length others ≤ length front) → length front < length others
    by_cases (inl more) = more
    by_cases (inr fewer) =
        let power : 128 ^ length others ≤ 128 ^ length front = pow-le-pow_right (omega arith) fewer in
        let product : 1 * 128 ^ length front ≤ b % 128 * 128 ^ length front = mul-le-mul_right (128 ^ length front) (omega arith) in
        absurd (omega (arith, groups_value-push front b, groups_value-below others))

-- groups end at the first byte that does not go on; where it is above 0, they are the fewest of their value
pub least-from_last : (bytes : List ℕ) (i : ℕ) (front rest : List ℕ) → i < length bytes → go_on (take i bytes) ≡ true → get_or bytes i 0 < 128 → 1 ≤ get_or bytes i 0
    → are_groups front ≡ true → bytes ≡ front ++ rest → AreLeastGroups (groups_value front) front
least-from_last bytes i front rest h go low some groups e =
    let b = get_or bytes i 0 in
    let here : bytes ≡ take i bytes ++ b ∷ drop (suc i) bytes = sym (take-append-drop i bytes) ∙ ap (λ ys. take i bytes ++ ys) (drop-cons bytes i 0 h) in
    let is : front ≡ take i bytes ++ b ∷ [] = groups-end (take i bytes) front rest (drop (suc i) bytes) b go low groups (sym e ∙ here) in record {
      groups = groups;
      value = refl;
      shortest = λ others spelled same.
          let more = not_fewer (take i bytes) others b low some (same ∙ ap groups_value is) in
          omega (arith, ap length is, length-append (take i bytes) (b ∷ []));
    }

-- one group is the only one
pub least-from_first : (bytes front rest : List ℕ) → get_or bytes 0 0 < 128 → are_groups front ≡ true → bytes ≡ front ++ rest → AreLeastGroups (groups_value front) front
least-from_first bytes [] rest low groups e = absurd (grind arith)
least-from_first bytes (c ∷ []) rest low groups e =
    record { groups = groups; value = refl; shortest = λ others spelled same. are_groups-some others spelled }
least-from_first bytes (c ∷ d ∷ front) rest low groups e =
    let first : get_or bytes 0 0 ≡ c = ap (λ xs. get_or xs 0 0) e in
    absurd (omega (arith, are_groups-more c d front groups))

-- the same of a number
pub shortest-from_least : (most : ℕ) (v : ℤ) (front : List ℕ) → AreGroups most (zigzag v) front → AreLeastGroups (groups_value front) front → IsShortest v front
shortest-from_least most v front s least = subst (λ (n : ℕ). AreLeastGroups n front) s.value least
