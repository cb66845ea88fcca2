-- No spelling of a datum is shorter than its plain encoding.
use Rattle.std.proofs.Common.{◌≡◌, ℕ, zero, suc, ◌+◌, ◌*◌, ◌-◌, ◌^◌, ◌<◌, ◌≤◌, pos, true, List, [], ◌∷◌, ◌++◌, length, refl, sym, ap, subst, ◌∙◌, arith, length-append}
use Rattle.std.specs.Prelude.{neg_ℤ}
use Rattle.std.specs.List.{concat}
use Rattle.std.proofs.lemmas.List.Folds.{concat-append}
use Rattle.std.proofs.Math.Nat.{pow-suc}
use Rattle.std.proofs.lemmas.Nat.{pow-add}
use Rattle.avro_zigzag.specs.Number.{zigzag, are_groups, groups_value, AreGroups, SpellsLong, number_bytes}
use Rattle.avro_zigzag.proofs.public.Spelling.{are_groups-last, are_groups-more, are_groups-some, least-length, IsShortest-number_bytes, none_shorter_lem}
use Rattle.avro_schema.specs.Value.{Value, Values, Entries, no_values, value, no_entries, entry, values_count, entries_count}
use Rattle.avro_cursor.specs.Blocks.{IsInBlocks, no_more, counted, sized}
use Rattle.avro_cursor.specs.Encoding.{SpellsBytes, Spells, EachSpelled, EntriesSpelled, plain_bytes, plain_blocks, plain, plain_values, plain_entries}

-- ---- How long a count is

groups-below : (bytes : List ℕ) → are_groups bytes ≡ true → groups_value bytes < 128 ^ length bytes
groups-below [] h = absurd (grind arith)
groups-below (b ∷ []) h = let low = are_groups-last b h in omega arith
groups-below (b ∷ c ∷ bytes) h =
    let rest = groups-below (c ∷ bytes) (are_groups-more b c bytes h).2 in
    omega (arith, rest, pow-suc 128 (length (c ∷ bytes)))

both-below : (p q a b : ℕ) → a < p + 2 → b < q + 2 → a + b < (p + 2) * (q + 2)
both-below p q a b g h = omega arith

product-below : (p q a b : ℕ) → 2 ≤ p → 2 ≤ q → a < p → b < q → a + b < p * q
product-below p q a b some more g h =
    let left : p - 2 + 2 ≡ p = omega arith in
    let right : q - 2 + 2 ≡ q = omega arith in
    subst (λ (n : ℕ). a + b < n) (λ i. left i * right i) (both-below (p - 2) (q - 2) a b (omega arith) (omega arith))

-- the length of the count of some items, and 0 of none
abbrev count-length : ℕ → ℕ
count-length zero = 0
count-length (suc n) = length (number_bytes (pos (suc n)))

count-most : (n k : ℕ) → 1 ≤ k → 2 * n < 128 ^ k → count-length n ≤ k
count-most zero k some below = omega arith
count-most (suc n) k some below = least-length (zigzag (pos (suc n))) k (number_bytes (pos (suc n))) (IsShortest-number_bytes (pos (suc n))) some below

-- items before others: their count is no longer than the two
count-step : (a b k : ℕ) → 0 < a → 1 ≤ k → 2 * a < 128 ^ k → count-length (a + b) ≤ k + count-length b
count-step a zero k some more below =
    let most = count-most (a + 0) k more (omega arith) in omega arith
count-step a (suc b) k some more below =
    let least = IsShortest-number_bytes (pos (suc b)) in
    let j = length (number_bytes (pos (suc b))) in
    let low : groups_value (number_bytes (pos (suc b))) < 128 ^ j = groups-below (number_bytes (pos (suc b))) least.groups in
    let value : groups_value (number_bytes (pos (suc b))) ≡ 2 * suc b = least.value in
    let both : 2 * a + 2 * suc b < 128 ^ k * 128 ^ j = product-below (128 ^ k) (128 ^ j) (2 * a) (2 * suc b) (omega arith) (omega arith) below (omega arith) in
    let power : 128 ^ (k + j) ≡ 128 ^ k * 128 ^ j = pow-add 128 k j in
    count-most (a + suc b) (k + j) (omega arith) (omega arith)

spelled-below : (most n : ℕ) (bytes : List ℕ) → AreGroups most n bytes → n < 128 ^ length bytes
spelled-below most n bytes g = subst (λ (m : ℕ). m < 128 ^ length bytes) g.value (groups-below bytes g.groups)

counted-step : (a b : ℕ) (count : List ℕ) → 0 < a → SpellsLong (pos a) count → count-length (a + b) ≤ length count + count-length b
counted-step a b count some s = count-step a b (length count) some (are_groups-some count s.groups) (spelled-below 10 (zigzag (pos a)) count s)

sized-step : (a b : ℕ) (count size : List ℕ) (n : ℕ) → 0 < a → SpellsLong (neg_ℤ (pos a)) count → SpellsLong (pos n) size
    → count-length (a + b) ≤ length count + length size + count-length b
sized-step zero b count size n some s t = absurd (omega arith)
sized-step (suc a) b count size n some s t =
    let more = are_groups-some size t.groups in
    let low : 2 * a + 1 < 128 ^ length count = spelled-below 10 (2 * a + 1) count s in
    let step = count-step (suc a) b (suc (length count)) (omega arith) (omega arith) (omega (arith, low, pow-suc 128 (length count))) in
    omega (arith, more, step)

-- ---- Blocks

blocks-length : (items : List (List ℕ)) (bytes : List ℕ) → IsInBlocks items bytes → count-length (length items) + length (concat items) + 1 ≤ length bytes
blocks-length _ bytes (no_more s) = let some = are_groups-some bytes s.groups in omega arith
blocks-length items bytes (counted block later count rest is some few s e more) =
    let after = blocks-length later rest more in
    let number : length items ≡ length block + length later = ap length is ∙ length-append block later in
    let content : length (concat items) ≡ length (concat block) + length (concat later) =
    ap (λ (xs : List (List ℕ)). length (concat xs)) is ∙ ap length (concat-append block later) ∙ length-append (concat block) (concat later) in
    let all : length bytes ≡ length (count ++ concat block) + length rest = ap length e ∙ length-append (count ++ concat block) rest in
    let front : length (count ++ concat block) ≡ length count + length (concat block) = length-append count (concat block) in
    let step = counted-step (length block) (length later) count some s in
    let here : count-length (length items) ≤ length count + count-length (length later) =
    subst (λ (n : ℕ). count-length n ≤ length count + count-length (length later)) (sym number) step in
    omega (arith, after, content, all, front, here)
blocks-length items bytes (sized block later count size rest is some few short s t e more) =
    let after = blocks-length later rest more in
    let number : length items ≡ length block + length later = ap length is ∙ length-append block later in
    let content : length (concat items) ≡ length (concat block) + length (concat later) =
    ap (λ (xs : List (List ℕ)). length (concat xs)) is ∙ ap length (concat-append block later) ∙ length-append (concat block) (concat later) in
    let all : length bytes ≡ length (count ++ size ++ concat block) + length rest = ap length e ∙ length-append (count ++ size ++ concat block) rest in
    let front : length (count ++ size ++ concat block) ≡ length (count ++ size) + length (concat block) = length-append (count ++ size) (concat block) in
    let head : length (count ++ size) ≡ length count + length size = length-append count size in
    let step = sized-step (length block) (length later) count size (length (concat block)) some s t in
    let here : count-length (length items) ≤ length count + length size + count-length (length later) =
    subst (λ (n : ℕ). count-length n ≤ length count + length size + count-length (length later)) (sym number) step in
    omega (arith, after, content, all, front, head, here)

blocks-shortest : (count : ℕ) (xs : List ℕ) (items : List (List ℕ)) (bytes : List ℕ) → length items ≡ count → length xs ≤ length (concat items) → IsInBlocks items bytes
    → length (plain_blocks count xs) ≤ length bytes
blocks-shortest zero xs items bytes e short s = let all = blocks-length items bytes s in omega arith
blocks-shortest (suc count) xs items bytes e short s =
    let number = number_bytes (pos (suc count)) in
    let all = blocks-length items bytes s in
    let here : length number + length (concat items) + 1 ≤ length bytes = subst (λ (n : ℕ). count-length n + length (concat items) + 1 ≤ length bytes) e all in
    let sum : length (number ++ xs ++ 0 ∷ []) ≡ length (number ++ xs) + 1 = length-append (number ++ xs) (0 ∷ []) in
    let front : length (number ++ xs) ≡ length number + length xs = length-append number xs in
    omega (arith, here, sum, front, short)

-- ---- Each datum

number-shortest : (most : ℕ) (n : ℕ) (bytes : List ℕ) → AreGroups most (zigzag (pos n)) bytes → length (number_bytes (pos n)) ≤ length bytes
number-shortest most n bytes s = none_shorter_lem most (pos n) (number_bytes (pos n)) bytes (IsShortest-number_bytes (pos n)) s

bytes-shortest : (content bytes : List ℕ) → SpellsBytes content bytes → length (plain_bytes content) ≤ length bytes
bytes-shortest content bytes (count, s, e) =
    let short = number-shortest 10 (length content) count s in
    let all : length bytes ≡ length count + length content = ap length e ∙ length-append count content in
    let sum : length (plain_bytes content) ≡ length (number_bytes (pos (length content))) + length content = length-append (number_bytes (pos (length content))) content in
    omega (arith, short, all, sum)

values-counted : (vs : Values) (items : List (List ℕ)) → EachSpelled vs items → length items ≡ values_count vs
values-counted no_values items s = ap length s
values-counted (value v vs) items (first, others, spelled, more, e) = ap length e ∙ ap suc (values-counted vs others more)

entries-counted : (es : Entries) (items : List (List ℕ)) → EntriesSpelled es items → length items ≡ entries_count es
entries-counted no_entries items s = ap length s
entries-counted (entry k v es) items (key, first, others, named, spelled, more, e) = ap length e ∙ ap suc (entries-counted es others more)

-- two parts, each of which is no longer
join-shortest : (a b x y bytes : List ℕ) → length a ≤ length x → length b ≤ length y → bytes ≡ x ++ y → length (a ++ b) ≤ length bytes
join-shortest a b x y bytes g h e =
    let left : length (a ++ b) ≡ length a + length b = length-append a b in
    let right : length bytes ≡ length x + length y = ap length e ∙ length-append x y in
    omega (arith, g, h, left, right)

mutual
  pub plain-shortest : (v : Value) (bytes : List ℕ) → Spells v bytes → length (plain v) ≤ length bytes
  plain-shortest Value.null bytes s = omega arith
  plain-shortest (Value.boolean b) bytes s = let one : length bytes ≡ 1 = ap length s in omega arith
  plain-shortest (Value.int i) bytes s = none_shorter_lem 5 i (number_bytes i) bytes (IsShortest-number_bytes i) s
  plain-shortest (Value.long i) bytes s = none_shorter_lem 10 i (number_bytes i) bytes (IsShortest-number_bytes i) s
  plain-shortest (Value.bytes b) bytes s = bytes-shortest b bytes s
  plain-shortest (Value.string t) bytes s = bytes-shortest t bytes s
  plain-shortest (Value.array vs) bytes (items, each, blocks) =
      blocks-shortest (values_count vs) (plain_values vs) items bytes (values-counted vs items each) (plain_values-shortest vs items each) blocks
  plain-shortest (Value.map_of es) bytes (items, each, blocks) =
      blocks-shortest (entries_count es) (plain_entries es) items bytes (entries-counted es items each) (plain_entries-shortest es items each) blocks
  plain-shortest (Value.union k v) bytes (index, rest, s, spelled, e) =
      join-shortest (number_bytes (pos k)) (plain v) index rest bytes (number-shortest 5 k index s) (plain-shortest v rest spelled) e
  plain-shortest (Value.record_of vs) bytes (items, each, e) =
      subst (λ (b : List ℕ). length (plain_values vs) ≤ length b) (sym e) (plain_values-shortest vs items each)
  plain-shortest (Value.enum k) bytes s = number-shortest 5 k bytes s
  plain-shortest (Value.fixed b) bytes s = let same : length bytes ≡ length b = ap length s in omega arith

  pub plain_values-shortest : (vs : Values) (items : List (List ℕ)) → EachSpelled vs items → length (plain_values vs) ≤ length (concat items)
  plain_values-shortest no_values items s = omega arith
  plain_values-shortest (value v vs) items (first, others, spelled, more, e) =
      join-shortest (plain v) (plain_values vs) first (concat others) (concat items) (plain-shortest v first spelled) (plain_values-shortest vs others more) (ap concat e)

  plain_entries-shortest : (es : Entries) (items : List (List ℕ)) → EntriesSpelled es items → length (plain_entries es) ≤ length (concat items)
  plain_entries-shortest no_entries items s = omega arith
  plain_entries-shortest (entry k v es) items (key, first, others, named, spelled, more, e) =
      join-shortest (plain_bytes k ++ plain v) (plain_entries es) (key ++ first) (concat others) (concat items)
      (join-shortest (plain_bytes k) (plain v) key first (key ++ first) (bytes-shortest k key named) (plain-shortest v first spelled) refl)
      (plain_entries-shortest es others more) (ap concat e)
