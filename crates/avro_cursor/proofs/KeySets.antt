-- The set of the keys that were read so far.
use Rattle.std.proofs.Common.{◌≡◌, ℕ, Bool, true, false, ◌||◌, cond, List, [], ◌∷◌, ◌++◌, map, refl, sym, ap, ◌∙◌, Bor, bytes_eq, Option, Some, None}
use Rattle.std.specs.List.{list_any}
use Rattle.std.specs.declared.cmp.Ordering.{Ordering}
use Rattle.std.specs.Ordering.{nat_cmp, is_eq, eq_by_cmp}
use Rattle.std.specs.Cmp.Lexicographic.{slice_cmp, nat_list_cmp_total, nat_list_eq_equiv}
use Rattle.std.specs.FinSet as set
use Rattle.std.specs.BTreeSet.{BTreeSet, contains, Updates}
use Rattle.std.proofs.lemmas.Map.Text.{is_eq-slice_cmp}
use Rattle.std.proofs.lemmas.Slice.Eq.{bytes_eq-Decides}
use Rattle.avro_cursor.specs.KeySet.{KeySet, key_set, with_key}

-- keys as slices, seen as their bytes
abbrev pub seen_keys : List (Bor (List ℕ)) → List (List ℕ)
seen_keys keys = map (λ (k : Bor (List ℕ)). k.now) keys

-- the order of the slices
abbrev pub slice_order : Bor (List ℕ) → Bor (List ℕ) → Ordering
slice_order x y = slice_cmp nat_cmp x.now y.now

any-seen : (k : List ℕ) (keys : List (Bor (List ℕ))) → list_any (eq_by_cmp (slice_cmp nat_cmp) k) (seen_keys keys) ≡ list_any (λ (q : Bor (List ℕ)). is_eq (slice_cmp nat_cmp k q.now)) keys
any-seen k [] = refl
any-seen k (q ∷ keys) = ap (λ b. is_eq (slice_cmp nat_cmp k q.now) || b) (any-seen k keys)

any-bytes_eq : (k : List ℕ) (keys : List (List ℕ)) → list_any (eq_by_cmp (slice_cmp nat_cmp) k) keys ≡ list_any (bytes_eq k) keys
any-bytes_eq k [] = refl
any-bytes_eq k (q ∷ keys) = λ i. is_eq-slice_cmp k q i || any-bytes_eq k keys i

-- the set has the keys of the list
pub contains-key_set : (keys : List (List ℕ)) (k : List ℕ) → set.contains (key_set keys) k ≡ list_any (bytes_eq k) keys
contains-key_set keys k = set.contains-from_list nat_list_cmp_total keys k ∙ any-bytes_eq k keys

-- one more key at the end
pub key_set-push : (keys : List (List ℕ)) (k : List ℕ) → key_set (keys ++ k ∷ []) ≡ set.insert (key_set keys) k
key_set-push keys k = set.from_list_push nat_list_cmp_total (set.slice_cmp-IsAntisymmetric set.nat_cmp-IsAntisymmetric) keys k

contains-seen : (keys : List (Bor (List ℕ))) (k : Bor (List ℕ)) → set.contains (key_set (seen_keys keys)) k.now ≡ list_any (λ (q : Bor (List ℕ)). is_eq (slice_order k q)) keys
contains-seen keys k = set.contains-from_list nat_list_cmp_total (seen_keys keys) k.now ∙ any-seen k.now keys

cond-or : (b c : Bool) → cond b true c ≡ (b || c)
cond-or true c = refl
cond-or false c = refl

flip_eq : (k q : List ℕ) → is_eq (slice_cmp nat_cmp k q) ≡ is_eq (slice_cmp nat_cmp q k)
flip_eq k q = is_eq-slice_cmp k q ∙ nat_list_eq_equiv.symm k q ∙ sym (is_eq-slice_cmp q k)

-- the set after one more key
pub key_set-updates : (before after : BTreeSet (Bor (List ℕ))) (k : Bor (List ℕ)) → Updates slice_order before after k true
    → key_set (seen_keys after.keys) ≡ set.insert (key_set (seen_keys before.keys)) k.now
key_set-updates before after k updates =
    set.same_set nat_list_cmp_total (set.slice_cmp-IsAntisymmetric set.nat_cmp-IsAntisymmetric) _ _ (λ q.
    contains-seen after.keys (record { ref_ptr = (0, 0); now = q })
    ∙ updates.0 (record { ref_ptr = (0, 0); now = q })
    ∙ cond-or (is_eq (slice_cmp nat_cmp k.now q)) (list_any (λ (x : Bor (List ℕ)). is_eq (slice_cmp nat_cmp q x.now)) before.keys)
    ∙ (λ i. flip_eq k.now q i || sym (contains-seen before.keys (record { ref_ptr = (0, 0); now = q })) i)
    ∙ sym (set.contains-insert nat_list_cmp_total (key_set (seen_keys before.keys)) k.now q))

-- whether the set has a key, as the tree reports
pub key_set-contains : (before : BTreeSet (Bor (List ℕ))) (k : Bor (List ℕ)) → contains slice_order before k ≡ set.contains (key_set (seen_keys before.keys)) k.now
key_set-contains before k = sym (contains-seen before.keys k)

-- a key of the set adds nothing
pub key_set-again : (s : KeySet) (k : List ℕ) → set.contains s k ≡ true → set.insert s k ≡ s
key_set-again s k old =
    set.same_set nat_list_cmp_total (set.slice_cmp-IsAntisymmetric set.nat_cmp-IsAntisymmetric) _ _ (λ q.
    set.contains-insert nat_list_cmp_total s k q ∙ absorbs (eq_by_cmp (slice_cmp nat_cmp) q k) (set.contains s q) (λ same. tied q same))
  where
    absorbs : (b c : Bool) → (b ≡ true → c ≡ true) → (b || c) ≡ c
    absorbs true c h = sym (h refl)
    absorbs false c h = refl

    tied : (q : List ℕ) → eq_by_cmp (slice_cmp nat_cmp) q k ≡ true → set.contains s q ≡ true
    tied q same = ap (set.contains s) ((bytes_eq-Decides q k).0 (sym (is_eq-slice_cmp q k) ∙ same)) ∙ old

or_same : (a b c : Bool) → (a || (b || c)) ≡ (b || (a || c))
or_same true true c = refl
or_same true false c = refl
or_same false b c = refl

-- in whichever order two keys are added
swapped : (s : KeySet) (j k : List ℕ) → set.insert (set.insert s j) k ≡ set.insert (set.insert s k) j
swapped s j k =
    set.same_set nat_list_cmp_total (set.slice_cmp-IsAntisymmetric set.nat_cmp-IsAntisymmetric) _ _ (λ q.
    let is_j = eq_by_cmp (slice_cmp nat_cmp) q j in
    let is_k = eq_by_cmp (slice_cmp nat_cmp) q k in
    set.contains-insert nat_list_cmp_total (set.insert s j) k q ∙ ap (λ b. is_k || b) (set.contains-insert nat_list_cmp_total s j q)
    ∙ or_same is_k is_j (set.contains s q)
    ∙ sym (set.contains-insert nat_list_cmp_total (set.insert s k) j q ∙ ap (λ b. is_j || b) (set.contains-insert nat_list_cmp_total s k q)))

pub with_key-insert : (kept : Option (Bor (List ℕ))) (s : KeySet) (k : List ℕ) → with_key kept (set.insert s k) ≡ set.insert (with_key kept s) k
with_key-insert (Some kept) s k = swapped s k kept.now
with_key-insert None s k = refl

-- the same of three keys
pub with_three-insert : (f g h : Option (Bor (List ℕ))) (s : KeySet) (k : List ℕ)
    → with_key f (with_key g (with_key h (set.insert s k))) ≡ set.insert (with_key f (with_key g (with_key h s))) k
with_three-insert f g h s k =
    ap (λ t. with_key f (with_key g t)) (with_key-insert h s k) ∙ ap (with_key f) (with_key-insert g (with_key h s) k) ∙ with_key-insert f (with_key g (with_key h s)) k

-- whether a set has a key once another was added
pub contains-one : (s : KeySet) (kept k : List ℕ) → set.contains (set.insert s kept) k ≡ (bytes_eq k kept || set.contains s k)
contains-one s kept k = set.contains-insert nat_list_cmp_total s kept k ∙ ap (λ b. b || set.contains s k) (is_eq-slice_cmp k kept)

pub contains-none : (k : List ℕ) → set.contains (key_set []) k ≡ false
contains-none k = set.contains-empty (slice_cmp nat_cmp) k
