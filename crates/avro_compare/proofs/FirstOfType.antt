-- The first branch that matches a type: the first with its simple name, or the first that has its fullname as an alias.
use Rattle.std.proofs.Common.{◌≡◌, ◌∙◌, ℕ, zero, suc, ◌+◌, ◌<◌, ◌≤◌, Bool, true, false, ◌&&◌, ◌||◌, ◌==◌, cond, List, [], ◌∷◌, length, Option, Some, None, refl, sym, ap, subst, arith, ⊎_elim}
use Rattle.std.specs.Prelude.{drop, is_some, nat_eq, nat_le, bytes_eq, position, slice_get, slice_index_or}
use Rattle.std.proofs.lemmas.Option.{slice_get-get_or}
use Rattle.std.specs.List.{list_all, list_any, position_from}
use Rattle.std.specs.BTreeMap.{BTreeMap, get}
use Rattle.std.specs.Cmp.{both_ways}
use Rattle.std.proofs.lemmas.Bool.{and_parts, eqb-true, eq-eqb, le-leb, lt-leb, leb-true, leb-false}
use Rattle.std.proofs.lemmas.Iterator.Adapters.{position_from-zero}
use Rattle.indexmap.specs.IndexSet.{IndexSet, contains}
use Rattle.avro_name.specs.Name.{same_name}
use Rattle.avro_schema.specs.Node.{Node, node_at}
use Rattle.avro_schema.specs.Fits.{is_some_and}
use Rattle.avro_schema.specs.WellFormed.{branch_kind}
use Rattle.avro_compare.specs.Match.{are_alike, match_within, is_match, first_match, first_match_from}
use Rattle.avro_compare.specs.inside.NamedTypes.{NamedType, named_type, aliases_of, type_matches}
use Rattle.avro_compare.specs.inside.TypeNames.{NameKey, IsNamed, FindsFirst, FindsPlaces, HoldsAliases, key_cmp, has_alias, holds, is_own, is_text, least, listed, passes, place_in}
use Rattle.avro_compare.proofs.NumberedTexts.{same_text, same_alias}
use Rattle.avro_compare.proofs.public.Lists.{next_in}

-- ---- Two types match where their kinds are the same and they are named alike

apart : true ≡ false → ⊥
apart e = cc

not_equal : (a b : ℕ) → (a ≡ b → ⊥) → (a == b) ≡ false
not_equal a b other = by (a == b) refl
  where
    by : (c : Bool) → (a == b) ≡ c → (a == b) ≡ false
    by true e = absurd (other (eqb-true a b e))
    by false e = e

sizes : (n m : ℕ) → (m + 2 == n + 2) ≡ (n == m)
sizes n m =
    both_ways (m + 2 == n + 2) (n == m)
    (λ e. eq-eqb n m (let same = eqb-true (m + 2) (n + 2) e in omega (arith, same)))
    (λ e. eq-eqb (m + 2) (n + 2) (let same = eqb-true n m e in omega (arith, same)))

and_swap : (a b : Bool) → (a && b) ≡ (b && a)
and_swap true true = refl
and_swap true false = refl
and_swap false true = refl
and_swap false false = refl

and_no : (c : Bool) → (c && false) ≡ false
and_no true = refl
and_no false = refl

abbrev matches_or : Option NamedType → Option NamedType → Bool
matches_or None u = false
matches_or (Some t) u = type_matches t u

module _ (writer reader : List Node) (steps : ℕ) where
  of_types : (w b : Node) → is_some (named_type w) ≡ true → is_some (branch_kind b) ≡ true → match_within steps writer reader w b ≡ matches_or (named_type w) (named_type b)
  of_types w (Node.union ids) is plain = absurd (apart (sym plain))
  of_types (Node.record_of a aliases fields) (Node.record_of b others gs) is plain = refl
  of_types (Node.record_of a aliases fields) (Node.fixed b others m) is plain =
      sym (ap (λ c. c && are_alike a b others) (not_equal (m + 2) 0 (λ e. omega (arith, e))))
  of_types (Node.record_of a aliases fields) b is plain = refl
  of_types (Node.enum a aliases symbols default) (Node.enum b others ts d) is plain = refl
  of_types (Node.enum a aliases symbols default) (Node.fixed b others m) is plain =
      sym (ap (λ c. c && are_alike a b others) (not_equal (m + 2) 1 (λ e. omega (arith, e))))
  of_types (Node.enum a aliases symbols default) b is plain = refl
  of_types (Node.fixed a aliases n) (Node.fixed b others m) is plain =
      and_swap (are_alike a b others) (n == m) ∙ ap (λ c. c && are_alike a b others) (sym (sizes n m))
  of_types (Node.fixed a aliases n) (Node.record_of b others gs) is plain =
      sym (ap (λ c. c && are_alike a b others) (not_equal 0 (n + 2) (λ e. omega (arith, e))))
  of_types (Node.fixed a aliases n) (Node.enum b others ts d) is plain =
      sym (ap (λ c. c && are_alike a b others) (not_equal 1 (n + 2) (λ e. omega (arith, e))))
  of_types (Node.fixed a aliases n) b is plain = refl
  of_types w b is plain = absurd (apart (sym is))

-- ---- First positions

-- the first of what passes either test is the lesser of the first of each
past : (f : ℕ → Bool) (n : ℕ) (xs : List ℕ) (j : ℕ) → position_from f n xs ≡ Some j → n ≤ j
past f n [] j e = absurd (none_is e)
  where
    none_is : {k : ℕ} → None ≡ Some k → ⊥
    none_is h = cc
past f n (x ∷ xs) j e = by (f x) refl (past f (n + 1) xs j)
  where
    by : (c : Bool) → f x ≡ c → (position_from f (n + 1) xs ≡ Some j → n + 1 ≤ j) → n ≤ j
    by true h later =
        let here : Some n ≡ Some j = sym (ap (λ c. cond c (Some n) (position_from f (n + 1) xs)) h) ∙ e in
        let same : n ≡ j = cc in omega (arith, same)
    by false h later =
        let low = later (sym (ap (λ c. cond c (Some n) (position_from f (n + 1) xs)) h) ∙ e) in omega (arith, low)

le_is : (i j : ℕ) → i ≤ j → nat_le i j ≡ true
le_is i j h = le-leb i j h

gt_is : (i j : ℕ) → j < i → nat_le i j ≡ false
gt_is i j h = lt-leb i j h

least_here : (n : ℕ) (o : Option ℕ) → ((j : ℕ) → o ≡ Some j → n ≤ j) → least (Some n) o ≡ Some n
least_here n None low = refl
least_here n (Some j) low = ap (λ c. Some (cond c n j)) (le_is n j (low j refl))

least_there : (n : ℕ) (o : Option ℕ) → ((j : ℕ) → o ≡ Some j → n + 1 ≤ j) → least o (Some n) ≡ Some n
least_there n None low = refl
least_there n (Some j) low = let more = low j refl in ap (λ c. Some (cond c j n)) (gt_is j n (omega (arith, more)))

either_first : (f g : ℕ → Bool) (n : ℕ) (xs : List ℕ) → position_from (λ b. f b || g b) n xs ≡ least (position_from f n xs) (position_from g n xs)
either_first f g n [] = refl
either_first f g n (x ∷ xs) = by (either_first f g (n + 1) xs) (f x) (g x)
  where
    by : position_from (λ b. f b || g b) (n + 1) xs ≡ least (position_from f (n + 1) xs) (position_from g (n + 1) xs) → (c d : Bool)
        → cond (c || d) (Some n) (position_from (λ b. f b || g b) (n + 1) xs) ≡ least (cond c (Some n) (position_from f (n + 1) xs)) (cond d (Some n) (position_from g (n + 1) xs))
    by rest true true = sym (ap (λ c. Some (cond c n n)) (le_is n n (omega arith)))
    by rest true false = sym (least_here n (position_from g (n + 1) xs) (λ j e. let low = past g (n + 1) xs j e in omega (arith, low)))
    by rest false true = sym (least_there n (position_from f (n + 1) xs) (λ j e. past f (n + 1) xs j e))
    by rest false false = rest

least_assoc : (a b c : Option ℕ) → least (least a b) c ≡ least a (least b c)
least_assoc None b c = refl
least_assoc (Some i) None c = refl
least_assoc (Some i) (Some j) None = refl
least_assoc (Some i) (Some j) (Some k) = ap (λ (m : ℕ). Some m) (mins i j k)
  where
    mins : (i j k : ℕ) → cond (nat_le (cond (nat_le i j) i j) k) (cond (nat_le i j) i j) k ≡ cond (nat_le i (cond (nat_le j k) j k)) i (cond (nat_le j k) j k)
    mins i j k = by (nat_le i j) (nat_le j k) refl refl
      where
        by : (c d : Bool) → nat_le i j ≡ c → nat_le j k ≡ d → cond (nat_le (cond c i j) k) (cond c i j) k ≡ cond (nat_le i (cond d j k)) i (cond d j k)
        by true true e h = let low = leb-true i j e in let more = leb-true j k h in ap (λ t. cond t i k) (le-leb i k (omega (arith, low, more))) ∙ sym (ap (λ t. cond t i j) e)
        by true false e h = refl
        by false true e h = ap (λ t. cond t j k) h ∙ sym (ap (λ t. cond t i j) e)
        by false false e h = let high = leb-false i j e in let more = leb-false j k h in ap (λ t. cond t j k) h ∙ sym (ap (λ t. cond t i k) (lt-leb i k (omega (arith, high, more))))

-- ---- The first of some nodes that match

module _ (writer reader : List Node) (w : Node) where
  abbrev test : ℕ → Bool
  test b = is_match writer reader w (node_at reader b)

  pub as_position : (n : ℕ) (ids : List ℕ) → first_match_from n writer reader w ids ≡ position_from test n ids
  as_position n [] = refl
  as_position n (b ∷ bs) =
      let next : suc n ≡ n + 1 = omega arith in
      ap (λ o. cond (test b) (Some n) o) (ap (λ (k : ℕ). first_match_from k writer reader w bs) next ∙ as_position (n + 1) bs)

  abbrev any_of : List ℕ → ℕ → Bool
  any_of ks b = list_any (λ k. b == k && test k) ks

  none_first : (n : ℕ) (ids : List ℕ) → position_from (λ b. false) n ids ≡ None
  none_first n [] = refl
  none_first n (b ∷ bs) = none_first (n + 1) bs

  least_none : (o : Option ℕ) → least o None ≡ o
  least_none None = refl
  least_none (Some i) = refl

  one_first : (k : ℕ) (ids : List ℕ) (c : Bool) → cond c (position_from (λ b. b == k) 0 ids) None ≡ position_from (λ b. b == k && c) 0 ids
  one_first k ids true = same_positions (λ b. b == k) (λ b. b == k && true) (λ b. sym (and_true (b == k))) 0 ids
    where
      and_true : (c : Bool) → (c && true) ≡ c
      and_true true = refl
      and_true false = refl

      same_positions : (f g : ℕ → Bool) → ((b : ℕ) → f b ≡ g b) → (n : ℕ) (ids : List ℕ) → position_from f n ids ≡ position_from g n ids
      same_positions f g same n [] = refl
      same_positions f g same n (b ∷ bs) = ap (λ c. cond c (Some n) (position_from f (n + 1) bs)) (same b) ∙ ap (cond (g b) (Some n)) (same_positions f g same (n + 1) bs)
  one_first k ids false = sym (no_positions (λ b. b == k) 0 ids)
    where
      no_positions : (f : ℕ → Bool) (n : ℕ) (ids : List ℕ) → position_from (λ b. f b && false) n ids ≡ None
      no_positions f n [] = refl
      no_positions f n (b ∷ bs) = ap (λ c. cond c (Some n) (position_from (λ b. f b && false) (n + 1) bs)) (and_no (f b)) ∙ no_positions f (n + 1) bs

  listed_is : (places : BTreeMap ℕ ℕ) (ids : List ℕ) → FindsPlaces ids places → (first : Option ℕ) (ks : List ℕ)
      → listed writer reader w places first ks ≡ least first (position_from (any_of ks) 0 ids)
  listed_is places ids finds first [] = sym (ap (least first) (none_first 0 ids) ∙ least_none first)
  listed_is places ids finds first (k ∷ ks) =
      let place : place_in writer reader w places k ≡ position_from (λ b. b == k && test k) 0 ids = ap (λ o. cond (test k) o None) (finds k ∙ position_from-zero (λ b. b == k) ids) ∙ one_first k ids (test k) in
      listed_is places ids finds (least first (place_in writer reader w places k)) ks
      ∙ least_assoc first (place_in writer reader w places k) (position_from (any_of ks) 0 ids)
      ∙ ap (least first) (ap (λ o. least o (position_from (any_of ks) 0 ids)) place ∙ sym (either_first (λ b. b == k && test k) (any_of ks) 0 ids))

  any_is : (b : ℕ) (ks : List ℕ) → any_of ks b ≡ (list_any (nat_eq b) ks && test b)
  any_is b [] = refl
  any_is b (k ∷ ks) = ap (λ c. (b == k && test k) || c) (any_is b ks) ∙ by (b == k) refl
    where
      shared : (t more : Bool) → (t || (more && t)) ≡ t
      shared true more = refl
      shared false true = refl
      shared false false = refl

      by : (c : Bool) → (b == k) ≡ c → ((c && test k) || (list_any (nat_eq b) ks && test b)) ≡ ((c || list_any (nat_eq b) ks) && test b)
      by true e = ap (λ (j : ℕ). test j || (list_any (nat_eq b) ks && test b)) (sym (eqb-true b k e)) ∙ shared (test b) (list_any (nat_eq b) ks)
      by false e = refl

  -- two tests that agree on plain branches have the same first position
  plain_positions : (f g : ℕ → Bool) → ((b : ℕ) → is_some (branch_kind (node_at reader b)) ≡ true → f b ≡ g b) → (n : ℕ) (ids : List ℕ)
      → list_all (λ id. is_some (branch_kind (node_at reader id))) ids ≡ true → position_from f n ids ≡ position_from g n ids
  plain_positions f g same n [] plain = refl
  plain_positions f g same n (b ∷ bs) plain =
      let both = and_parts (is_some (branch_kind (node_at reader b))) (list_all (λ id. is_some (branch_kind (node_at reader id))) bs) plain in
      ap (λ c. cond c (Some n) (position_from f (n + 1) bs)) (same b both.0) ∙ ap (cond (g b) (Some n)) (plain_positions f g same (n + 1) bs both.1)

module _ {S : Type 0} (writer reader : List Node) (w : Node) (texts : List (List ℕ)) (full : NameKey) (named : IsNamed texts (named_type w) full) (sets : BTreeMap NameKey (IndexSet ℕ S)) (held : HoldsAliases texts reader sets) where
  abbrev own : ℕ → Bool
  own b = passes reader (is_own texts named.type.kind full.0) b

  abbrev aliased : ℕ → Bool
  aliased b = list_any (same_name named.type.name) (aliases_of (named_type (node_at reader b)))

  holds_is : (b : ℕ) → holds sets full b ≡ aliased b
  holds_is b = held full b ∙ same_alias texts full named.type.name named.simple named.space (aliases_of (named_type (node_at reader b)))

  split : (kind same alias : Bool) → (kind && (same || alias)) ≡ ((kind && same) || (alias && (kind && (same || alias))))
  split false true true = refl
  split false true false = refl
  split false false true = refl
  split false false false = refl
  split true true alias = refl
  split true false true = refl
  split true false false = refl

  type_split : (u : Option NamedType) → type_matches named.type u
      ≡ (is_some_and (is_own texts named.type.kind full.0) u || (list_any (same_name named.type.name) (aliases_of u) && type_matches named.type u))
  type_split None = refl
  type_split (Some u) =
      split (u.kind == named.type.kind) (bytes_eq named.type.name.simple u.name.simple) (list_any (same_name named.type.name) u.aliases)
      ∙ ap (λ c. (u.kind == named.type.kind && c) || (list_any (same_name named.type.name) u.aliases && type_matches named.type (Some u)))
      (sym (same_text texts full.0 named.type.name.simple u.name.simple named.simple))

  test_is : (b : ℕ) → is_some (branch_kind (node_at reader b)) ≡ true → is_match writer reader w (node_at reader b) ≡ type_matches named.type (named_type (node_at reader b))
  test_is b plain =
      of_types writer reader (length writer) w (node_at reader b) (ap is_some named.is) plain ∙ ap (λ o. matches_or o (named_type (node_at reader b))) named.is

  test_split : (b : ℕ) → is_some (branch_kind (node_at reader b)) ≡ true
      → is_match writer reader w (node_at reader b) ≡ (own b || (holds sets full b && is_match writer reader w (node_at reader b)))
  test_split b plain =
      test_is b plain ∙ type_split (named_type (node_at reader b))
      ∙ ap (λ c. own b || (c && type_matches named.type (named_type (node_at reader b)))) (sym (holds_is b))
      ∙ ap (λ c. own b || (holds sets full b && c)) (sym (test_is b plain))

  module _ (ids : List ℕ) (plain : list_all (λ id. is_some (branch_kind (node_at reader id))) ids ≡ true) (firsts : BTreeMap NameKey ℕ) (finds : FindsFirst texts reader ids firsts) where
    first_own : get key_cmp firsts (named.type.kind, full.0) ≡ position_from own 0 ids
    first_own = finds (named.type.kind, full.0) ∙ position_from-zero own ids

    -- no type has the fullname as an alias
    pub first_if_none : get key_cmp sets full ≡ None → get key_cmp firsts (named.type.kind, full.0) ≡ first_match writer reader w ids
    first_if_none none =
        first_own ∙ sym (as_position writer reader w 0 ids ∙ plain_positions writer reader w (λ b. is_match writer reader w (node_at reader b)) own one 0 ids plain)
      where
        or_no : (c : Bool) → (c || false) ≡ c
        or_no true = refl
        or_no false = refl

        one : (b : ℕ) → is_some (branch_kind (node_at reader b)) ≡ true → is_match writer reader w (node_at reader b) ≡ own b
        one b is =
            test_split b is
            ∙ ap (λ (o : Option (IndexSet ℕ S)). own b || (is_some_and (λ (s : IndexSet ℕ S). contains nat_eq s b) o && is_match writer reader w (node_at reader b))) none
            ∙ or_no (own b)

    -- some types have it
    pub first_if_some : (set : IndexSet ℕ S) → get key_cmp sets full ≡ Some set → (places : BTreeMap ℕ ℕ) → FindsPlaces ids places
        → listed writer reader w places (get key_cmp firsts (named.type.kind, full.0)) set.keys ≡ first_match writer reader w ids
    first_if_some set some places found =
        listed_is writer reader w places ids found (get key_cmp firsts (named.type.kind, full.0)) set.keys
        ∙ ap (λ o. least o (position_from (any_of writer reader w set.keys) 0 ids)) first_own
        ∙ sym (as_position writer reader w 0 ids ∙ plain_positions writer reader w (λ b. is_match writer reader w (node_at reader b)) (λ b. own b || any_of writer reader w set.keys b) one 0 ids plain ∙ either_first own (any_of writer reader w set.keys) 0 ids)
      where
        one : (b : ℕ) → is_some (branch_kind (node_at reader b)) ≡ true → is_match writer reader w (node_at reader b) ≡ (own b || any_of writer reader w set.keys b)
        one b is =
            test_split b is
            ∙ ap (λ (o : Option (IndexSet ℕ S)). own b || (is_some_and (λ (s : IndexSet ℕ S). contains nat_eq s b) o && is_match writer reader w (node_at reader b))) some
            ∙ ap (λ c. own b || c) (sym (any_is writer reader w b set.keys))

pub no_place : (matched : Bool) (place : Option ℕ) → place ≡ None → None ≡ cond matched place None
no_place true place none = sym none
no_place false place none = refl

-- one node more is looked at
pub listed_next : (writer reader : List Node) (w : Node) (places : BTreeMap ℕ ℕ) (ks : List ℕ) (i : ℕ) (best place next : Option ℕ) → i < length ks
    → ((id : ℕ) → slice_get ks i ≡ Some id → place ≡ place_in writer reader w places id) → next ≡ least best place
    → listed writer reader w places best (drop i ks) ≡ listed writer reader w places next (drop (i + 1) ks)
listed_next writer reader w places ks i best place next low is put =
    let at = slice_get-get_or ks i 0 low in
    ap (listed writer reader w places best) (next_in ks i 0 low)
    ∙ ap (λ o. listed writer reader w places o (drop (i + 1) ks)) (sym (put ∙ ap (least best) (is (slice_index_or ks i 0) at)))
