-- The ids of names and the numbers of namespaces, as one is added.
use Rattle.avro_schema_json.proofs.Words.{◌≡◌, ℕ, zero, suc, ◌+◌, ◌<◌, Bool, true, false, ◌&&◌, ◌==◌, cond, List, length, [], ◌∷◌, ◌++◌, map-append, slice_get, slice_index_or, Option, Some, None, refl, sym, ap, subst, ◌∙◌, arith, bytes_eq, string_bytes, Result, Ok, Err, OnOk, OnErr, IfOk, if◌then◌else◌, cond-true, cond-false, false_from_ne_true, bytes_eq-Decides, both_ways, bytes_eq-sym, Name, same_name, name_of, has_dot, same_name-is, Known, id_of, defining, Key, number_of, name_at, known_in, AreWithin, AreNumbered, lookup, list_any, same_Some, and_comm}
use Rattle.std.proofs.Common.{position, eqb-true, eq-eqb}
use Rattle.std.proofs.lemmas.Iterator.Adapters.{position_from-zero}
use Rattle.std.specs.List.{position_from, IsDistinct, AllByRecursion}
use Rattle.indexmap.specs.IndexSet.{IndexSet, insert_key}
use Rattle.indexmap.proofs.CallerLemmas.{insert_entry-new}
use Rattle.indexmap.specs.IndexMap.{IndexMap, insert_entry}
use Rattle.avro_schema_json.proofs.EachSeen.{exact-texts}
use Rattle.avro_schema_json.specs.inside.KnownSeen.{known_of, IsNumbered}
use Rattle.avro_schema_json.specs.declared.declarations.name_table.NameTable.{NameTable}
use Rattle.avro_schema_json.specs.declared.declarations.name_table.Space.{Space}

later : (name : Name) (known : Known) (first : Name × ℕ) → id_of name (first ∷ known) ≡ None → id_of name known ≡ None
later name known first absent = grind arith

-- a name is found by its namespace's number and its simple part
pub found_in : (names : NameTable) (space : Space) (name : Name) (simple : List ℕ) (id : Option ℕ) (known : Known) → IsNumbered names space
    → space.namespace ≡ name.namespace → simple ≡ name.simple → known_of names ≡ known
    → ((namespace : List ℕ) → number_of names.numbers namespace ≡ Some space.number
    → id ≡ id_of (record { namespace = namespace; simple = simple }) (known_of names)) → id ≡ id_of name known
found_in names space name simple id known numbered at spelled same answer = grind arith

-- a word without a dot is in the enclosing namespace
pub named_alone : (word enclosing : List ℕ) (name : Name) → has_dot word ≡ false → name_of word enclosing ≡ Some name → enclosing ≡ name.namespace
named_alone word enclosing name none is = grind (arith, cond-false, cond-true, same_Some)

-- ---- places of texts that differ

apart : {A : Type 0} {x : A} → None ≡ Some x → ⊥
apart e = cc

found_from : (t : List ℕ) (n : ℕ) (ts : List (List ℕ)) (i : ℕ) → position_from (bytes_eq t) n ts ≡ Some i → (j : ℕ) × (i ≡ n + j) × (slice_get ts j ≡ Some t)
found_from t n [] i e = absurd (apart e)
found_from t n (u ∷ ts) i e = by (bytes_eq t u) refl (λ r. found_from t (n + 1) ts i r)
  where
    by : (b : Bool) → bytes_eq t u ≡ b → (position_from (bytes_eq t) (n + 1) ts ≡ Some i → (j : ℕ) × (i ≡ (n + 1) + j) × (slice_get ts j ≡ Some t))
        → (j : ℕ) × (i ≡ n + j) × (slice_get (u ∷ ts) j ≡ Some t)
    by true h rest =
        let here : Some n ≡ Some i = sym (ap (λ c. cond c (Some n) (position_from (bytes_eq t) (n + 1) ts)) h) ∙ e in
        let same : n ≡ i = cc in (0, omega (arith, same), ap (λ (x : List ℕ). Some x) (sym (exact-texts t u h)))
    by false h rest =
        let found = rest (sym (ap (λ c. cond c (Some n) (position_from (bytes_eq t) (n + 1) ts)) h) ∙ e) in
        let at = found.1 in (suc found.0, omega (arith, at), found.2)

differs_at : (k t : List ℕ) (ts : List (List ℕ)) (j : ℕ) → AllByRecursion (λ u. bytes_eq k u ≡ false) ts → slice_get ts j ≡ Some t → bytes_eq k t ≡ false
differs_at k t [] j h e = absurd (apart e)
differs_at k t (u ∷ ts) zero h e = let same : u ≡ t = cc in ap (bytes_eq k) (sym same) ∙ h.0
differs_at k t (u ∷ ts) (suc j) h e = differs_at k t ts j h.1 e

place_from : (t : List ℕ) (n : ℕ) (ts : List (List ℕ)) (j : ℕ) → IsDistinct bytes_eq ts → slice_get ts j ≡ Some t → position_from (bytes_eq t) n ts ≡ Some (n + j)
unfolding IsDistinct
place_from t n [] j d e = absurd (apart e)
place_from t n (u ∷ ts) zero d e =
    let same : u ≡ t = cc in
    let here : n ≡ n + 0 = omega arith in
    ap (λ c. cond c (Some n) (position_from (bytes_eq t) (n + 1) ts)) ((bytes_eq-Decides t u).1 (sym same)) ∙ ap (λ (i : ℕ). Some i) here
place_from t n (u ∷ ts) (suc j) d e =
    let other : bytes_eq t u ≡ false = bytes_eq-sym t u ∙ differs_at u t ts j d.0 e in
    let there : (n + 1) + j ≡ n + suc j = omega arith in
    ap (λ c. cond c (Some n) (position_from (bytes_eq t) (n + 1) ts)) other ∙ place_from t (n + 1) ts j d.1 e ∙ ap (λ (i : ℕ). Some i) there

-- a number is the place of its text
pub there : (t : List ℕ) (ts : List (List ℕ)) (n : ℕ) → position (bytes_eq t) ts ≡ Some n → slice_get ts n ≡ Some t
there t ts n e =
    let found = found_from t 0 ts n (sym (position_from-zero (bytes_eq t) ts) ∙ e) in
    let same : n ≡ found.0 = found.1 ∙ (omega arith) in
    ap (slice_get ts) same ∙ found.2

pub placed : (t : List ℕ) (ts : List (List ℕ)) (n : ℕ) → IsDistinct bytes_eq ts → slice_get ts n ≡ Some t → position (bytes_eq t) ts ≡ Some n
placed t ts n d e =
    let start : 0 + n ≡ n = omega arith in
    position_from-zero (bytes_eq t) ts ∙ place_from t 0 ts n d e ∙ ap (λ (k : ℕ). Some k) start

at_place : (ts : List (List ℕ)) (n : ℕ) → n < length ts → slice_get ts n ≡ Some (slice_index_or ts n [])
at_place [] n h = absurd (omega (arith, h))
at_place (t ∷ ts) zero h = refl
at_place (t ∷ ts) (suc n) h = at_place ts n (omega (arith, h))

is_at_place : (ts : List (List ℕ)) (n : ℕ) (t : List ℕ) → slice_get ts n ≡ Some t → slice_index_or ts n [] ≡ t
is_at_place [] n t e = absurd (apart e)
is_at_place (u ∷ ts) zero t e = cc
is_at_place (u ∷ ts) (suc n) t e = is_at_place ts n t e

-- what is at a place stays there as more texts follow
stays : (ts more : List (List ℕ)) (n : ℕ) (t : List ℕ) → slice_get ts n ≡ Some t → slice_get (ts ++ more) n ≡ Some t
stays [] more n t e = absurd (apart e)
stays (u ∷ ts) more zero t e = e
stays (u ∷ ts) more (suc n) t e = stays ts more n t e

-- ---- keys

module _ (spaces : List (List ℕ)) (distinct : IsDistinct bytes_eq spaces) where
  -- numbers are equal where the namespaces are
  one_number : (namespace : List ℕ) (n m : ℕ) → position (bytes_eq namespace) spaces ≡ Some n → m < length spaces → (n == m) ≡ bytes_eq namespace (slice_index_or spaces m [])
  one_number namespace n m h low = both_ways (n == m) (bytes_eq namespace (slice_index_or spaces m []))
      (λ e. (bytes_eq-Decides namespace (slice_index_or spaces m [])).1
      (sym (is_at_place spaces n namespace (there namespace spaces n h)) ∙ ap (λ (k : ℕ). slice_index_or spaces k []) (eqb-true n m e)))
      (λ e.
      let same : slice_get spaces m ≡ Some namespace = at_place spaces m low ∙ ap (λ (t : List ℕ). Some t) (sym (exact-texts namespace (slice_index_or spaces m []) e)) in
      let here : Some n ≡ Some m = sym h ∙ placed namespace spaces m distinct same in
      eq-eqb n m cc)

  -- the key that is looked for is a name's just where the name is the one that is looked for
  one_name : (namespace simple : List ℕ) (n : ℕ) (key : Key) → position (bytes_eq namespace) spaces ≡ Some n → key.0 < length spaces
      → (n == key.0 && bytes_eq simple (string_bytes key.1)) ≡ same_name (record { namespace = namespace; simple = simple }) (name_at spaces key)
  one_name namespace simple n key h low =
      ap (λ b. b && bytes_eq simple (string_bytes key.1)) (one_number namespace n key.0 h low)
      ∙ and_comm (bytes_eq namespace (slice_index_or spaces key.0 [])) (bytes_eq simple (string_bytes key.1))

  -- a key is found as its name is
  pub found_key : (namespace simple : List ℕ) (n : ℕ) (entries : List (Key × ℕ)) → position (bytes_eq namespace) spaces ≡ Some n → AreWithin (length spaces) entries
      → lookup (λ (key : Key). n == key.0 && bytes_eq simple (string_bytes key.1)) entries ≡ id_of (record { namespace = namespace; simple = simple }) (known_in spaces entries)
  found_key namespace simple n [] h low = refl
  found_key namespace simple n (e ∷ es) h low =
      ap (λ b. cond b (Some e.1) (lookup (λ (key : Key). n == key.0 && bytes_eq simple (string_bytes key.1)) es)) (one_name namespace simple n e.0 h low.0)
      ∙ ap (λ o. cond (same_name (record { namespace = namespace; simple = simple }) (name_at spaces e.0)) (Some e.1) o) (found_key namespace simple n es h low.1)

  -- a namespace without a number has no names
  pub no_names : (name : Name) (entries : List (Key × ℕ)) → position (bytes_eq name.namespace) spaces ≡ None → AreWithin (length spaces) entries → id_of name (known_in spaces entries) ≡ None
  no_names name [] h low = refl
  no_names name (e ∷ es) h low =
      let other : same_name name (name_at spaces e.0) ≡ false = false_from_ne_true (same_name name (name_at spaces e.0)) (λ same.
      let at : slice_get spaces e.0.0 ≡ Some name.namespace = at_place spaces e.0.0 low.0 ∙ ap (λ (n : Name). Some n.namespace) (sym (same_name-is name (name_at spaces e.0) same)) in
      apart (sym h ∙ placed name.namespace spaces e.0.0 distinct at)) in
      ap (λ b. cond b (Some e.1) (id_of name (known_in spaces es))) other ∙ no_names name es h low.1

-- ---- one more namespace

-- more namespaces follow
pub record Follows (before after : List (List ℕ)) : Type 0 where
  pub more : List (List ℕ)
  pub is : after ≡ before ++ more

pub same_follows : (before after : List (List ℕ)) → after ≡ before → Follows before after
same_follows before after e = record { more = []; is = e ∙ none before }
  where
    none : (ts : List (List ℕ)) → ts ≡ ts ++ []
    none [] = refl
    none (t ∷ ts) = ap (λ (us : List (List ℕ)). t ∷ us) (none ts)

pub one_follows : (before after : List (List ℕ)) (t : List ℕ) → after ≡ insert_key bytes_eq before t → Follows before after
one_follows before after t e = by (list_any (bytes_eq t) before) refl
  where
    by : (b : Bool) → list_any (bytes_eq t) before ≡ b → Follows before after
    by true h = same_follows before after (e ∙ ap (λ c. if c then before else before ++ t ∷ []) h)
    by false h = record { more = t ∷ []; is = e ∙ ap (λ c. if c then before else before ++ t ∷ []) h }

pub insertion_follows : {A E : Type 0} (r : Result A E) (before after : List (List ℕ)) (t : List ℕ) → IfOk r (λ _. after ≡ insert_key bytes_eq before t) → OnErr r (after ≡ before) → Follows before after
insertion_follows (Ok x) before after t put unchanged = one_follows before after t put
insertion_follows (Err e) before after t put unchanged = same_follows before after unchanged

module _ (before after : List (List ℕ)) (f : Follows before after) where
  pub known_kept : (entries : List (Key × ℕ)) → AreWithin (length before) entries → known_in after entries ≡ known_in before entries
  known_kept [] h = refl
  known_kept (e ∷ es) h =
      let same : slice_index_or after e.0.0 [] ≡ slice_index_or before e.0.0 [] =
      is_at_place after e.0.0 (slice_index_or before e.0.0 []) (ap (λ (ts : List (List ℕ)). slice_get ts e.0.0) f.is ∙ stays before f.more e.0.0 _ (at_place before e.0.0 h.0)) in
      (λ j. (record { namespace = same j; simple = string_bytes e.0.1 }, e.1) ∷ known_kept es h.1 j)

-- ---- one more name

pub within_more : (count : ℕ) (entries : List (Key × ℕ)) (key : Key) (id : ℕ) → key.0 < count → AreWithin count entries → AreWithin count (entries ++ (key, id) ∷ [])
within_more count [] key id low h = (low, tt)
within_more count (e ∷ es) key id low h = (h.0, within_more count es key id low h.1)

pub known_more : (spaces : List (List ℕ)) (entries : List (Key × ℕ)) (key : Key) (id : ℕ) (name : Name) → slice_get spaces key.0 ≡ Some name.namespace → string_bytes key.1 ≡ name.simple
    → known_in spaces (entries ++ (key, id) ∷ []) ≡ defining name id (known_in spaces entries)
known_more spaces entries key id name at spelled =
    map-append (λ (e : Key × ℕ). (name_at spaces e.0, e.1)) entries ((key, id) ∷ [])
    ∙ (λ j. known_in spaces entries ++ (record { namespace = is_at_place spaces key.0 name.namespace at j; simple = spelled j }, id) ∷ [])

-- the place of a text is one of them
pub low_place : (ts : List (List ℕ)) (n : ℕ) (t : List ℕ) → slice_get ts n ≡ Some t → n < length ts
low_place [] n t e = absurd (apart e)
low_place (u ∷ ts) zero t e = omega arith
low_place (u ∷ ts) (suc n) t e = let low = low_place ts n t e in omega (arith, low)

-- the test of a key for equality
abbrev pub same_key : Key → Key → Bool
same_key a b = a.0 == b.0 && bytes_eq (string_bytes a.1) (string_bytes b.1)

module _ {S : Type 0} (numbers : IndexSet (List ℕ) S) (ids later : IndexMap Key ℕ S) (are : AreNumbered numbers ids) where
  -- a name that is not known has a new key, which goes last
  pub goes_last : (name : Name) (key : Key) (id : ℕ) → number_of numbers name.namespace ≡ Some key.0 → string_bytes key.1 ≡ name.simple
      → id_of name (known_in numbers.keys ids.entries) ≡ None → later.entries ≡ insert_entry same_key ids.entries key id → later.entries ≡ ids.entries ++ (key, id) ∷ []
  goes_last name key id numbered spelled new put =
      put ∙ insert_entry-new same_key ids key id
      (found_key numbers.keys are.distinct name.namespace (string_bytes key.1) key.0 ids.entries numbered are.within
      ∙ ap (λ t. id_of (record { namespace = name.namespace; simple = t }) (known_in numbers.keys ids.entries)) spelled ∙ new)

  pub are_more : (name : Name) (key : Key) (id : ℕ) → number_of numbers name.namespace ≡ Some key.0 → later.entries ≡ ids.entries ++ (key, id) ∷ [] → AreNumbered numbers later
  are_more name key id numbered is = record {
    distinct = are.distinct;
    within = subst (AreWithin (length numbers.keys)) (sym is)
        (within_more (length numbers.keys) ids.entries key id (low_place numbers.keys key.0 name.namespace (there name.namespace numbers.keys key.0 numbered)) are.within);
  }

  pub are_same : later.entries ≡ ids.entries → AreNumbered numbers later
  are_same is = record { distinct = are.distinct; within = subst (AreWithin (length numbers.keys)) (sym is) are.within }

  pub are_after : {A E : Type 0} (r : Result A E) (name : Name) (key : Key) (id : ℕ) → number_of numbers name.namespace ≡ Some key.0 → string_bytes key.1 ≡ name.simple
      → id_of name (known_in numbers.keys ids.entries) ≡ None → OnOk r (later.entries ≡ insert_entry same_key ids.entries key id) → OnErr r (later.entries ≡ ids.entries) → AreNumbered numbers later
  are_after (Ok old) name key id numbered spelled new put unchanged = are_more name key id numbered (goes_last name key id numbered spelled new put)
  are_after (Err e) name key id numbered spelled new put unchanged = are_same unchanged
