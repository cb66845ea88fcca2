-- Which reader's field a writer's field is the source of: no two, since names and aliases are distinct.
use Rattle.std.proofs.Common.{◌≡◌, ℕ, ◌<◌, ◌≤◌, arith, true, false, not, List, [], ◌∷◌, ◌++◌, Option, Some, None, length, get_or, refl, ap, ◌∙◌, subst, ⊎_elim}
use Rattle.std.specs.Prelude.{bytes_eq, ◌==◌}
use Rattle.std.specs.List.{list_any, flat_map}
use Rattle.std.proofs.lemmas.Bool.{and_parts, or_cases, or_left, or_right, both_ways, not-true, eqb-true, eq-eqb, cond-true, cond-false, false_from_ne_true}
use Rattle.std.proofs.lemmas.Slice.Eq.{bytes_eq-Decides}
use Rattle.std.proofs.lemmas.List.Folds.{list_any-append}
use Rattle.std.proofs.lemmas.List.Quantifiers.{position-Some}
use Rattle.avro_schema.specs.Node.{FieldNode}
use Rattle.avro_schema.specs.Distinct.{are_distinct}
use Rattle.avro_schema.specs.WellFormed.{field_names}
use Rattle.avro_compare.specs.Fields.{IsField, here, later}
use Rattle.avro_compare.specs.Source.{field_index, or_else, first_index, source_of, is_index, reader_field}

-- the index is that of a field, whose name is one of the names
abbrev pub IsNamed : List FieldNode → FieldNode → List (List ℕ) → ℕ → Type 0
IsNamed ws d names k = (k < length ws) × (list_any (bytes_eq (get_or ws k d).name) names ≡ true)

named_later : (ws : List FieldNode) (d : FieldNode) (name : List ℕ) (names : List (List ℕ)) (k : ℕ) → IsNamed ws d names k → IsNamed ws d (name ∷ names) k
named_later ws d name names k h = (h.0, or_right (bytes_eq (get_or ws k d).name name) (list_any (bytes_eq (get_or ws k d).name) names) h.1)

named_here : (ws : List FieldNode) (d : FieldNode) (name : List ℕ) (names : List (List ℕ)) (k : ℕ) → field_index ws name ≡ Some k → IsNamed ws d (name ∷ names) k
named_here ws d name names k e =
    let p = position-Some (λ f. bytes_eq f.name name) ws k d e in
    (p.0, or_left (bytes_eq (get_or ws k d).name name) (list_any (bytes_eq (get_or ws k d).name) names) p.1)

named_either : (ws : List FieldNode) (d : FieldNode) (name : List ℕ) (names : List (List ℕ)) (k : ℕ) (first rest : Option ℕ)
    → field_index ws name ≡ first → (rest ≡ Some k → IsNamed ws d names k) → or_else first rest ≡ Some k → IsNamed ws d (name ∷ names) k
named_either ws d name names k None rest is more e = named_later ws d name names k (more e)
named_either ws d name names k (Some j) rest is more e = named_here ws d name names k (is ∙ e)

-- the first index among some names is that of a field with one of them
pub first_index-named : (ws : List FieldNode) (d : FieldNode) (names : List (List ℕ)) (k : ℕ) → first_index ws names ≡ Some k → IsNamed ws d names k
first_index-named ws d [] k e = absurd (cc)
first_index-named ws d (name ∷ names) k e =
    named_either ws d name names k (field_index ws name) (first_index ws names) refl (first_index-named ws d names k) e

-- of two lists together distinct the second is distinct
pub are_distinct-back : (xs ys : List (List ℕ)) → are_distinct bytes_eq (xs ++ ys) ≡ true → are_distinct bytes_eq ys ≡ true
are_distinct-back [] ys h = h
are_distinct-back (x ∷ xs) ys h = are_distinct-back xs ys (and_parts (not (list_any (bytes_eq x) (xs ++ ys))) (are_distinct bytes_eq (xs ++ ys)) h).1

-- and no element is in both
pub are_distinct-apart : (n : List ℕ) (xs ys : List (List ℕ)) → are_distinct bytes_eq (xs ++ ys) ≡ true
    → list_any (bytes_eq n) xs ≡ true → list_any (bytes_eq n) ys ≡ true → ⊥
are_distinct-apart n [] ys h a b = both_ways false refl a
are_distinct-apart n (x ∷ xs) ys h a b =
    let parts = and_parts (not (list_any (bytes_eq x) (xs ++ ys))) (are_distinct bytes_eq (xs ++ ys)) h in
    ⊎_elim
    (λ e. apart_here e parts.0)
    (λ e. are_distinct-apart n xs ys parts.1 e b)
    (or_cases (bytes_eq n x) (list_any (bytes_eq n) xs) a)
  where
    apart_here : bytes_eq n x ≡ true → not (list_any (bytes_eq x) (xs ++ ys)) ≡ true → ⊥
    apart_here e none =
        let same : n ≡ x = (bytes_eq-Decides n x).0 e in
        let found : list_any (bytes_eq x) ys ≡ true = subst (λ (m : List ℕ). list_any (bytes_eq m) ys ≡ true) same b in
        both_ways (list_any (bytes_eq x) (xs ++ ys)) (not-true (list_any (bytes_eq x) (xs ++ ys)) none)
        (list_any-append (bytes_eq x) xs ys ∙ or_right (list_any (bytes_eq x) xs) (list_any (bytes_eq x) ys) found)

-- a field's name is one of all names
pub field_name-among : (n : List ℕ) (g : FieldNode) (fs : List FieldNode) → IsField g fs
    → list_any (bytes_eq n) (field_names g) ≡ true → list_any (bytes_eq n) (flat_map field_names fs) ≡ true
field_name-among n g fs (here {fs = gs}) h =
    list_any-append (bytes_eq n) (field_names g) (flat_map field_names gs) ∙ or_left (list_any (bytes_eq n) (field_names g)) (list_any (bytes_eq n) (flat_map field_names gs)) h
field_name-among n g fs (later {g = f} {fs = gs} is) h =
    list_any-append (bytes_eq n) (field_names f) (flat_map field_names gs) ∙ or_right (list_any (bytes_eq n) (field_names f)) (list_any (bytes_eq n) (flat_map field_names gs)) (field_name-among n g gs is h)

is_index-equal : (o : Option ℕ) (k : ℕ) → is_index o k ≡ true → o ≡ Some k
is_index-equal None k h = absurd (both_ways false refl h)
is_index-equal (Some j) k h = ap Some (eqb-true j k h)

pub is_index-same : (o : Option ℕ) (k : ℕ) → o ≡ Some k → is_index o k ≡ true
is_index-same None k e = absurd (cc)
is_index-same (Some j) k e = eq-eqb j k (cc)

-- the reader's field with that source, found from any field that has it
abbrev pub TakesSource : List FieldNode → List FieldNode → ℕ → FieldNode → Type 0
TakesSource ws rs k g = (f : FieldNode) × (reader_field ws rs k ≡ Some f) × (f.node ≡ g.node)

read_first : (ws fs : List FieldNode) (k : ℕ) (g : FieldNode) → source_of ws g ≡ Some k → TakesSource ws (g ∷ fs) k g
read_first ws fs k g e = (g, cond-true (is_index (source_of ws g) k) (Some g) (reader_field ws fs k) (is_index-same (source_of ws g) k e), refl)

read_later : (ws fs : List FieldNode) (k : ℕ) (f g : FieldNode) → (is_index (source_of ws f) k ≡ true → ⊥) → TakesSource ws fs k g → TakesSource ws (f ∷ fs) k g
read_later ws fs k f g other more =
    (more.0, cond-false (is_index (source_of ws f) k) (Some f) (reader_field ws fs k) (false_from_ne_true (is_index (source_of ws f) k) other) ∙ more.1, more.2)

-- two fields that stand apart in a record have no source in common
pub two_readers : (ws fs : List FieldNode) (k : ℕ) (f g : FieldNode) → IsField g fs → are_distinct bytes_eq (field_names f ++ flat_map field_names fs) ≡ true
    → source_of ws g ≡ Some k → is_index (source_of ws f) k ≡ true → ⊥
two_readers ws fs k f g is distinct e same =
    let a = first_index-named ws f (field_names f) k (is_index-equal (source_of ws f) k same) in
    let b = first_index-named ws f (field_names g) k e in
    are_distinct-apart (get_or ws k f).name (field_names f) (flat_map field_names fs) distinct a.1
    (field_name-among (get_or ws k f).name g fs is b.1)

-- the reader's field that an index is the source of is that of any field that has the source
pub reader_field-source : (ws rs : List FieldNode) (k : ℕ) (g : FieldNode) → IsField g rs → are_distinct bytes_eq (flat_map field_names rs) ≡ true
    → source_of ws g ≡ Some k → TakesSource ws rs k g
reader_field-source ws rs k g (here {fs = fs}) distinct e = read_first ws fs k g e
reader_field-source ws rs k g (later {g = f} {fs = fs} is) distinct e =
    read_later ws fs k f g (two_readers ws fs k f g is distinct e)
    (reader_field-source ws fs k g is (are_distinct-back (field_names f) (flat_map field_names fs) distinct) e)

-- ---- A source is one of the writer's fields

pub source_within : (ws : List FieldNode) (f : FieldNode) (k : ℕ) → source_of ws f ≡ Some k → k < length ws
source_within ws f k e = (first_index-named ws f (f.name ∷ f.aliases) k e).0

-- no reader's field takes what is past the writer's last
pub past_all : (ws rs : List FieldNode) (k : ℕ) → length ws ≤ k → reader_field ws rs k ≡ None
past_all ws [] k high = refl
past_all ws (f ∷ fs) k high = cond-false (is_index (source_of ws f) k) (Some f) (reader_field ws fs k) (other (source_of ws f) refl) ∙ past_all ws fs k high
  where
    other : (o : Option ℕ) → source_of ws f ≡ o → is_index o k ≡ false
    other None e = refl
    other (Some j) e = false_from_ne_true (j == k) (λ t. absurd (omega (arith, eqb-true j k t, source_within ws f j e, high)))
