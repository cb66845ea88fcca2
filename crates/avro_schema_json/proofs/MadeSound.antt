-- No fault of a tree says that the text is not JSON, or that memory ran out.
use Rattle.avro_schema_json.proofs.Words.{◌≡◌, ℕ, zero, suc, ◌+◌, ◌<◌, Bool, true, false, not, List, [], ◌∷◌, ◌++◌, Option, Some, None, Result, Ok, Err, length, refl, arith, nat_lt, subst, Ordering, map, Contains, slice_index_or, codes, is_some, ok_or, if◌then◌else◌, nat_cmp, list_all, match_ordering, slice_cmp, and_parts, list_all-append, Name, has_dot, name_of, Node, max_nodes, NodeFault, faults_of_nodes, Data, Items, no_items, item, Members, no_members, member, get_member, SchemaError, unless, needed, text_in, namespace_from, name_from, name_in, alias_texts_from, aliases_in, default_symbol_from, symbols_in, size_in, has_float, faults_of, refusals_of_nodes, or_else, HasFault, completed_nodes, are_all_defaults_read, refusal_of_fault, RawField, Known, Made, Meaning, faulty, in_turn, use_of, id_of, reference, Word, word_of, type_of_word, union_of, container_of, name_faults, record_named, enum_named, fixed_named, definition_of, Form, record_form, enum_form, fixed_form, array_form, map_form, error_form, word_form, no_form, form_of, type_of_form, field_of, no_field, meaning_of, branches_of, meaning_under, fields_under, fields_from, field_meanings, field_meaning, made_of}

-- a fault that a tree can have
abbrev is_of_tree : SchemaError → Bool
is_of_tree SchemaError.NotJson = false
is_of_tree SchemaError.OutOfMemory = false
is_of_tree _ = true

record AreOfTree (faults : List SchemaError) : Type 0 where
  clean : list_all is_of_tree faults ≡ true

abbrev is_of_tree_or_ok : {A : Type 0} → Result A SchemaError → Bool
is_of_tree_or_ok (Ok x) = true
is_of_tree_or_ok (Err e) = is_of_tree e

of_none : AreOfTree []
of_none = record { clean = refl }

of_one : (e : SchemaError) → is_of_tree e ≡ true → AreOfTree (e ∷ [])
of_one e h = record { clean = rw h refl }

both : {xs ys : List SchemaError} → AreOfTree xs → AreOfTree ys → AreOfTree (xs ++ ys)
both {xs} {ys} a b = record { clean = rw (list_all-append is_of_tree xs ys, a.clean, b.clean) refl }

unless-of_tree : (b : Bool) (e : SchemaError) → is_of_tree e ≡ true → AreOfTree (unless b e)
unless-of_tree b e h = grind (arith, of_none, of_one)

needed-of_tree : {A : Type 0} (x : A) (o : Option A) → AreOfTree (needed x o).faults
needed-of_tree x o = grind (arith, of_none, of_one)

-- ---- attributes

namespace-of_tree : (enclosing : List ℕ) (namespace : Option Data) → is_of_tree_or_ok (namespace_from enclosing namespace) ≡ true
namespace-of_tree enclosing namespace = grind arith

inner-of_tree : (dot : Bool) (r : Result (List ℕ) SchemaError) → is_of_tree_or_ok r ≡ true → is_of_tree_or_ok (if dot then Ok [] else r) ≡ true
inner-of_tree dot r h = grind arith

name-of_tree : (enclosing : List ℕ) (namespace : Option Data) (text : Option (List ℕ)) → is_of_tree_or_ok (name_from enclosing namespace text) ≡ true
name-of_tree enclosing namespace None = refl
name-of_tree enclosing namespace (Some text) =
    within (if has_dot text then Ok [] else namespace_from enclosing namespace) refl
    (inner-of_tree (has_dot text) (namespace_from enclosing namespace) (namespace-of_tree enclosing namespace))
  where
    named : (space : List ℕ) (o : Option Name) → name_of text space ≡ o → is_of_tree_or_ok (ok_or (name_of text space) SchemaError.InvalidName) ≡ true
    named space o h = grind arith

    within : (r : Result (List ℕ) SchemaError) → (if has_dot text then Ok [] else namespace_from enclosing namespace) ≡ r
        → is_of_tree_or_ok (if has_dot text then Ok [] else namespace_from enclosing namespace) ≡ true
        → is_of_tree_or_ok (name_from enclosing namespace (Some text)) ≡ true
    within r h k = grind arith

alias_texts-of_tree : (d : Option Data) → AreOfTree (alias_texts_from d).faults
alias_texts-of_tree d = grind (arith, needed-of_tree, of_none)

aliases-of_tree : (namespace : List ℕ) (ms : Members) → AreOfTree (aliases_in namespace ms).faults
aliases-of_tree namespace ms = grind (arith, alias_texts-of_tree, both, unless-of_tree)

default-of_tree : (symbols : List (List ℕ)) (d : Option Data) → AreOfTree (default_symbol_from symbols d).faults
default-of_tree symbols d = grind (arith, of_none, of_one, unless-of_tree)

symbols-of_tree : (ms : Members) → AreOfTree (symbols_in ms).faults
symbols-of_tree ms = grind (arith, default-of_tree, of_one)

size-of_tree : (ms : Members) → AreOfTree (size_in ms).faults
size-of_tree ms = grind (arith, of_one, unless-of_tree)

-- ---- parts

record IsSoundMeaning {A : Type 0} (meaning : Meaning A) : Type 0 where
  at : (enclosing : List ℕ) (known : Known) (next : ℕ) → AreOfTree (meaning enclosing known next).faults

abbrev AreSound : {A : Type 0} → List (Meaning A) → Type 0
AreSound [] = Unit {0}
AreSound (meaning ∷ meanings) = IsSoundMeaning meaning × AreSound meanings

abbrev IfSound : {A : Type 0} → Option (Meaning A) → Type 0
IfSound None = Unit {0}
IfSound (Some meaning) = IsSoundMeaning meaning

abbrev IfAllSound : {A : Type 0} → Option (List (Meaning A)) → Type 0
IfAllSound None = Unit {0}
IfAllSound (Some meanings) = AreSound meanings

faulty-sound : {A : Type 0} (x : A) (fault : SchemaError) → is_of_tree fault ≡ true → IsSoundMeaning (faulty x fault)
faulty-sound x fault h = record { at = λ enclosing known next. of_one fault h }

in_turn-sound : {A : Type 0} (meanings : List (Meaning A)) → AreSound meanings → (enclosing : List ℕ) (known : Known) (next : ℕ)
    → AreOfTree (in_turn meanings enclosing known next).faults
in_turn-sound [] s enclosing known next = of_none
in_turn-sound (meaning ∷ meanings) s enclosing known next =
    let first = meaning enclosing known next in
    both (s.0.at enclosing known next) (in_turn-sound meanings s.1 enclosing first.known (next + length first.nodes))

-- the faults of a node, its own and those below it
above : {own below : List SchemaError} (next : ℕ) → AreOfTree own → AreOfTree below
    → AreOfTree (unless (nat_lt next max_nodes) SchemaError.LimitExceeded ++ own ++ below)
above next own below = both (both (unless-of_tree (nat_lt next max_nodes) SchemaError.LimitExceeded refl) own) below

use-sound : (n : Node) → IsSoundMeaning (use_of n)
use-sound n = record { at = λ enclosing known next. above next of_none of_none }

reference-sound : (word : List ℕ) → IsSoundMeaning (reference word)
reference-sound word = record { at = λ enclosing known next. by_name enclosing known next (name_of word enclosing) refl }
  where
    by_id : (enclosing : List ℕ) (known : Known) (next : ℕ) (name : Name) (id : Option ℕ) → name_of word enclosing ≡ Some name → id_of name known ≡ id
        → AreOfTree (reference word enclosing known next).faults
    by_id enclosing known next name id h k = grind (arith, of_none, of_one)

    by_name : (enclosing : List ℕ) (known : Known) (next : ℕ) (name : Option Name) → name_of word enclosing ≡ name
        → AreOfTree (reference word enclosing known next).faults
    by_name enclosing known next name h = grind (arith, of_one)

word-sound : (word : List ℕ) → IsSoundMeaning (type_of_word word)
word-sound word = by_word (word_of word) refl
  where
    by_word : (w : Word) → word_of word ≡ w → IsSoundMeaning (type_of_word word)
    by_word w h = grind (arith, faulty-sound, reference-sound, use-sound)

union-sound : (branches : List (Meaning ℕ)) → AreSound branches → IsSoundMeaning (union_of branches)
union-sound branches s = record { at = λ enclosing known next. above next of_none (in_turn-sound branches s enclosing known (suc next)) }

container-sound : (node : ℕ → Node) (part : Option (Meaning ℕ)) → IfSound part → IsSoundMeaning (container_of node part)
container-sound node part s = grind (arith, above, faulty-sound, of_none)

-- ---- definitions

named-of_tree : (ms : Members) (known : Known) (name : Name) → AreOfTree (name_faults name known ++ (aliases_in name.namespace ms).faults)
named-of_tree ms known name = both (unless-of_tree (not (is_some (id_of name known))) SchemaError.DuplicateName refl) (aliases-of_tree name.namespace ms)

record-sound : (ms : Members) (fields : Option (List (Meaning RawField))) → IfAllSound fields → (known : Known) (next : ℕ) (name : Name)
    → AreOfTree (record_named ms fields known next name).faults
record-sound ms fields s known next name = grind (arith, above, in_turn-sound, named-of_tree, of_one)

enum-sound : (ms : Members) (known : Known) (next : ℕ) (name : Name) → AreOfTree (enum_named ms known next name).faults
enum-sound ms known next name = above next (both (named-of_tree ms known name) (symbols-of_tree ms)) of_none

fixed-sound : (ms : Members) (known : Known) (next : ℕ) (name : Name) → AreOfTree (fixed_named ms known next name).faults
fixed-sound ms known next name = above next (both (named-of_tree ms known name) (size-of_tree ms)) of_none

definition-sound : (ms : Members) (named : Known → ℕ → Name → Made ℕ) → ((known : Known) (next : ℕ) (name : Name) → AreOfTree (named known next name).faults)
    → IsSoundMeaning (definition_of ms named)
definition-sound ms named s = record {
  at = λ enclosing known next.
      by_name enclosing known next (name_in enclosing ms) refl (name-of_tree enclosing (get_member (codes "namespace") ms) (text_in (codes "name") ms));
}
  where
    by_name : (enclosing : List ℕ) (known : Known) (next : ℕ) (r : Result Name SchemaError) → name_in enclosing ms ≡ r
        → is_of_tree_or_ok (name_in enclosing ms) ≡ true → AreOfTree (definition_of ms named enclosing known next).faults
    by_name enclosing known next r h k = grind (arith, of_one)

form-sound : (ms : Members) (items values : Option (Meaning ℕ)) (fields : Option (List (Meaning RawField))) (form : Form) → IfSound items → IfSound values
    → IfAllSound fields → IsSoundMeaning (type_of_form ms items values fields form)
form-sound ms items values fields record_form i v f = definition-sound ms (record_named ms fields) (record-sound ms fields f)
form-sound ms items values fields enum_form i v f = definition-sound ms (enum_named ms) (enum-sound ms)
form-sound ms items values fields fixed_form i v f = definition-sound ms (fixed_named ms) (fixed-sound ms)
form-sound ms items values fields array_form i v f = container-sound Node.array items i
form-sound ms items values fields map_form i v f = container-sound Node.map_of values v
form-sound ms items values fields error_form i v f = faulty-sound 0 SchemaError.UnsupportedType refl
form-sound ms items values fields (word_form word) i v f = word-sound word
form-sound ms items values fields no_form i v f = faulty-sound 0 SchemaError.InvalidDeclaration refl

typed-sound : (ms : Members) (type : Option (Meaning ℕ)) → IfSound type → IsSoundMeaning (field_of ms type)
typed-sound ms type s = grind (arith, alias_texts-of_tree, both, needed-of_tree, of_one)

no_field-sound : IsSoundMeaning no_field
no_field-sound = faulty-sound (record { name = []; aliases = []; node = 0; default = None }) SchemaError.InvalidDeclaration refl

chosen : {A : Type 0} (P : A → Type 0) (o : Ordering) (a b : A) → P a → P b → P (match_ordering o a b a)
chosen P o a b s t = grind arith

-- ---- by cases on the tree

mutual
  meaning-sound : (d : Data) → IsSoundMeaning (meaning_of d)
  meaning-sound (Data.string word) = word-sound word
  meaning-sound (Data.array ds) = union-sound (branches_of ds) (branches-sound ds)
  meaning-sound (Data.object ms) =
      form-sound ms (meaning_under (codes "items") ms) (meaning_under (codes "values") ms) (fields_under (codes "fields") ms)
      (form_of (text_in (codes "type") ms)) (under-sound (codes "items") ms) (under-sound (codes "values") ms) (fields_under-sound (codes "fields") ms)
  meaning-sound _ = faulty-sound 0 SchemaError.InvalidDeclaration refl

  branches-sound : (ds : Items) → AreSound (branches_of ds)
  branches-sound no_items = tt
  branches-sound (item d ds) = (meaning-sound d, branches-sound ds)

  under-sound : (key : List ℕ) (ms : Members) → IfSound (meaning_under key ms)
  under-sound key no_members = tt
  under-sound key (member k d ms) =
      chosen (λ (o : Option (Meaning ℕ)). IfSound o) (slice_cmp nat_cmp key k) (meaning_under key ms) (Some (λ enclosing known next. meaning_of d enclosing known next)) (under-sound key ms) (meaning-sound d)

  fields_under-sound : (key : List ℕ) (ms : Members) → IfAllSound (fields_under key ms)
  fields_under-sound key no_members = tt
  fields_under-sound key (member k d ms) =
      chosen (λ (o : Option (List (Meaning RawField))). IfAllSound o) (slice_cmp nat_cmp key k) (fields_under key ms) (fields_from d) (fields_under-sound key ms) (fields_from-sound d)

  fields_from-sound : (d : Data) → IfAllSound (fields_from d)
  fields_from-sound (Data.array ds) = field_meanings-sound ds
  fields_from-sound _ = tt

  field_meanings-sound : (ds : Items) → AreSound (field_meanings ds)
  field_meanings-sound no_items = tt
  field_meanings-sound (item d ds) = (field_meaning-sound d, field_meanings-sound ds)

  field_meaning-sound : (d : Data) → IsSoundMeaning (field_meaning d)
  field_meaning-sound (Data.object ms) = typed-sound ms (meaning_under (codes "type") ms) (under-sound (codes "type") ms)
  field_meaning-sound _ = no_field-sound

contained_at : (xs : List SchemaError) (k : ℕ) (e : SchemaError) → list_all is_of_tree xs ≡ true → k < length xs → slice_index_or xs k e ≡ e → is_of_tree e ≡ true
contained_at [] k e h below at = absurd (omega arith)
contained_at (x ∷ xs) zero e h below at = subst (λ (y : SchemaError). is_of_tree y ≡ true) at (and_parts (is_of_tree x) (list_all is_of_tree xs) h).0
contained_at (x ∷ xs) (suc k) e h below at = contained_at xs k e (and_parts (is_of_tree x) (list_all is_of_tree xs) h).1 (omega arith) at

-- ---- the faults of a tree

or_else-of_tree : (xs : List SchemaError) {ys : List SchemaError} → AreOfTree xs → AreOfTree ys → AreOfTree (or_else xs ys)
or_else-of_tree xs h k = grind arith

refusal-of_tree : (fault : NodeFault) → is_of_tree (refusal_of_fault fault) ≡ true
refusal-of_tree fault = grind arith

refusals-of_tree : (faults : List NodeFault) → AreOfTree (map refusal_of_fault faults)
refusals-of_tree [] = of_none
refusals-of_tree (fault ∷ faults) = record { clean = rw (refusal-of_tree fault, (refusals-of_tree faults).clean) refl }

all-of_tree : (tree : Data) → AreOfTree (faults_of tree)
all-of_tree tree =
    let raws = (made_of tree).nodes in
    or_else-of_tree (unless (not (has_float tree)) SchemaError.UnsupportedNumber) (unless-of_tree (not (has_float tree)) SchemaError.UnsupportedNumber refl)
    (or_else-of_tree (made_of tree).faults ((meaning-sound tree).at [] [] 0)
    (or_else-of_tree (refusals_of_nodes (completed_nodes raws)) (refusals-of_tree (faults_of_nodes (completed_nodes raws)))
    (unless-of_tree (are_all_defaults_read raws) SchemaError.InvalidDefault refl)))

-- none of them is one of these
other : (xs : List SchemaError) (e : SchemaError) → AreOfTree xs → Contains xs e → (e ≡ SchemaError.NotJson → ⊥) × (e ≡ SchemaError.OutOfMemory → ⊥)
other xs e h c = grind (arith, contained_at)

pub fault-other : (tree : Data) (e : SchemaError) → HasFault tree e → (e ≡ SchemaError.NotJson → ⊥) × (e ≡ SchemaError.OutOfMemory → ⊥)
fault-other tree e c = other (faults_of tree) e (all-of_tree tree) c

pub made_fault : (tree : Data) (e : SchemaError) → Contains (made_of tree).faults e → e ≡ SchemaError.NotJson → ⊥
made_fault tree e c = (other (made_of tree).faults e ((meaning-sound tree).at [] [] 0) c).0
