-- Data that fit nodes of one form are the same.
use Rattle.std.proofs.Common.{◌≡◌, ◌⊎◌, inl, inr, ⊎_elim, ℕ, Bool, true, false, List, [], ◌∷◌, Some, None, refl, sym, ◌∙◌, subst}
use Rattle.std.proofs.lemmas.Bool.{false≢true, or_cases, or_right}
use Rattle.avro_name.specs.Name.{Name, same_name}
use Rattle.avro_schema.specs.Value.{Value}
use Rattle.avro_schema.specs.Node.{items_node, values_node, branches_of, fields_of, Node, FieldNode, node_at, root_of, node_name, field_ids}
use Rattle.avro_schema.specs.Fits.{fits}
use Rattle.avro_schema.specs.WellFormed.{is_schema}
use Rattle.avro_canonical.specs.Form.{Form, Forms, FieldForms, no_forms, form, no_fields, field, written_after, written_after_all, written_after_fields}
use Rattle.avro_canonical.specs.Canonical.{IsForm, AreForms, AreFieldForms, primitive_word, is_among, no_branch, branch, no_field, next_field}
use Rattle.avro_canonical.proofs.Words.{by_word}
use Rattle.avro_canonical.proofs.FormsWellMade.{word_node}
use Rattle.avro_canonical.proofs.SameFits.{neither, both, Each, no_pairs, pairs, none_each, each, Matching, Closed, same_fit}
use Rattle.avro_canonical.proofs.OneNamed.{one_named}

-- each of the names is among all of them
abbrev AreAmong : List Name → List Name → Type 0
AreAmong names all = (name : Name) → is_among name names ≡ true → is_among name all ≡ true

-- nodes of one form, the names of which are among all
record Alike (a b : List Node) (all : List Name) (m n : Node) : Type 0 where
  written : List Name
  form : Form
  first : IsForm a written m form
  second : IsForm b written n form
  within : AreAmong (written_after written form) all

abbrev is_reference : Form → Bool
is_reference (Form.reference name) = true
is_reference _ = false

-- the definitions of a name
record Defined (a b : List Node) (all : List Name) (name : Name) : Type 0 where
  here : ℕ
  there : ℕ
  alike : Alike a b all (node_at a here) (node_at b there)
  defines : is_reference alike.form ≡ false
  own : Name
  same : same_name name own ≡ true
  first_named : node_name (node_at a here) ≡ Some own
  second_named : node_name (node_at b there) ≡ Some own

mutual
  pub grows : (name : Name) (w : List Name) (f : Form) → is_among name w ≡ true → is_among name (written_after w f) ≡ true
  grows name w (Form.array f) h = grows name w f h
  grows name w (Form.map_of f) h = grows name w f h
  grows name w (Form.union fs) h = grows_all name w fs h
  grows name w (Form.record_of own fs) h = grows_fields name (own ∷ w) fs (or_right (same_name name own) (is_among name w) h)
  grows name w (Form.enum own symbols) h = or_right (same_name name own) (is_among name w) h
  grows name w (Form.fixed own count) h = or_right (same_name name own) (is_among name w) h
  grows name w _ h = h

  grows_all : (name : Name) (w : List Name) (fs : Forms) → is_among name w ≡ true → is_among name (written_after_all w fs) ≡ true
  grows_all name w no_forms h = h
  grows_all name w (form f fs) h = grows_all name (written_after w f) fs (grows name w f h)

  grows_fields : (name : Name) (w : List Name) (fs : FieldForms) → is_among name w ≡ true → is_among name (written_after_fields w fs) ≡ true
  grows_fields name w no_fields h = h
  grows_fields name w (field own f fs) h = grows_fields name (written_after w f) fs (grows name w f h)

word_matches : {P : ℕ → ℕ → Type 0} (n : Node) (word : List ℕ) → primitive_word n ≡ Some word → Matching P n n
word_matches {P = P} = by_word (λ n word. Matching P n n) (leaf Node.null refl refl refl refl) (leaf Node.boolean refl refl refl refl) (leaf Node.int refl refl refl refl)
    (leaf Node.long refl refl refl refl) (leaf Node.bytes refl refl refl refl) (leaf Node.string refl refl refl refl)
  where
    leaf : (n : Node) → items_node n ≡ None → values_node n ≡ None → branches_of n ≡ None → fields_of n ≡ None → Matching P n n
    leaf n itemless valueless branchless fieldless = record { same = refl; items = rw itemless neither; values = rw valueless neither; branches = rw branchless none_each; fields = rw fieldless none_each }

matching : {a b : List Node} {all w : List Name} {m n : Node} {f : Form} → IsForm a w m f → IsForm b w n f → is_reference f ≡ false → AreAmong (written_after w f) all
    → Matching (λ p q. Alike a b all (node_at a p) (node_at b q)) m n
matching {a = a} {b = b} {all = all} {m = m} {n = n} (IsForm.primitive {word = word} h) (IsForm.primitive k) none within =
    subst (λ x. Matching (λ p q. Alike a b all (node_at a p) (node_at b q)) m x) (sym (word_node m word h) ∙ word_node n word k) (word_matches m word h)
matching (IsForm.array d) (IsForm.array e) none within = record { same = refl; items = both (record { written = _; form = _; first = d; second = e; within = within }); values = neither; branches = none_each; fields = none_each }
matching (IsForm.map_of d) (IsForm.map_of e) none within = record { same = refl; items = neither; values = both (record { written = _; form = _; first = d; second = e; within = within }); branches = none_each; fields = none_each }
matching {a = a} {b = b} {all = all} (IsForm.union ds) (IsForm.union es) none within = record { same = refl; items = neither; values = neither; branches = each (each_branch ds es within); fields = none_each }
  where
    each_branch : {w : List Name} {ps qs : List ℕ} {fs : Forms} → AreForms a w ps fs → AreForms b w qs fs → AreAmong (written_after_all w fs) all
        → Each (λ p q. Alike a b all (node_at a p) (node_at b q)) ps qs
    each_branch no_branch no_branch within = no_pairs
    each_branch {w = w} (branch {f = f} {fs = fs} d ds) (branch e es) within =
        pairs (record { written = w; form = f; first = d; second = e; within = λ name h. within name (grows_all name (written_after w f) fs h) }) (each_branch ds es within)
matching {a = a} {b = b} {all = all} (IsForm.record_of h ds) (IsForm.record_of k es) none within = record { same = refl; items = neither; values = neither; branches = none_each; fields = each (each_field ds es within) }
  where
    each_field : {w : List Name} {xs ys : List FieldNode} {fs : FieldForms} → AreFieldForms a w xs fs → AreFieldForms b w ys fs → AreAmong (written_after_fields w fs) all
        → Each (λ p q. Alike a b all (node_at a p) (node_at b q)) (field_ids xs) (field_ids ys)
    each_field no_field no_field within = no_pairs
    each_field {w = w} (next_field {f = f} {fs = fs} d ds) (next_field e es) within =
        pairs (record { written = w; form = f; first = d; second = e; within = λ name h. within name (grows_fields name (written_after w f) fs h) }) (each_field ds es within)
matching (IsForm.enum h) (IsForm.enum k) none within = record { same = refl; items = neither; values = neither; branches = none_each; fields = none_each }
matching (IsForm.fixed h) (IsForm.fixed k) none within = record { same = refl; items = neither; values = neither; branches = none_each; fields = none_each }
matching (IsForm.again h old) (IsForm.again k more) none within = absurd (false≢true (sym none))

defined : {a b : List Node} {all w : List Name} {m n : Node} {f : Form} (p q : ℕ) (own name : Name) → IsForm a w m f → IsForm b w n f → AreAmong (written_after w f) all
    → is_reference f ≡ false → m ≡ node_at a p → n ≡ node_at b q → node_name m ≡ Some own → node_name n ≡ Some own → same_name name own ≡ true → Defined a b all name
defined {a = a} {b = b} {all = all} {w = w} {f = f} p q own name d e within defines here there first second same = record {
  here = p;
  there = q;
  alike = record { written = w; form = f; first = subst (λ x. IsForm a w x f) here d; second = subst (λ x. IsForm b w x f) there e; within = within };
  defines = defines;
  own = own;
  same = same;
  first_named = subst (λ x. node_name x ≡ Some own) here first;
  second_named = subst (λ x. node_name x ≡ Some own) there second;
}

-- A name that is written after nodes of one form was written before, or they define it.
mutual
  find : {a b : List Node} {all w : List Name} {m n : Node} {f : Form} (p q : ℕ) (name : Name) → IsForm a w m f → IsForm b w n f → AreAmong (written_after w f) all
      → m ≡ node_at a p → n ≡ node_at b q → is_among name (written_after w f) ≡ true → (is_among name w ≡ true) ⊎ Defined a b all name
  find p q name (IsForm.primitive h) (IsForm.primitive k) within here there old = inl old
  find p q name (IsForm.array {id = x} d) (IsForm.array {id = y} e) within here there old = find x y name d e within refl refl old
  find p q name (IsForm.map_of {id = x} d) (IsForm.map_of {id = y} e) within here there old = find x y name d e within refl refl old
  find p q name (IsForm.union ds) (IsForm.union es) within here there old = find_all name ds es within old
  find {w = w} p q name (IsForm.record_of {name = own} h ds) (IsForm.record_of k es) within here there old =
      ⊎_elim (λ written. ⊎_elim (λ same. inr (defined p q own name (IsForm.record_of h ds) (IsForm.record_of k es) within refl here there refl refl same)) (λ before. inl before)
      (or_cases (same_name name own) (is_among name w) written))
      (λ found. inr found) (find_fields name ds es within old)
  find {w = w} p q name (IsForm.enum {name = own} h) (IsForm.enum k) within here there old =
      ⊎_elim (λ same. inr (defined p q own name (IsForm.enum h) (IsForm.enum k) within refl here there refl refl same)) (λ before. inl before)
      (or_cases (same_name name own) (is_among name w) old)
  find {w = w} p q name (IsForm.fixed {name = own} h) (IsForm.fixed k) within here there old =
      ⊎_elim (λ same. inr (defined p q own name (IsForm.fixed h) (IsForm.fixed k) within refl here there refl refl same)) (λ before. inl before)
      (or_cases (same_name name own) (is_among name w) old)
  find p q name (IsForm.again h before) (IsForm.again k more) within here there old = inl old

  find_all : {a b : List Node} {all w : List Name} {ps qs : List ℕ} {fs : Forms} (name : Name) → AreForms a w ps fs → AreForms b w qs fs → AreAmong (written_after_all w fs) all
      → is_among name (written_after_all w fs) ≡ true → (is_among name w ≡ true) ⊎ Defined a b all name
  find_all name no_branch no_branch within old = inl old
  find_all {w = w} name (branch {id = x} {f = f} {fs = fs} d ds) (branch {id = y} e es) within old =
      ⊎_elim (λ before. find x y name d e (λ it h. within it (grows_all it (written_after w f) fs h)) refl refl before) (λ found. inr found) (find_all name ds es within old)

  find_fields : {a b : List Node} {all w : List Name} {xs ys : List FieldNode} {fs : FieldForms} (name : Name) → AreFieldForms a w xs fs → AreFieldForms b w ys fs
      → AreAmong (written_after_fields w fs) all → is_among name (written_after_fields w fs) ≡ true → (is_among name w ≡ true) ⊎ Defined a b all name
  find_fields name no_field no_field within old = inl old
  find_fields {w = w} name (next_field {x = x} {f = f} {fs = fs} d ds) (next_field {x = y} e es) within old =
      ⊎_elim (λ before. find x.node y.node name d e (λ it h. within it (grows_fields it (written_after w f) fs h)) refl refl before) (λ found. inr found) (find_fields name ds es within old)

-- the parts of nodes of one form are of one form
alike_closed : (a b : List Node) (all : List Name) → is_schema a ≡ true → is_schema b ≡ true → ((name : Name) → is_among name all ≡ true → Defined a b all name)
    → Closed a b (λ p q. Alike a b all (node_at a p) (node_at b q))
alike_closed a b all first second known p q alike = by_form alike.first alike.second alike.within
  where
    elsewhere : {w : List Name} {name : Name} {m n : Node} → IsForm a w m (Form.reference name) → IsForm b w n (Form.reference name) → AreAmong w all → m ≡ node_at a p → n ≡ node_at b q
        → Matching (λ x y. Alike a b all (node_at a x) (node_at b y)) (node_at a p) (node_at b q)
    elsewhere {name = name} (IsForm.again h old) (IsForm.again k more) within here there =
        let known_as = known name (within name old) in
        let one : node_at a known_as.here ≡ node_at a p = sym (one_named a p known_as.here name known_as.own first (subst (λ x. node_name x ≡ Some name) here h) known_as.first_named known_as.same) in
        let two : node_at b known_as.there ≡ node_at b q = sym (one_named b q known_as.there name known_as.own second (subst (λ x. node_name x ≡ Some name) there k) known_as.second_named known_as.same) in
        let there_matching = matching known_as.alike.first known_as.alike.second known_as.defines known_as.alike.within in
        subst (λ m. Matching (λ x y. Alike a b all (node_at a x) (node_at b y)) m (node_at b q)) one
        (subst (λ n. Matching (λ x y. Alike a b all (node_at a x) (node_at b y)) (node_at a known_as.here) n) two there_matching)

    by_form : {w : List Name} {f : Form} → IsForm a w (node_at a p) f → IsForm b w (node_at b q) f → AreAmong (written_after w f) all
        → Matching (λ x y. Alike a b all (node_at a x) (node_at b y)) (node_at a p) (node_at b q)
    by_form {f = Form.reference name} d e within = elsewhere d e within refl refl
    by_form {f = f} d e within = matching d e refl within

pub same_at_roots : (a b : List Node) (f : Form) → is_schema a ≡ true → is_schema b ≡ true → IsForm a [] (root_of a) f → IsForm b [] (root_of b) f
    → (v : Value) → fits a (root_of a) v ≡ fits b (root_of b) v
same_at_roots a b f first second d e v =
    let all = written_after [] f in
    same_fit a b (alike_closed a b all first second (λ name old. ⊎_elim (λ none. absurd (false≢true none)) (λ found. found) (find 0 0 name d e (λ it h. h) refl refl old)))
    v 0 0 (record { written = []; form = f; first = d; second = e; within = λ it h. h })
