-- Of two encodings at one node, neither is a proper front of the other.
use Rattle.std.proofs.Common.{◌≡◌, ℕ, pos, Bool, true, false, Some, List, [], ◌∷◌, ◌++◌, length, refl, sym, ap, ◌∙◌, subst, append_assoc, arith, slice_get, if◌then◌else◌}
use Rattle.std.specs.Prelude.{◌==◌}
use Rattle.std.specs.List.{concat}
use Rattle.std.proofs.lemmas.Bool.{and_parts, false≢true}
use Rattle.std.proofs.lemmas.Bool.Decides.{nat_tests}
use Rattle.avro_zigzag.proofs.public.Spelling.{one_spelling_lem}
use Rattle.avro_schema.specs.Value.{Value, Values, Entries, no_values, value, no_entries, entry}
use Rattle.avro_schema.specs.Node.{Node, node_at, field_ids}
use Rattle.avro_schema.specs.Fits.{fits, each_fits, entries_fit, fields_fit}
use Rattle.avro_schema.proofs.public.FitsParts.{ArrayFits-from_fits, MapFits-from_fits, UnionFits-from_fits, RecordFits-from_fits}
use Rattle.avro_schema.proofs.public.FitsKind.{FitsKind-from_fits, null_value, boolean_value, int_value, long_value}
use Rattle.avro_cursor.specs.Encoding.{SpellsBytes, Spells, EachSpelled, EntriesSpelled, Encodes}
use Rattle.avro_binary.proofs.FrontBlocks.{Each, IsAlone, same_blocks}
use Rattle.avro_cursor.proofs.public.Fronts.{same_front, same_behind, same_from_pos}
use Rattle.avro_binary.proofs.KindOf.{kind_at, bytes_value, string_value, array_value, map_value, union_value, record_value, enum_value, fixed_value, enum-from_symbols_of, fixed-from_fixed_length}

-- a length and its bytes
pub same_bytes : (v w a b x y : List ℕ) → SpellsBytes v a → SpellsBytes w b → a ++ x ≡ b ++ y → (a ≡ b) × (v ≡ w)
same_bytes v w a b x y s t e =
    let joined : s.0 ++ (v ++ x) ≡ t.0 ++ (w ++ y) =
    sym (append_assoc s.0 v x) ∙ ap (λ (f : List ℕ). f ++ x) (sym s.2) ∙ e ∙ ap (λ (f : List ℕ). f ++ y) t.2 ∙ append_assoc t.0 w y in
    let number = one_spelling_lem (pos (length v)) (pos (length w)) s.0 t.0 (v ++ x) (w ++ y) s.1 t.1 joined in
    let content = same_front v w x y (same_from_pos (length v) (length w) number.1) (same_behind s.0 t.0 (v ++ x) (w ++ y) number.0 joined) in
    let left = s.2 in
    let right = t.2 in
    let front = number.0 in
    (cc, content.0)

-- ---- Values that are determined by what they begin

-- no encoding of another datum of the node begins bytes that one of this datum begins
abbrev pub IsTold : List Node → Node → Value → Type 0
IsTold nodes n v = (w : Value) (a b x y : List ℕ) → fits nodes n w ≡ true → Spells v a → Spells w b → a ++ x ≡ b ++ y → (a ≡ b) × (v ≡ w)

abbrev pub EachTold : List Node → Node → Values → Type 0
EachTold nodes n no_values = Unit {0}
EachTold nodes n (value v vs) = IsTold nodes n v × EachTold nodes n vs

abbrev pub EntriesTold : List Node → Node → Entries → Type 0
EntriesTold nodes n no_entries = Unit {0}
EntriesTold nodes n (entry k v es) = IsTold nodes n v × EntriesTold nodes n es

abbrev pub FieldsTold : List Node → List ℕ → Values → Type 0
FieldsTold nodes ids no_values = Unit {0}
FieldsTold nodes [] (value v vs) = Unit {0}
FieldsTold nodes (id ∷ ids) (value v vs) = IsTold nodes (node_at nodes id) v × FieldsTold nodes ids vs

-- bytes of a value of the node
abbrev pub IsItem : List Node → Node → List ℕ → Type 0
IsItem nodes n bytes = (w : Value) × (fits nodes n w ≡ true) × Spells w bytes

-- bytes of a key and a value of the node
abbrev pub IsEntryItem : List Node → Node → List ℕ → Type 0
IsEntryItem nodes n bytes =
    (k : List ℕ) × (w : Value) × (key first : List ℕ) × SpellsBytes k key × (fits nodes n w ≡ true) × Spells w first × (bytes ≡ key ++ first)

pub items_are : (nodes : List Node) (n : Node) (vs : Values) (items : List (List ℕ)) → each_fits nodes n vs ≡ true → EachSpelled vs items → Each (IsItem nodes n) items
items_are nodes n no_values items h s = subst (Each (IsItem nodes n)) (sym s) tt
items_are nodes n (value v vs) items h s =
    let parts = and_parts (fits nodes n v) (each_fits nodes n vs) h in
    subst (Each (IsItem nodes n)) (sym s.4) ((v, parts.0, s.2), items_are nodes n vs s.1 parts.1 s.3)

pub items_alone : (nodes : List Node) (n : Node) (vs : Values) (items : List (List ℕ)) → EachTold nodes n vs → EachSpelled vs items → Each (IsAlone (IsItem nodes n)) items
items_alone nodes n no_values items told s = subst (Each (IsAlone (IsItem nodes n))) (sym s) tt
items_alone nodes n (value v vs) items told s =
    subst (Each (IsAlone (IsItem nodes n))) (sym s.4)
    ((λ other x y is e. (told.0 is.0 s.0 other x y is.1 s.2 is.2 e).0), items_alone nodes n vs s.1 told.1 s.3)

-- the same items are those of the same values
pub items_same : (nodes : List Node) (n : Node) (vs ws : Values) (items : List (List ℕ)) → EachTold nodes n vs → each_fits nodes n ws ≡ true → EachSpelled vs items
    → EachSpelled ws items → vs ≡ ws
items_same nodes n no_values no_values items told h s t = refl
items_same nodes n no_values (value w ws) items told h s t = let e = t.4 in absurd cc
items_same nodes n (value v vs) no_values items told h s t = let e = s.4 in absurd cc
items_same nodes n (value v vs) (value w ws) items told h s t =
    let parts = and_parts (fits nodes n w) (each_fits nodes n ws) h in
    let left = s.4 in
    let right = t.4 in
    let front : s.0 ++ [] ≡ t.0 ++ [] = cc in
    let first = told.0 w s.0 t.0 [] [] parts.0 s.2 t.2 front in
    let others : s.1 ≡ t.1 = cc in
    let rest = items_same nodes n vs ws s.1 told.1 parts.1 s.3 (subst (EachSpelled ws) (sym others) t.3) in
    cc

pub entries_are : (nodes : List Node) (n : Node) (es : Entries) (items : List (List ℕ)) → entries_fit nodes n es ≡ true → EntriesSpelled es items → Each (IsEntryItem nodes n) items
entries_are nodes n no_entries items h s = subst (Each (IsEntryItem nodes n)) (sym s) tt
entries_are nodes n (entry k v es) items h s =
    let parts = and_parts (fits nodes n v) (entries_fit nodes n es) h in
    subst (Each (IsEntryItem nodes n)) (sym s.6) ((k, v, s.0, s.1, s.3, parts.0, s.4, refl), entries_are nodes n es s.2 parts.1 s.5)

-- an entry is determined by its key and its value
pub same_entry : (nodes : List Node) (n : Node) (k l : List ℕ) (v w : Value) (key key' first first' x y : List ℕ) → IsTold nodes n v → fits nodes n w ≡ true
    → SpellsBytes k key → SpellsBytes l key' → Spells v first → Spells w first' → key ++ first ++ x ≡ key' ++ first' ++ y
    → (k ≡ l) × (v ≡ w) × (key ≡ key') × (first ≡ first')
same_entry nodes n k l v w key key' first first' x y told h s s' t t' e =
    let joined : key ++ (first ++ x) ≡ key' ++ (first' ++ y) = sym (append_assoc key first x) ∙ e ∙ append_assoc key' first' y in
    let keys = same_bytes k l key key' (first ++ x) (first' ++ y) s s' joined in
    let values = told w first first' x y h t t' (same_behind key key' (first ++ x) (first' ++ y) keys.0 joined) in
    (keys.1, values.1, keys.0, values.0)

pub entries_alone : (nodes : List Node) (n : Node) (es : Entries) (items : List (List ℕ)) → EntriesTold nodes n es → EntriesSpelled es items → Each (IsAlone (IsEntryItem nodes n)) items
entries_alone nodes n no_entries items told s = subst (Each (IsAlone (IsEntryItem nodes n))) (sym s) tt
entries_alone nodes n (entry k v es) items told s =
    subst (Each (IsAlone (IsEntryItem nodes n))) (sym s.6) (
      (λ other x y is e.
          let joined : s.0 ++ s.1 ++ x ≡ is.2 ++ is.3 ++ y = e ∙ ap (λ (f : List ℕ). f ++ y) is.7 in
          let same = same_entry nodes n k is.0 v is.1 s.0 is.2 s.1 is.3 x y told.0 is.5 s.3 is.4 s.4 is.6 joined in
          let whole = is.7 in
          let keys = same.2 in
          let firsts = same.3 in
          cc),
      entries_alone nodes n es s.2 told.1 s.5,
    )

pub entries_same : (nodes : List Node) (n : Node) (es fs : Entries) (items : List (List ℕ)) → EntriesTold nodes n es → entries_fit nodes n fs ≡ true → EntriesSpelled es items
    → EntriesSpelled fs items → es ≡ fs
entries_same nodes n no_entries no_entries items told h s t = refl
entries_same nodes n no_entries (entry l w fs) items told h s t = let e = t.6 in absurd cc
entries_same nodes n (entry k v es) no_entries items told h s t = let e = s.6 in absurd cc
entries_same nodes n (entry k v es) (entry l w fs) items told h s t =
    let parts = and_parts (fits nodes n w) (entries_fit nodes n fs) h in
    let left = s.6 in
    let right = t.6 in
    let front : s.0 ++ s.1 ++ [] ≡ t.0 ++ t.1 ++ [] = cc in
    let first = same_entry nodes n k l v w s.0 t.0 s.1 t.1 [] [] told.0 parts.0 s.3 t.3 s.4 t.4 front in
    let others : s.2 ≡ t.2 = cc in
    let rest = entries_same nodes n es fs s.2 told.1 parts.1 s.5 (subst (EntriesSpelled fs) (sym others) t.5) in
    let keys = first.0 in
    let values = first.1 in
    cc

-- the values of the same fields
pub fields_same : (nodes : List Node) (ids : List ℕ) (vs ws : Values) (items others : List (List ℕ)) (x y : List ℕ) → FieldsTold nodes ids vs
    → fields_fit nodes ids vs ≡ true → fields_fit nodes ids ws ≡ true → EachSpelled vs items → EachSpelled ws others → concat items ++ x ≡ concat others ++ y
    → (concat items ≡ concat others) × (vs ≡ ws)
fields_same nodes [] no_values no_values items others x y told g h s t e = (ap concat (s ∙ sym t), refl)
fields_same nodes [] no_values (value w ws) items others x y told g h s t e = absurd (false≢true h)
fields_same nodes [] (value v vs) ws items others x y told g h s t e = absurd (false≢true g)
fields_same nodes (id ∷ ids) no_values ws items others x y told g h s t e = absurd (false≢true g)
fields_same nodes (id ∷ ids) (value v vs) no_values items others x y told g h s t e = absurd (false≢true h)
fields_same nodes (id ∷ ids) (value v vs) (value w ws) items others x y told g h s t e =
    let mine = and_parts (fits nodes (node_at nodes id) v) (fields_fit nodes ids vs) g in
    let parts = and_parts (fits nodes (node_at nodes id) w) (fields_fit nodes ids ws) h in
    let joined : s.0 ++ (concat s.1 ++ x) ≡ t.0 ++ (concat t.1 ++ y) =
    sym (append_assoc s.0 (concat s.1) x) ∙ ap (λ (is : List (List ℕ)). concat is ++ x) (sym s.4) ∙ e
    ∙ ap (λ (is : List (List ℕ)). concat is ++ y) t.4 ∙ append_assoc t.0 (concat t.1) y in
    let first = told.0 w s.0 t.0 (concat s.1 ++ x) (concat t.1 ++ y) parts.0 s.2 t.2 joined in
    let rest = fields_same nodes ids vs ws s.1 t.1 x y told.1 mine.1 parts.1 s.3 t.3
    (same_behind s.0 t.0 (concat s.1 ++ x) (concat t.1 ++ y) first.0 joined) in
    let front : s.0 ++ concat s.1 ≡ t.0 ++ concat t.1 = cc in
    (ap concat s.4 ∙ front ∙ sym (ap concat t.4), cc)

-- ---- Each kind

-- the byte of a boolean determines it
same_boolean : (b d : Bool) (x y : List ℕ) → (if b then 1 else 0) ∷ [] ++ x ≡ (if d then 1 else 0) ∷ [] ++ y → b ≡ d
same_boolean true true x y e = refl
same_boolean false false x y e = refl
same_boolean true false x y e = absurd cc
same_boolean false true x y e = absurd cc

same_length : (a b : List ℕ) (count : ℕ) → (length a == count) ≡ true → (length b == count) ≡ true → length a ≡ length b
same_length a b count h k = grind (arith, nat_tests)

told_array : (nodes : List Node) (id : ℕ) (vs ws : Values) (a b x y : List ℕ) → EachTold nodes (node_at nodes id) vs → each_fits nodes (node_at nodes id) ws ≡ true
    → Spells (Value.array vs) a → Spells (Value.array ws) b → a ++ x ≡ b ++ y → (a ≡ b) × (vs ≡ ws)
told_array nodes id vs ws a b x y told h s t e =
    let n = node_at nodes id in
    let same = same_blocks (IsItem nodes n) s.0 t.0 a b x y (items_alone nodes n vs s.0 told s.1) (items_are nodes n ws t.0 h t.1) s.2 t.2 e in
    (same.1, items_same nodes n vs ws s.0 told h s.1 (subst (EachSpelled ws) (sym same.0) t.1))

told_map : (nodes : List Node) (id : ℕ) (es fs : Entries) (a b x y : List ℕ) → EntriesTold nodes (node_at nodes id) es → entries_fit nodes (node_at nodes id) fs ≡ true
    → Spells (Value.map_of es) a → Spells (Value.map_of fs) b → a ++ x ≡ b ++ y → (a ≡ b) × (es ≡ fs)
told_map nodes id es fs a b x y told h s t e =
    let n = node_at nodes id in
    let same = same_blocks (IsEntryItem nodes n) s.0 t.0 a b x y (entries_alone nodes n es s.0 told s.1) (entries_are nodes n fs t.0 h t.1) s.2 t.2 e in
    (same.1, entries_same nodes n es fs s.0 told h s.1 (subst (EntriesSpelled fs) (sym same.0) t.1))

-- a spelling of the datum that is the same
respelled : (v w : Value) (bytes : List ℕ) → v ≡ w → Spells v bytes → Spells w bytes
respelled v w bytes e s = subst (λ (u : Value). Spells u bytes) e s

-- each datum is determined by what it begins
mutual
  pub told : (nodes : List Node) (n : Node) (v : Value) → fits nodes n v ≡ true → IsTold nodes n v
  told nodes n Value.null g w a b x y h s t e =
      let is = null_value nodes w (kind_at nodes n Node.null w (FitsKind-from_fits nodes n Value.null g) h) in
      let none = respelled w Value.null b is t in
      (s ∙ sym none, sym is)
  told nodes n (Value.boolean c) g w a b x y h s t e =
      let is = boolean_value nodes w (kind_at nodes n Node.boolean w (FitsKind-from_fits nodes n (Value.boolean c) g) h) in
      let other = respelled w (Value.boolean is.0) b is.1 t in
      let same = same_boolean c is.0 x y (ap (λ (f : List ℕ). f ++ x) (sym s) ∙ e ∙ ap (λ (f : List ℕ). f ++ y) other) in
      (s ∙ ap (λ (d : Bool). (if d then 1 else 0) ∷ []) same ∙ sym other, ap Value.boolean same ∙ sym is.1)
  told nodes n (Value.int i) g w a b x y h s t e =
      let is = int_value nodes w (kind_at nodes n Node.int w (FitsKind-from_fits nodes n (Value.int i) g).0 h) in
      let same = one_spelling_lem i is.0 a b x y s (respelled w (Value.int is.0) b is.1 t) e in
      (same.0, ap Value.int same.1 ∙ sym is.1)
  told nodes n (Value.long i) g w a b x y h s t e =
      let is = long_value nodes w (kind_at nodes n Node.long w (FitsKind-from_fits nodes n (Value.long i) g).0 h) in
      let same = one_spelling_lem i is.0 a b x y s (respelled w (Value.long is.0) b is.1 t) e in
      (same.0, ap Value.long same.1 ∙ sym is.1)
  told nodes n (Value.bytes c) g w a b x y h s t e =
      let is = bytes_value nodes w (kind_at nodes n Node.bytes w (FitsKind-from_fits nodes n (Value.bytes c) g).0 h) in
      let same = same_bytes c is.0 a b x y s (respelled w (Value.bytes is.0) b is.1 t) e in
      (same.0, ap Value.bytes same.1 ∙ sym is.1)
  told nodes n (Value.string c) g w a b x y h s t e =
      let is = string_value nodes w (kind_at nodes n Node.string w (FitsKind-from_fits nodes n (Value.string c) g).0 h) in
      let same = same_bytes c is.0 a b x y s (respelled w (Value.string is.0) b is.1 t) e in
      (same.0, ap Value.string same.1 ∙ sym is.1)
  told nodes n (Value.array vs) g w a b x y h s t e =
      let parts = ArrayFits-from_fits nodes n vs g in
      let is = array_value nodes parts.id w (kind_at nodes n (Node.array parts.id) w parts.is_array h) in
      let each = each_told nodes (node_at nodes parts.id) vs parts.fitting in
      let same = told_array nodes parts.id vs is.0 a b x y each is.3 s (respelled w (Value.array is.0) b is.1 t) e in
      (same.0, ap Value.array same.1 ∙ sym is.1)
  told nodes n (Value.map_of es) g w a b x y h s t e =
      let parts = MapFits-from_fits nodes n es g in
      let is = map_value nodes parts.id w (kind_at nodes n (Node.map_of parts.id) w parts.is_map h) in
      let each = entries_told nodes (node_at nodes parts.id) es parts.fitting in
      let same = told_map nodes parts.id es is.0 a b x y each is.4 s (respelled w (Value.map_of is.0) b is.1 t) e in
      (same.0, ap Value.map_of same.1 ∙ sym is.1)
  told nodes n (Value.union k v) g w a b x y h s t e =
      let parts = UnionFits-from_fits nodes n k v g in
      let is = union_value nodes parts.ids w (kind_at nodes n (Node.union parts.ids) w parts.is_union h) in
      let other = respelled w (Value.union is.0 is.1) b is.3 t in
      let joined : s.0 ++ (s.1 ++ x) ≡ other.0 ++ (other.1 ++ y) =
      sym (append_assoc s.0 s.1 x) ∙ ap (λ (f : List ℕ). f ++ x) (sym s.4) ∙ e ∙ ap (λ (f : List ℕ). f ++ y) other.4 ∙ append_assoc other.0 other.1 y in
      let number = one_spelling_lem (pos k) (pos is.0) s.0 other.0 (s.1 ++ x) (other.1 ++ y) s.2 other.2 joined in
      let one : k ≡ is.0 = same_from_pos k is.0 number.1 in
      let there_is : is.2 ≡ parts.id = same_id parts.ids k is.0 parts.id is.2 one parts.is_branch is.4 in
      let there = subst (λ (p : ℕ). fits nodes (node_at nodes p) is.1 ≡ true) there_is is.5 in
      let same = told nodes (node_at nodes parts.id) v parts.fitting is.1 s.1 other.1 x y there s.3 other.3
      (same_behind s.0 other.0 (s.1 ++ x) (other.1 ++ y) number.0 joined) in
      (union_bytes a b s.0 s.1 other.0 other.1 s.4 other.4 number.0 same.0, union_is k is.0 v is.1 one same.1 ∙ sym is.3)
    where
      same_id : (ids : List ℕ) (k j p q : ℕ) → k ≡ j → slice_get ids k ≡ Some p → slice_get ids j ≡ Some q → q ≡ p
      same_id ids k j p q e g h = cc

      union_bytes : (a b c d c' d' : List ℕ) → a ≡ c ++ d → b ≡ c' ++ d' → c ≡ c' → d ≡ d' → a ≡ b
      union_bytes a b c d c' d' l r e f = cc

      union_is : (k j : ℕ) (v w : Value) → k ≡ j → v ≡ w → Value.union k v ≡ Value.union j w
      union_is k j v w e f = cc
  told nodes n (Value.record_of vs) g w a b x y h s t e =
      let parts = RecordFits-from_fits nodes n vs g in
      let is = record_value nodes parts.name parts.aliases parts.fields w (kind_at nodes n (Node.record_of parts.name parts.aliases parts.fields) w parts.is_record h) in
      let other = respelled w (Value.record_of is.0) b is.1 t in
      let each = fields_told nodes (field_ids parts.fields) vs parts.fitting in
      let same = fields_same nodes (field_ids parts.fields) vs is.0 s.0 other.0 x y each parts.fitting is.2 s.1 other.1
      (ap (λ (f : List ℕ). f ++ x) (sym s.2) ∙ e ∙ ap (λ (f : List ℕ). f ++ y) other.2) in
      (s.2 ∙ same.0 ∙ sym other.2, ap Value.record_of same.1 ∙ sym is.1)
  told nodes n (Value.enum k) g w a b x y h s t e =
      let mine = FitsKind-from_fits nodes n (Value.enum k) g in
      let at = enum-from_symbols_of n mine.0 mine.1 in
      let is = enum_value nodes at.0 at.1 mine.0 at.2 w (kind_at nodes n (Node.enum at.0 at.1 mine.0 at.2) w at.3 h) in
      let same = one_spelling_lem (pos k) (pos is.0) a b x y s (respelled w (Value.enum is.0) b is.1 t) e in
      (same.0, ap Value.enum (same_from_pos k is.0 same.1) ∙ sym is.1)
  told nodes n (Value.fixed c) g w a b x y h s t e =
      let mine = FitsKind-from_fits nodes n (Value.fixed c) g in
      let at = fixed-from_fixed_length n mine.1 mine.2 in
      let is = fixed_value nodes at.0 at.1 mine.1 w (kind_at nodes n (Node.fixed at.0 at.1 mine.1) w at.2 h) in
      let other = respelled w (Value.fixed is.0) b is.1 t in
      let same = same_front c is.0 x y (same_length c is.0 mine.1 mine.3 is.2) (ap (λ (f : List ℕ). f ++ x) (sym s) ∙ e ∙ ap (λ (f : List ℕ). f ++ y) other) in
      (s ∙ same.0 ∙ sym other, ap Value.fixed same.0 ∙ sym is.1)

  pub each_told : (nodes : List Node) (n : Node) (vs : Values) → each_fits nodes n vs ≡ true → EachTold nodes n vs
  each_told nodes n no_values h = tt
  each_told nodes n (value v vs) h =
      let parts = and_parts (fits nodes n v) (each_fits nodes n vs) h in (told nodes n v parts.0, each_told nodes n vs parts.1)

  pub entries_told : (nodes : List Node) (n : Node) (es : Entries) → entries_fit nodes n es ≡ true → EntriesTold nodes n es
  entries_told nodes n no_entries h = tt
  entries_told nodes n (entry k v es) h =
      let parts = and_parts (fits nodes n v) (entries_fit nodes n es) h in (told nodes n v parts.0, entries_told nodes n es parts.1)

  pub fields_told : (nodes : List Node) (ids : List ℕ) (vs : Values) → fields_fit nodes ids vs ≡ true → FieldsTold nodes ids vs
  fields_told nodes ids no_values h = tt
  fields_told nodes [] (value v vs) h = absurd (false≢true h)
  fields_told nodes (id ∷ ids) (value v vs) h =
      let parts = and_parts (fits nodes (node_at nodes id) v) (fields_fit nodes ids vs) h in
      (told nodes (node_at nodes id) v parts.0, fields_told nodes ids vs parts.1)

-- the same of encodings
pub one_front : (nodes : List Node) (n : Node) (v w : Value) (a b x y : List ℕ) → Encodes nodes n v a → Encodes nodes n w b → a ++ x ≡ b ++ y
    → (a ≡ b) × (v ≡ w)
one_front nodes n v w a b x y s t e = told nodes n v s.fitting w a b x y t.fitting s.spelled t.spelled e
