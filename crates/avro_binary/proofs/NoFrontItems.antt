-- How values of an array, and entries of a map, go with those that follow.
use Rattle.std.proofs.Common.{◌≡◌, ℕ, suc, ◌+◌, ◌-◌, ◌^◌, ◌<◌, ◌≤◌, true, List, [], ◌∷◌, ◌++◌, length, refl, sym, ap, ◌∙◌, subst, append_assoc, append-nil, arith}
use Rattle.std.specs.Prelude.{bytes_eq}
use Rattle.std.specs.List.{concat, list_all, list_any}
use Rattle.std.specs.Str.{is_utf8}
use Rattle.std.proofs.lemmas.Bool.{and_parts}
use Rattle.avro_schema.specs.Value.{Value, Values, Entries, no_values, value, no_entries, entry, size, depth, longest_blob, values_size, values_depth, values_longest_blob, values_count, entries_size, entries_depth, entries_longest_blob, entries_count, keys_of}
use Rattle.avro_schema.specs.Node.{Node}
use Rattle.avro_schema.specs.Fits.{fits, each_fits, entries_fit, is_count, is_text, LimitValues}
use Rattle.avro_schema.specs.Distinct.{are_distinct}
use Rattle.avro_schema.proofs.public.FitsParts.{is_count-below}
use Rattle.avro_schema.proofs.public.Parts.{size-positive}
use Rattle.avro_cursor.specs.Encoding.{SpellsBytes, Spells, EachSpelled, EntriesSpelled}
use Rattle.avro_cursor.specs.Fault.{ReadFault, limit_exceeded}
use Rattle.avro_cursor.specs.Breaks.{Left, ItemsAreWhole, EntriesAreWhole, KeyBreaks, EntryBreaks, ChildBreaks}
use Rattle.avro_cursor.proofs.public.Fronts.{same_behind}
use Rattle.avro_binary.proofs.Front.{told, same_bytes, same_entry}
use Rattle.avro_binary.proofs.NoFrontBlocks.{IsCut, ItemsFollow, behind_limit}
use Rattle.avro_binary.proofs.NoFrontParts.{content_none, not_before}

-- ---- What is small enough for what is left

abbrev pub IsSmall : ℕ → ℕ → ℕ → Value → Type 0
IsSmall d c b v = (depth v ≤ d) × (size v ≤ c) × (longest_blob v ≤ b)

abbrev pub AreSmall : ℕ → ℕ → ℕ → Values → Type 0
AreSmall d c b vs = (values_depth vs ≤ d) × (values_size vs ≤ c) × (values_longest_blob vs ≤ b)

abbrev pub EntriesSmall : ℕ → ℕ → ℕ → Entries → Type 0
EntriesSmall d c b es = (entries_depth es ≤ d) × (entries_size es ≤ c) × (entries_longest_blob es ≤ b)

pub AreSmall-first : (d c b : ℕ) (v : Value) (vs : Values) → AreSmall d c b (value v vs) → IsSmall d c b v
AreSmall-first d c b v vs h = (omega (arith, h.0), omega (arith, h.1), omega (arith, h.2))

pub AreSmall-others : (d c b : ℕ) (v : Value) (vs : Values) → AreSmall d c b (value v vs) → AreSmall d (c - size v) b vs
AreSmall-others d c b v vs h = (omega (arith, h.0), omega (arith, h.1), omega (arith, h.2))

pub EntriesSmall-first : (d c b : ℕ) (k : List ℕ) (v : Value) (es : Entries) → EntriesSmall d c b (entry k v es) → IsSmall d c b v
EntriesSmall-first d c b k v es h = (omega (arith, h.0), omega (arith, h.1), omega (arith, h.2))

pub EntriesSmall-key : (d c b : ℕ) (k : List ℕ) (v : Value) (es : Entries) → EntriesSmall d c b (entry k v es) → length k ≤ b
EntriesSmall-key d c b k v es h = omega (arith, h.2)

pub EntriesSmall-others : (d c b : ℕ) (k : List ℕ) (v : Value) (es : Entries) → EntriesSmall d c b (entry k v es) → EntriesSmall d (c - size v) b es
EntriesSmall-others d c b k v es h = (omega (arith, h.0), omega (arith, h.1), omega (arith, h.2))

values_count-size : (vs : Values) → values_count vs ≤ values_size vs
values_count-size no_values = omega arith
values_count-size (value v vs) = omega (arith, size-positive v, values_count-size vs)

entries_count-size : (es : Entries) → entries_count es ≤ entries_size es
entries_count-size no_entries = omega arith
entries_count-size (entry k v es) = omega (arith, size-positive v, entries_count-size es)

pub spelled_count : (vs : Values) (items : List (List ℕ)) → EachSpelled vs items → length items ≡ values_count vs
spelled_count no_values items s = ap length s
spelled_count (value v vs) items s = omega (arith, ap length s.4, spelled_count vs s.1 s.3)

pub entries_spelled_count : (es : Entries) (items : List (List ℕ)) → EntriesSpelled es items → length items ≡ entries_count es
entries_spelled_count no_entries items s = ap length s
entries_spelled_count (entry k v es) items s = omega (arith, ap length s.6, entries_spelled_count es s.2 s.5)

-- a block with one more item at its front
cut_more : (Follows : Left → List (List ℕ) → Type 0) (then_left : Left) (done : ℕ) (front item : List ℕ) (block later : List (List ℕ)) (x y : List ℕ)
    → IsCut Follows then_left done front block later x y → IsCut Follows then_left (suc done) (item ++ front) (item ∷ block) later x y
cut_more Follows then_left done front item block later x y cut = record {
  before = item ∷ cut.before;
  after = cut.after;
  parts = ap (λ (is : List (List ℕ)). item ∷ is) cut.parts;
  counted = ap suc cut.counted;
  same = ap (λ (q : List ℕ). item ++ q) cut.same;
  split = cut.split;
  follows = cut.follows;
}

-- ---- Values

-- bytes that break as a node, where `left` nodes are left, begin with no value of it; a limit that is passed tells W,
-- and W that the value is within limits
abbrev pub NoneAt : Type 0 → List Node → Node → ℕ → ℕ → (ℕ → List ℕ → ReadFault → Type 0) → Type 0
NoneAt W nodes n d b broken =
    (left : ℕ) (bytes : List ℕ) (f : ReadFault) → broken left bytes f → (f ≡ limit_exceeded → W) → (v : Value) (front rest : List ℕ)
    → fits nodes n v ≡ true → Spells v front → (W → IsSmall d left b v) → bytes ≡ front ++ rest → ⊥

-- values that follow
pub record ValuesFollow (W : Type 0) (nodes : List Node) (n : Node) (limits : LimitValues) (left : Left) (items : List (List ℕ)) : Type 0 where
  pub values : Values
  pub fitting : each_fits nodes n values ≡ true
  pub spelled : EachSpelled values items
  pub small : W → AreSmall limits.depth left.nodes limits.blob values

pub cut_values : (W : Type 0) (nodes : List Node) (n : Node) (limits : LimitValues) (left : Left) (vs ws : Values) (items block later : List (List ℕ)) (x y : List ℕ)
    → each_fits nodes n vs ≡ true → EachSpelled vs items → each_fits nodes n ws ≡ true → EachSpelled ws (block ++ later)
    → (W → AreSmall limits.depth left.nodes limits.blob ws) → values_count vs ≤ length block → concat items ++ y ≡ concat block ++ x
    → IsCut (ValuesFollow W nodes n limits) (record { nodes = left.nodes - values_size vs; keys = left.keys }) (values_count vs) (concat items) block later x y
cut_values W nodes n limits left no_values ws items block later x y g s h t small l e = record {
  before = [];
  after = block;
  parts = refl;
  counted = refl;
  same = ap concat s;
  split = ap (λ (is : List (List ℕ)). concat is ++ y) (sym s) ∙ e;
  follows = record { values = ws; fitting = h; spelled = t; small = λ w. let k = small w in (k.0, omega (arith, k.1), k.2) };
}
cut_values W nodes n limits left (value v vs) ws items [] later x y g s h t small l e = absurd (omega arith)
cut_values W nodes n limits left (value v vs) no_values items (i ∷ block) later x y g s h t small l e = absurd cc
cut_values W nodes n limits left (value v vs) (value w ws) items (i ∷ block) later x y g s h t small l e =
    let mine = and_parts (fits nodes n v) (each_fits nodes n vs) g in
    let parts = and_parts (fits nodes n w) (each_fits nodes n ws) h in
    let whole = t.4 in
    let head : t.0 ≡ i = cc in
    let tail : t.1 ≡ block ++ later = cc in
    let joined : s.0 ++ (concat s.1 ++ y) ≡ i ++ (concat block ++ x) =
    sym (append_assoc s.0 (concat s.1) y) ∙ ap (λ (is : List (List ℕ)). concat is ++ y) (sym s.4) ∙ e ∙ append_assoc i (concat block) x in
    let first = told nodes n v mine.0 w s.0 i (concat s.1 ++ y) (concat block ++ x) parts.0 s.2 (subst (Spells w) head t.2) joined in
    let sizes : size v ≡ size w = ap size first.1 in
    let state : Left = record { nodes = left.nodes - size w; keys = left.keys } in
    let rest = cut_values W nodes n limits state vs ws s.1 block later x y mine.1 s.3 parts.1 (subst (EachSpelled ws) tail t.3)
    (λ u. AreSmall-others limits.depth left.nodes limits.blob w ws (small u)) (omega arith) (same_behind s.0 i (concat s.1 ++ y) (concat block ++ x) first.0 joined) in
    let nodes_left : left.nodes - size w - values_size vs ≡ left.nodes - (size v + values_size vs) = omega arith in
    let front : i ++ concat s.1 ≡ concat items = ap (λ (q : List ℕ). q ++ concat s.1) (sym first.0) ∙ sym (ap concat s.4) in
    let Follows = ValuesFollow W nodes n limits in
    let after : Left = record { nodes = left.nodes - size w - values_size vs; keys = left.keys } in
    let more = cut_more Follows after (values_count vs) (concat s.1) i block later x y rest in
    subst (λ (q : List ℕ). IsCut Follows (record { nodes = left.nodes - (size v + values_size vs); keys = left.keys }) (suc (values_count vs)) q (i ∷ block) later x y) front
    (subst (λ (c : ℕ). IsCut Follows (record { nodes = c; keys = left.keys }) (suc (values_count vs)) (i ++ concat s.1) (i ∷ block) later x y) nodes_left more)

pub values_follow : (W : Type 0) (nodes : List Node) (n : Node) (limits : LimitValues) (broken : ℕ → List ℕ → ReadFault → Type 0)
    → NoneAt W nodes n limits.depth limits.blob broken
    → ItemsFollow W (ItemsAreWhole nodes limits n) (λ state. broken state.nodes) (ValuesFollow W nodes n limits)
values_follow W nodes n limits broken none = record {
  few = λ left items follows w. omega (arith, (follows.small w).1, values_count-size follows.values, spelled_count follows.values items follows.spelled);
  cut = λ left then_left done front block later x y is follows l e.
      let cut = cut_values W nodes n limits left is.values follows.values is.items block later x y is.fitting is.spelled follows.fitting follows.spelled follows.small
      (omega (arith, is.counted)) (ap (λ (q : List ℕ). q ++ y) (sym is.bytes_are) ∙ e) in
      record {
        before = cut.before;
        after = cut.after;
        parts = cut.parts;
        counted = cut.counted ∙ is.counted;
        same = is.bytes_are ∙ cut.same;
        split = cut.split;
        follows = subst (λ (s : Left). ValuesFollow W nodes n limits s (cut.after ++ later)) (sym is.leaves) cut.follows;
      };
  none = λ left bytes f item items rest b limit follows e. first_none left bytes f item items rest follows.values b limit follows.fitting follows.spelled follows.small e;
}
  where
    first_none : (left : Left) (bytes : List ℕ) (f : ReadFault) (item : List ℕ) (items : List (List ℕ)) (rest : List ℕ) (vs : Values) → broken left.nodes bytes f
        → (f ≡ limit_exceeded → W) → each_fits nodes n vs ≡ true → EachSpelled vs (item ∷ items) → (W → AreSmall limits.depth left.nodes limits.blob vs)
        → bytes ≡ item ++ rest → ⊥
    first_none left bytes f item items rest no_values b limit h s small e = cc
    first_none left bytes f item items rest (value v vs) b limit h s small e =
        let parts = and_parts (fits nodes n v) (each_fits nodes n vs) h in
        let whole = s.4 in
        let same : s.0 ≡ item = cc in
        none left.nodes bytes f b limit v item rest parts.0 (subst (Spells v) same s.2)
        (λ w. AreSmall-first limits.depth left.nodes limits.blob v vs (small w)) e

-- ---- Entries

-- entries that follow, no key of which occurs before
pub record EntriesFollow (W : Type 0) (nodes : List Node) (n : Node) (limits : LimitValues) (left : Left) (items : List (List ℕ)) : Type 0 where
  pub entries : Entries
  pub texts : list_all is_text (keys_of entries) ≡ true
  pub distinct : are_distinct bytes_eq (left.keys ++ keys_of entries) ≡ true
  pub fitting : entries_fit nodes n entries ≡ true
  pub spelled : EntriesSpelled entries items
  pub small : W → EntriesSmall limits.depth left.nodes limits.blob entries

pub cut_entries : (W : Type 0) (nodes : List Node) (n : Node) (limits : LimitValues) (left : Left) (es fs : Entries) (items block later : List (List ℕ)) (x y : List ℕ)
    → entries_fit nodes n es ≡ true → EntriesSpelled es items → list_all is_text (keys_of fs) ≡ true
    → are_distinct bytes_eq (left.keys ++ keys_of fs) ≡ true → entries_fit nodes n fs ≡ true → EntriesSpelled fs (block ++ later)
    → (W → EntriesSmall limits.depth left.nodes limits.blob fs) → entries_count es ≤ length block → concat items ++ y ≡ concat block ++ x
    → IsCut (EntriesFollow W nodes n limits) (record { nodes = left.nodes - entries_size es; keys = left.keys ++ keys_of es }) (entries_count es) (concat items) block later x y
cut_entries W nodes n limits left no_entries fs items block later x y g s texts distinct h t small l e = record {
  before = [];
  after = block;
  parts = refl;
  counted = refl;
  same = ap concat s;
  split = ap (λ (is : List (List ℕ)). concat is ++ y) (sym s) ∙ e;
  follows = record {
    entries = fs;
    texts = texts;
    distinct = subst (λ (ks : List (List ℕ)). are_distinct bytes_eq (ks ++ keys_of fs) ≡ true) (sym (append-nil left.keys)) distinct;
    fitting = h;
    spelled = t;
    small = λ w. let k = small w in (k.0, omega (arith, k.1), k.2);
  };
}
cut_entries W nodes n limits left (entry k v es) fs items [] later x y g s texts distinct h t small l e = absurd (omega arith)
cut_entries W nodes n limits left (entry k v es) no_entries items (i ∷ block) later x y g s texts distinct h t small l e = absurd cc
cut_entries W nodes n limits left (entry k v es) (entry j w fs) items (i ∷ block) later x y g s texts distinct h t small l e =
    let mine = and_parts (fits nodes n v) (entries_fit nodes n es) g in
    let parts = and_parts (fits nodes n w) (entries_fit nodes n fs) h in
    let keys = and_parts (is_text j) (list_all is_text (keys_of fs)) texts in
    let whole = t.6 in
    let head : t.0 ++ t.1 ≡ i = cc in
    let tail : t.2 ≡ block ++ later = cc in
    let joined : s.0 ++ s.1 ++ (concat s.2 ++ y) ≡ i ++ (concat block ++ x) =
    sym (append_assoc (s.0 ++ s.1) (concat s.2) y) ∙ ap (λ (is : List (List ℕ)). concat is ++ y) (sym s.6) ∙ e ∙ append_assoc i (concat block) x in
    let joined' : s.0 ++ s.1 ++ (concat s.2 ++ y) ≡ t.0 ++ t.1 ++ (concat block ++ x) = joined ∙ ap (λ (q : List ℕ). q ++ (concat block ++ x)) (sym head) in
    let first = same_entry nodes n k j v w s.0 t.0 s.1 t.1 (concat s.2 ++ y) (concat block ++ x) (told nodes n v mine.0) parts.0 s.3 t.3 s.4 t.4 joined' in
    let front : s.0 ++ s.1 ≡ i = ap (λ (q : List ℕ). q ++ s.1) first.2 ∙ ap (λ (q : List ℕ). t.0 ++ q) first.3 ∙ head in
    let sizes : size v ≡ size w = ap size first.1 in
    let state : Left = record { nodes = left.nodes - size w; keys = left.keys ++ j ∷ [] } in
    let distinct' = subst (λ (ks : List (List ℕ)). are_distinct bytes_eq ks ≡ true) (sym (append_assoc left.keys (j ∷ []) (keys_of fs))) distinct in
    let rest = cut_entries W nodes n limits state es fs s.2 block later x y mine.1 s.5 keys.1 distinct' parts.1 (subst (EntriesSpelled fs) tail t.5)
    (λ u. EntriesSmall-others limits.depth left.nodes limits.blob j w fs (small u)) (omega arith)
    (same_behind (s.0 ++ s.1) i (concat s.2 ++ y) (concat block ++ x) front joined) in
    let nodes_left : left.nodes - size w - entries_size es ≡ left.nodes - (size v + entries_size es) = omega arith in
    let keys_left : left.keys ++ j ∷ [] ++ keys_of es ≡ left.keys ++ (k ∷ keys_of es) =
    append_assoc left.keys (j ∷ []) (keys_of es) ∙ ap (λ (q : List ℕ). left.keys ++ (q ∷ keys_of es)) (sym first.0) in
    let fronts : i ++ concat s.2 ≡ concat items = ap (λ (q : List ℕ). q ++ concat s.2) (sym front) ∙ sym (ap concat s.6) in
    let Follows = EntriesFollow W nodes n limits in
    let after : Left = record { nodes = left.nodes - size w - entries_size es; keys = left.keys ++ j ∷ [] ++ keys_of es } in
    let more = cut_more Follows after (entries_count es) (concat s.2) i block later x y rest in
    subst (λ (q : List ℕ). IsCut Follows (record { nodes = left.nodes - (size v + entries_size es); keys = left.keys ++ (k ∷ keys_of es) }) (suc (entries_count es)) q (i ∷ block) later x y)
    fronts
    (subst (λ (c : ℕ). IsCut Follows (record { nodes = c; keys = left.keys ++ (k ∷ keys_of es) }) (suc (entries_count es)) (i ++ concat s.2) (i ∷ block) later x y) nodes_left
    (subst (λ (ks : List (List ℕ)). IsCut Follows (record { nodes = left.nodes - size w - entries_size es; keys = ks }) (suc (entries_count es)) (i ++ concat s.2) (i ∷ block) later x y)
    keys_left more))

-- a text is not too long for its length, and valid
pub is_text-short : (t : List ℕ) → is_text t ≡ true → length t < 2 ^ 63
is_text-short t h = is_count-below (length t) (and_parts (is_count (length t)) (is_utf8 t) h).0

pub is_text-valid : (t : List ℕ) → is_text t ≡ true → is_utf8 t ≡ true
is_text-valid t h = (and_parts (is_count (length t)) (is_utf8 t) h).1

-- an entry that breaks begins with no entry
pub entry_none : (W : Type 0) (nodes : List Node) (limits : LimitValues) (child : ChildBreaks) (n : Node) (left : Left) (bytes : List ℕ) (f : ReadFault)
    (k : List ℕ) (v : Value) (ks : List (List ℕ)) (key first rest : List ℕ) → NoneAt W nodes n limits.depth limits.blob (λ c. child c n)
    → EntryBreaks limits child n left bytes f → (f ≡ limit_exceeded → W) → is_text k ≡ true → are_distinct bytes_eq (left.keys ++ k ∷ ks) ≡ true
    → (W → length k ≤ limits.blob) → SpellsBytes k key → fits nodes n v ≡ true → Spells v first → (W → IsSmall limits.depth left.nodes limits.blob v)
    → bytes ≡ key ++ (first ++ rest) → ⊥
entry_none W nodes limits child n left bytes f k v ks key first rest none (EntryBreaks.key_breaks (KeyBreaks.string_breaks b)) limit text distinct short s h t small e =
    content_none W is_utf8 limits.blob bytes f k key (first ++ rest) b limit short s (is_text-short k text) (is_text-valid k text) e
entry_none W nodes limits child n left bytes _ k v ks key first rest none (EntryBreaks.key_breaks (KeyBreaks.twice other front x u good len split again)) limit text distinct short s h t small e =
    let same = (same_bytes other k front key x (first ++ rest) u s (sym split ∙ e)).1 in
    not_before left.keys k ks distinct (subst (λ (q : List ℕ). list_any (bytes_eq q) left.keys ≡ true) same again)
entry_none W nodes limits child n left bytes f k v ks key first rest none (EntryBreaks.value_breaks other front u good len new after) limit text distinct short s h t small e =
    let same = same_bytes other k front key after.rest (first ++ rest) u s (sym after.split ∙ e) in
    none left.nodes after.rest after.fault after.breaks (behind_limit f after.fault (length front) W after.moved limit) v first rest h t small
    (same_behind front key after.rest (first ++ rest) same.0 (sym after.split ∙ e))

pub entries_follow : (W : Type 0) (nodes : List Node) (n : Node) (limits : LimitValues) (child : ChildBreaks) → NoneAt W nodes n limits.depth limits.blob (λ c. child c n)
    → ItemsFollow W (EntriesAreWhole nodes limits n) (EntryBreaks limits child n) (EntriesFollow W nodes n limits)
entries_follow W nodes n limits child none = record {
  few = λ left items follows w. omega (arith, (follows.small w).1, entries_count-size follows.entries, entries_spelled_count follows.entries items follows.spelled);
  cut = λ left then_left done front block later x y is follows l e.
      let cut = cut_entries W nodes n limits left is.entries follows.entries is.items block later x y is.fitting is.spelled follows.texts follows.distinct follows.fitting follows.spelled
      follows.small (omega (arith, is.counted)) (ap (λ (q : List ℕ). q ++ y) (sym is.bytes_are) ∙ e) in
      record {
        before = cut.before;
        after = cut.after;
        parts = cut.parts;
        counted = cut.counted ∙ is.counted;
        same = is.bytes_are ∙ cut.same;
        split = cut.split;
        follows = subst (λ (s : Left). EntriesFollow W nodes n limits s (cut.after ++ later)) (sym is.leaves) cut.follows;
      };
  none = λ left bytes f item items rest b limit follows e.
      first_none left bytes f item items rest follows.entries b limit follows.texts follows.distinct follows.fitting follows.spelled follows.small e;
}
  where
    first_none : (left : Left) (bytes : List ℕ) (f : ReadFault) (item : List ℕ) (items : List (List ℕ)) (rest : List ℕ) (es : Entries) → EntryBreaks limits child n left bytes f
        → (f ≡ limit_exceeded → W) → list_all is_text (keys_of es) ≡ true → are_distinct bytes_eq (left.keys ++ keys_of es) ≡ true → entries_fit nodes n es ≡ true
        → EntriesSpelled es (item ∷ items) → (W → EntriesSmall limits.depth left.nodes limits.blob es) → bytes ≡ item ++ rest → ⊥
    first_none left bytes f item items rest no_entries b limit texts distinct h s small e = cc
    first_none left bytes f item items rest (entry k v es) b limit texts distinct h s small e =
        let parts = and_parts (fits nodes n v) (entries_fit nodes n es) h in
        let text = (and_parts (is_text k) (list_all is_text (keys_of es)) texts).0 in
        let whole = s.6 in
        let same : item ≡ s.0 ++ s.1 = cc in
        entry_none W nodes limits child n left bytes f k v (keys_of es) s.0 s.1 rest none b limit text distinct
        (λ w. EntriesSmall-key limits.depth left.nodes limits.blob k v es (small w)) s.3 parts.0 s.4
        (λ w. EntriesSmall-first limits.depth left.nodes limits.blob k v es (small w))
        (e ∙ ap (λ (q : List ℕ). q ++ rest) same ∙ append_assoc s.0 s.1 rest)
