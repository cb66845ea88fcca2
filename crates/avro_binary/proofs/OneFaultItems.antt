-- Values of an array and entries of a map have at most one fault.
use Rattle.std.proofs.Common.{◌≡◌, ℕ, ◌-◌, ◌<◌, ◌≤◌, true, false, List, [], ◌++◌, length, sym, ap, ◌∙◌, subst, append-nil, arith}
use Rattle.std.specs.Prelude.{bytes_eq}
use Rattle.std.specs.List.{concat, list_any}
use Rattle.avro_schema.specs.Value.{Values, Entries, values_size, entries_size, keys_of}
use Rattle.avro_schema.specs.Node.{Node}
use Rattle.avro_schema.specs.Fits.{is_text, LimitValues}
use Rattle.avro_cursor.specs.Encoding.{SpellsBytes, EachSpelled, EntriesSpelled}
use Rattle.avro_cursor.specs.Fault.{ReadFault}
use Rattle.avro_cursor.specs.Breaks.{Left, ItemsAreWhole, EntriesAreWhole, KeyBreaks, EntryBreaks, ChildBreaks}
use Rattle.avro_binary.proofs.Front.{same_bytes, IsItem, IsEntryItem, each_told, entries_told, items_are, items_alone, items_same, entries_are, entries_alone, entries_same}
use Rattle.avro_binary.proofs.FrontBlocks.{same_run}
use Rattle.avro_cursor.proofs.public.Fronts.{same_behind}
use Rattle.avro_binary.proofs.NoFrontBlocks.{ItemsFollow, none_after}
use Rattle.avro_binary.proofs.NoFrontItems.{NoneAt, ValuesFollow, values_follow, EntriesFollow, entries_follow, spelled_count, entries_spelled_count}
use Rattle.avro_binary.proofs.OneFaultBlocks.{ItemsOne}
use Rattle.avro_cursor.proofs.public.Behind.{same_moved}
use Rattle.avro_cursor.proofs.public.ElementLaws.{string_is}
use Rattle.avro_cursor.proofs.public.KeySteps.{key_part}

-- bytes that break as a node, where `left` nodes are left, have one fault
abbrev pub OneAt : (ℕ → List ℕ → ReadFault → Type 0) → Type 0
OneAt broken = (left : ℕ) (bytes : List ℕ) (f g : ReadFault) → broken left bytes f → broken left bytes g → f ≡ g

-- items that are whole follow the state before them
abbrev pub WholeFollows : (Left → ℕ → List ℕ → Left → Type 0) → (Left → List (List ℕ) → Type 0) → Type 0
WholeFollows are_whole Follows =
    (left then_left : Left) (count : ℕ) (front : List ℕ) → are_whole left count front then_left
    → (items : List (List ℕ)) × (front ≡ concat items) × (length items ≡ count) × Follows left items

-- where more items are whole, none breaks before their end
pub none_before_whole : (are_whole : Left → ℕ → List ℕ → Left → Type 0) (item_breaks : Left → List ℕ → ReadFault → Type 0) (Follows : Left → List (List ℕ) → Type 0)
    → ItemsFollow (Unit {0}) are_whole item_breaks Follows → WholeFollows are_whole Follows
    → (left : Left) (done count : ℕ) (a b x y : List ℕ) (then_left after_left : Left) (f : ReadFault) → done < count → are_whole left done a then_left
    → are_whole left count b after_left → a ++ x ≡ b ++ y → item_breaks then_left x f → ⊥
none_before_whole are_whole item_breaks Follows kind whole left done count a b x y then_left after_left f below is are e breaks =
    let all = whole left after_left count b are in
    let follows = subst (Follows left) (sym (append-nil all.0)) all.3 in
    let cut = kind.cut left then_left done a all.0 [] y x is follows (omega (arith, all.2, below)) (e ∙ ap (λ (q : List ℕ). q ++ y) all.1) in
    none_after (Unit {0}) are_whole item_breaks Follows kind then_left done a x y f all.0 [] cut (omega (arith, all.2, below)) breaks (λ _. tt)

-- ---- Values

values_whole : (nodes : List Node) (n : Node) (limits : LimitValues) → WholeFollows (ItemsAreWhole nodes limits n) (ValuesFollow (Unit {0}) nodes n limits)
values_whole nodes n limits left then_left count front is = (
  is.items,
  is.bytes_are,
  spelled_count is.values is.items is.spelled ∙ is.counted,
  record { values = is.values; fitting = is.fitting; spelled = is.spelled; small = λ _. (is.deep, is.many, is.long) },
)

values_same : (nodes : List Node) (n : Node) (limits : LimitValues) (left : Left) (count : ℕ) (a b x y : List ℕ) (then_left after_left : Left)
    → ItemsAreWhole nodes limits n left count a then_left → ItemsAreWhole nodes limits n left count b after_left → a ++ x ≡ b ++ y → (a ≡ b) × (then_left ≡ after_left)
values_same nodes n limits left count a b x y then_left after_left is are e =
    let told = each_told nodes n is.values is.fitting in
    let counts = spelled_count is.values is.items is.spelled ∙ is.counted ∙ sym (spelled_count are.values are.items are.spelled ∙ are.counted) in
    let joined : concat is.items ++ x ≡ concat are.items ++ y = ap (λ (q : List ℕ). q ++ x) (sym is.bytes_are) ∙ e ∙ ap (λ (q : List ℕ). q ++ y) are.bytes_are in
    let items = (same_run (IsItem nodes n) is.items are.items x y (items_alone nodes n is.values is.items told is.spelled) (items_are nodes n are.values are.items are.fitting are.spelled)
    counts joined).0 in
    let values = items_same nodes n is.values are.values is.items told are.fitting is.spelled (subst (EachSpelled are.values) (sym items) are.spelled) in
    let state = λ (vs : Values). left_after left (values_size vs) in
    (is.bytes_are ∙ ap concat items ∙ sym are.bytes_are, is.leaves ∙ ap state values ∙ sym are.leaves)
  where
    left_after : Left → ℕ → Left
    left_after l n = record { nodes = l.nodes - n; keys = l.keys }

pub values_one : (nodes : List Node) (n : Node) (limits : LimitValues) (broken : ℕ → List ℕ → ReadFault → Type 0) → NoneAt (Unit {0}) nodes n limits.depth limits.blob broken
    → OneAt broken → ItemsOne (ItemsAreWhole nodes limits n) (λ state. broken state.nodes)
values_one nodes n limits broken none one = record {
  one = λ left bytes f g b c. one left.nodes bytes f g b c;
  same = values_same nodes n limits;
  none = none_before_whole (ItemsAreWhole nodes limits n) (λ state. broken state.nodes) (ValuesFollow (Unit {0}) nodes n limits)
      (values_follow (Unit {0}) nodes n limits broken none) (values_whole nodes n limits);
}

-- ---- Entries

entries_whole : (nodes : List Node) (n : Node) (limits : LimitValues) → WholeFollows (EntriesAreWhole nodes limits n) (EntriesFollow (Unit {0}) nodes n limits)
entries_whole nodes n limits left then_left count front is = (
  is.items,
  is.bytes_are,
  entries_spelled_count is.entries is.items is.spelled ∙ is.counted,
  record {
    entries = is.entries;
    texts = is.texts;
    distinct = is.distinct;
    fitting = is.fitting;
    spelled = is.spelled;
    small = λ _. (is.deep, is.many, is.long);
  },
)

whole_entries_same : (nodes : List Node) (n : Node) (limits : LimitValues) (left : Left) (count : ℕ) (a b x y : List ℕ) (then_left after_left : Left)
    → EntriesAreWhole nodes limits n left count a then_left → EntriesAreWhole nodes limits n left count b after_left → a ++ x ≡ b ++ y → (a ≡ b) × (then_left ≡ after_left)
whole_entries_same nodes n limits left count a b x y then_left after_left is are e =
    let told = entries_told nodes n is.entries is.fitting in
    let counts = entries_spelled_count is.entries is.items is.spelled ∙ is.counted ∙ sym (entries_spelled_count are.entries are.items are.spelled ∙ are.counted) in
    let joined : concat is.items ++ x ≡ concat are.items ++ y = ap (λ (q : List ℕ). q ++ x) (sym is.bytes_are) ∙ e ∙ ap (λ (q : List ℕ). q ++ y) are.bytes_are in
    let items = (same_run (IsEntryItem nodes n) is.items are.items x y (entries_alone nodes n is.entries is.items told is.spelled)
    (entries_are nodes n are.entries are.items are.fitting are.spelled) counts joined).0 in
    let entries = entries_same nodes n is.entries are.entries is.items told are.fitting is.spelled (subst (EntriesSpelled are.entries) (sym items) are.spelled) in
    (is.bytes_are ∙ ap concat items ∙ sym are.bytes_are, is.leaves ∙ ap (left_after left) entries ∙ sym are.leaves)
  where
    left_after : Left → Entries → Left
    left_after l es = record { nodes = l.nodes - entries_size es; keys = l.keys ++ keys_of es }

-- a key that breaks is none that stands
entry_key_none : (keys : List (List ℕ)) (blob : ℕ) (bytes : List ℕ) (f : ReadFault) (key front rest : List ℕ) → KeyBreaks keys blob bytes f → SpellsBytes key front
    → is_text key ≡ true → length key ≤ blob → list_any (bytes_eq key) keys ≡ false → bytes ≡ front ++ rest → ⊥
entry_key_none keys blob bytes f key front rest b s text short new e =
    (key_part keys blob).excludes key front rest f (string_is blob key front s text short, new) (subst (λ (k : List ℕ). KeyBreaks keys blob k f) e b)

entry_one : (nodes : List Node) (n : Node) (limits : LimitValues) (child : ChildBreaks) → OneAt (λ c. child c n) → (left : Left) (bytes : List ℕ) (f g : ReadFault)
    → EntryBreaks limits child n left bytes f → EntryBreaks limits child n left bytes g → f ≡ g
entry_one nodes n limits child one left bytes f g (EntryBreaks.key_breaks b) (EntryBreaks.key_breaks c) = (key_part left.keys limits.blob).one_fault bytes f g b c
entry_one nodes n limits child one left bytes f g (EntryBreaks.key_breaks b) (EntryBreaks.value_breaks key front s text short new after) =
    absurd (entry_key_none left.keys limits.blob bytes f key front after.rest b s text short new after.split)
entry_one nodes n limits child one left bytes f g (EntryBreaks.value_breaks key front s text short new after) (EntryBreaks.key_breaks c) =
    absurd (entry_key_none left.keys limits.blob bytes g key front after.rest c s text short new after.split)
entry_one nodes n limits child one left bytes f g (EntryBreaks.value_breaks key front s text short new after) (EntryBreaks.value_breaks key' front' t text' short' new' after') =
    let joined = sym after.split ∙ after'.split in
    let same = same_bytes key key' front front' after.rest after'.rest s t joined in
    let rests = same_behind front front' after.rest after'.rest same.0 joined in
    same_moved f g after.fault after'.fault front front' after.moved after'.moved same.0
    (one left.nodes after'.rest after.fault after'.fault (subst (λ (r : List ℕ). child left.nodes n r after.fault) rests after.breaks) after'.breaks)

pub entries_one : (nodes : List Node) (n : Node) (limits : LimitValues) (child : ChildBreaks) → NoneAt (Unit {0}) nodes n limits.depth limits.blob (λ c. child c n)
    → OneAt (λ c. child c n) → ItemsOne (EntriesAreWhole nodes limits n) (EntryBreaks limits child n)
entries_one nodes n limits child none one = record {
  one = entry_one nodes n limits child one;
  same = whole_entries_same nodes n limits;
  none = none_before_whole (EntriesAreWhole nodes limits n) (EntryBreaks limits child n) (EntriesFollow (Unit {0}) nodes n limits)
      (entries_follow (Unit {0}) nodes n limits child none) (entries_whole nodes n limits);
}
