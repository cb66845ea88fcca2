-- Parents of places, as they are put.
use Rattle.avro_schema_json.proofs.Words.{◌≡◌, [], ◌==◌, ℕ, ◌+◌, ◌/◌, ◌%◌, ◌<◌, ◌≤◌, Bool, true, false, cond, List, ◌∷◌, ◌⊎◌, inl, inr, length, set, get_or, Option, Some, None, refl, sym, subst, ◌∙◌, arith, Vec, bit_at, bit_or, Decides-eqb, bit_at_and, none-some, same_Some, slice_get_read, length-map, Name, Node, FieldNode, ids_of, NodeId, place_of, own_ids, Label, Numbered, IsWithin, has_place, Parents, Under, Places, has_bit, has_parent_in, has_parent_at, has_parent_of, label_of, Follows, HasParent, HasParts, IsField, AreFields, IsParent, KeepsPlaces, KeepsParents, KeepsLabels, Equal-is, RowWord, ◌++◌, ap, slice_get, slice_get_within, slice_get-get_or}
use Rattle.std.specs.Prelude.{Contains, bytes_eq}
use Rattle.std.specs.Ordering.{nat_cmp, is_eq}
use Rattle.std.specs.BTreeMap.{is_at, get}
use Rattle.std.specs.Map.{lookup}
use Rattle.std.proofs.lemmas.Map.Lookups.{exact_unsigned}
use Rattle.avro_schema_json.specs.inside.Parents.{number_of}
unfoldable use Rattle.avro_schema_json.specs.inside.Parents.{has_parent}
use lib.Bits.{bit_and}
use Rattle.avro_schema_json.proofs.RowsSeen.{bit-of, more-left, no-bit, of-bit}
use Rattle.avro_schema_json.proofs.EachSeen.{append-at, append-before, Before, before-all, before-next, exact-texts, put-each, set-each, set-there}

-- ---- words with bits

-- bits are added to a word
pub bit-kept : (words : List RowWord) (i more p : ℕ) (old : RowWord) → i < length words → old ≡ get_or words i old → has_bit words p
    → has_bit (set words i (record { index = old.index; bits = bit_or old.bits more })) p
bit-kept words i more p old below at h =
    let was = bit-of words p h in
    let is = set-each words i new Keeps below (λ k word there here bit. (word, there, here, bit)) this was.0 was.1 was.2 was.3 was.4 in
    of-bit (set words i new) was.0 p is.0 is.1 is.2 is.3
  where
    new : RowWord
    new = record { index = old.index; bits = bit_or old.bits more }

    Keeps : ℕ → Option RowWord → Type 0
    Keeps k o = (word : RowWord) → slice_get words k ≡ Some word → word.index ≡ p / 64 → bit_at word.bits (p % 64) ≡ 1
        → (later : RowWord) × (o ≡ Some later) × (later.index ≡ p / 64) × (bit_at later.bits (p % 64) ≡ 1)

    this : Keeps i (Some new)
    this word there here bit =
        let same : old ≡ word = same_Some old word (sym (slice_get_read words (length words) i old refl below at) ∙ there) in (
          new,
          refl,
          ap (λ (w : RowWord). w.index) same ∙ here,
          more-left old.bits more (p % 64) (subst (λ (w : RowWord). bit_at w.bits (p % 64) ≡ 1) (sym same) bit),
        )

pub bit-set : (words : List RowWord) (i p : ℕ) (word : RowWord) → i < length words → word.index ≡ p / 64 → bit_at word.bits (p % 64) ≡ 1 → has_bit (set words i word) p
bit-set words i p word below here bit = of-bit (set words i word) i p word (set-there words i word below) here bit

-- a word is put after the others
pub bit-before : (words later : List RowWord) (word : RowWord) (p : ℕ) → later ≡ words ++ word ∷ [] → has_bit words p → has_bit later p
bit-before words later word p is h =
    let was = bit-of words p h in
    let kept = append-before words (word ∷ []) was.0 (slice_get_within words was.0 was.1 was.2) in
    of-bit later was.0 p was.1 (ap (λ ws. slice_get ws was.0) is ∙ kept ∙ was.2) was.3 was.4

pub bit-last : (words later : List RowWord) (word : RowWord) (p : ℕ) → later ≡ words ++ word ∷ [] → word.index ≡ p / 64 → bit_at word.bits (p % 64) ≡ 1 → has_bit later p
bit-last words later word p is here bit =
    of-bit later (length words + 0) p word (ap (λ ws. slice_get ws (length words + 0)) is ∙ append-at words (word ∷ []) (length words) 0 refl) here bit

-- the bits of the first words are added to a row
abbrev pub AreWordsAdded : List RowWord → List ℕ → List ℕ → ℕ → Type 0
AreWordsAdded words old new i =
    IsWithin old new × Before words (λ k word. (p : ℕ) → p / 64 ≡ word.index → bit_at word.bits (p % 64) ≡ 1 → has_place new p ≡ true) i

pub word-added : (words : List RowWord) (i : ℕ) (d : RowWord) (first old new : List ℕ) → i < length words → IsWithin old new
    → ((p : ℕ) → p / 64 ≡ (get_or words i d).index → bit_at (get_or words i d).bits (p % 64) ≡ 1 → has_place new p ≡ true)
    → AreWordsAdded words first old i → AreWordsAdded words first new (i + 1)
word-added words i d first old new below within this before = (
  λ p there. within p (before.0 p there),
  before-next words i (get_or words i d) (λ k w. (p : ℕ) → p / 64 ≡ w.index → bit_at w.bits (p % 64) ≡ 1 → has_place old p ≡ true)
      (λ k w. (p : ℕ) → p / 64 ≡ w.index → bit_at w.bits (p % 64) ≡ 1 → has_place new p ≡ true) (slice_get-get_or words i d below)
      (λ k w has p here bit. within p (has p here bit)) this before.1,
)

pub words-added : (words : List RowWord) (i : ℕ) (old new : List ℕ) → length words ≤ i → AreWordsAdded words old new i → (p : ℕ) → has_bit words p → has_place new p ≡ true
words-added words i old new past added p has =
    let is = bit-of words p has in
    before-all words i (λ k w. (q : ℕ) → q / 64 ≡ w.index → bit_at w.bits (q % 64) ≡ 1 → has_place new q ≡ true) past added.1 is.0 is.1 is.2 p (sym is.3) is.4

-- ---- 64 places

parent-of : (all : List Places) (i p : ℕ) → has_parent all i p
    → (at : ℕ) × (places : Places) × (slice_get all at ≡ Some places) × (bit_at places.mask i ≡ 1) × has_bit places.parents.items p
unfolding has_parent
parent-of all i p h = h

of-parent : (all : List Places) (at i p : ℕ) (places : Places) → slice_get all at ≡ Some places → bit_at places.mask i ≡ 1 → has_bit places.parents.items p → has_parent all i p
unfolding has_parent
of-parent all at i p places there bit has = (at, places, there, bit, has)

-- parents are added to those of some places
pub places-kept : (all : List Places) (k : ℕ) (old new : Places) → k < length all → old ≡ get_or all k old → new.mask ≡ old.mask
    → ((p : ℕ) → has_bit old.parents.items p → has_bit new.parents.items p) → KeepsPlaces all (set all k new)
places-kept all k old new below at mask kept i p h =
    let was = parent-of all i p h in
    let is = set-each all k new Keeps below (λ j places there bit has. (places, there, bit, has)) this was.0 was.1 was.2 was.3 was.4 in
    of-parent (set all k new) was.0 i p is.0 is.1 is.2 is.3
  where
    Keeps : ℕ → Option Places → Type 0
    Keeps j o = (places : Places) → slice_get all j ≡ Some places → bit_at places.mask i ≡ 1 → has_bit places.parents.items p
        → (later : Places) × (o ≡ Some later) × (bit_at later.mask i ≡ 1) × has_bit later.parents.items p

    this : Keeps k (Some new)
    this places there bit has =
        let same : old ≡ places = same_Some old places (sym (slice_get_read all (length all) k old refl below at) ∙ there) in (
          new,
          refl,
          ap (λ m. bit_at m i) (mask ∙ ap (λ (q : Places). q.mask) same) ∙ bit,
          kept p (subst (λ (q : Places). has_bit q.parents.items p) (sym same) has),
        )

pub parent-set : (all : List Places) (k i p : ℕ) (places : Places) → k < length all → bit_at places.mask i ≡ 1 → has_bit places.parents.items p → has_parent (set all k places) i p
parent-set all k i p places below bit has = of-parent (set all k places) k i p places (set-there all k places below) bit has

-- places are put after the others
pub parent-before : (all later : List Places) (places : Places) → later ≡ all ++ places ∷ [] → KeepsPlaces all later
parent-before all later places is i p h =
    let was = parent-of all i p h in
    let kept = append-before all (places ∷ []) was.0 (slice_get_within all was.0 was.1 was.2) in
    of-parent later was.0 i p was.1 (ap (λ ps. slice_get ps was.0) is ∙ kept ∙ was.2) was.3 was.4

pub parent-last : (all later : List Places) (places : Places) (i p : ℕ) → later ≡ all ++ places ∷ [] → bit_at places.mask i ≡ 1 → has_bit places.parents.items p → has_parent later i p
parent-last all later places i p is bit has =
    of-parent later (length all + 0) i p places (ap (λ ps. slice_get ps (length all + 0)) is ∙ append-at all (places ∷ []) (length all) 0 refl) bit has

-- the parents of the first places that are among bits are added to a row
abbrev pub AreAdded : List Places → ℕ → List ℕ → List ℕ → ℕ → Type 0
AreAdded all among old new count =
    IsWithin old new × Before all (λ k places. (i p : ℕ) → bit_at among i ≡ 1 → bit_at places.mask i ≡ 1 → has_bit places.parents.items p → has_place new p ≡ true) count

pub added-next : (all : List Places) (count among : ℕ) (places : Places) (first old new : List ℕ) → count < length all → places ≡ get_or all count places → IsWithin old new
    → ((i p : ℕ) → bit_at among i ≡ 1 → bit_at places.mask i ≡ 1 → has_bit places.parents.items p → has_place new p ≡ true)
    → AreAdded all among first old count → AreAdded all among first new (count + 1)
added-next all count among places first old new below at within this before = (
  λ p there. within p (before.0 p there),
  before-next all count places (λ k q. (i p : ℕ) → bit_at among i ≡ 1 → bit_at q.mask i ≡ 1 → has_bit q.parents.items p → has_place old p ≡ true)
      (λ k q. (i p : ℕ) → bit_at among i ≡ 1 → bit_at q.mask i ≡ 1 → has_bit q.parents.items p → has_place new p ≡ true) (slice_get_read all (length all) count places refl below at)
      (λ k q has i p there bit here. within p (has i p there bit here)) this before.1,
)

-- bits that share none
pub none-shared : (a b i : ℕ) → bit_and a b ≡ 0 → bit_at a i ≡ 1 → bit_at b i ≡ 1 → ⊥
none-shared a b i none here there = absurd (no-bit i (bit_and a b) none (grind (arith, bit_at_and, here, there)))

pub all-added : (all : List Places) (count among : ℕ) (old new : List ℕ) → length all ≤ count → AreAdded all among old new count
    → (i p : ℕ) → bit_at among i ≡ 1 → has_parent all i p → has_place new p ≡ true
all-added all count among old new past added i p there has =
    let is = parent-of all i p has in
    before-all all count (λ k q. (j r : ℕ) → bit_at among j ≡ 1 → bit_at q.mask j ≡ 1 → has_bit q.parents.items r → has_place new r ≡ true) past added.1 is.0 is.1 is.2 i p there is.3 is.4

-- ---- places that are left

pub same_key : (a b : ℕ) → is_eq (nat_cmp a b) ≡ true → a ≡ b
same_key a b h = exact_unsigned a b ((Equal-is (nat_cmp a b)).0 h)

-- a parent of a place is among entries
abbrev pub has_left : List (ℕ × Vec Places) → ℕ → ℕ → Type 0
has_left left place p = has_parent_in (lookup (is_at (nat_cmp (place / 64))) left) (place % 64) p

-- the parents under a label of what is in a row are found, or left
abbrev pub IsGathered : Parents → ℕ → List (ℕ × Vec Places) → List ℕ → List ℕ → Type 0
IsGathered parents label left row found =
    (y p : ℕ) → has_place row y ≡ true → has_parent_of parents y label p → (has_place found p ≡ true) ⊎ has_left left y p

pub gathered-none : (parents : Parents) (label : ℕ) (under : Under) (left : List (ℕ × Vec Places)) (row found : List ℕ) → get nat_cmp parents label ≡ Some under
    → left ≡ under.entries → IsGathered parents label left row found
gathered-none parents label under left row found at all = λ y p there has.
    inr (subst (λ (es : List (ℕ × Vec Places)). has_left es y p) (sym all) (subst (λ (o : Option Under). has_parent_at o y p) at has))

-- in the first word that is left, or in another
left-either : (left rest : List (ℕ × Vec Places)) (word : ℕ) (places : Vec Places) (y p : ℕ) → left ≡ (word, places) ∷ rest → has_left left y p
    → ((y / 64 ≡ word) × has_parent places.items (y % 64) p) ⊎ has_left rest y p
left-either left rest word places y p step h =
    by (is_eq (nat_cmp (y / 64) word)) refl (subst (λ (es : List (ℕ × Vec Places)). has_left es y p) step h)
  where
    by : (b : Bool) → is_eq (nat_cmp (y / 64) word) ≡ b
        → has_parent_in (cond (is_eq (nat_cmp (y / 64) word)) (Some places) (lookup (is_at (nat_cmp (y / 64))) rest)) (y % 64) p
        → ((y / 64 ≡ word) × has_parent places.items (y % 64) p) ⊎ has_left rest y p
    by true e here = inl (same_key (y / 64) word e, rw e at here)
    by false e here = inr (rw e at here)

pub gathered-next : (parents : Parents) (label : ℕ) (left rest : List (ℕ × Vec Places)) (word among : ℕ) (places : Vec Places) (row old new : List ℕ)
    → left ≡ (word, places) ∷ rest → IsWithin old new → ((y : ℕ) → y / 64 ≡ word → has_place row y ≡ (bit_at among (y % 64) == 1))
    → ((i p : ℕ) → bit_at among i ≡ 1 → has_parent places.items i p → has_place new p ≡ true)
    → IsGathered parents label left row old → IsGathered parents label rest row new
gathered-next parents label left rest word among places row old new step within bits added gathered = λ y p there has. elim (gathered y p there has) [
  | inl before ↦ inl (within p before)
  | inr later ↦ elim (left-either left rest word places y p step later) [
    | inl here ↦ inl (added (y % 64) p ((Decides-eqb (bit_at among (y % 64)) 1).0 (sym (bits y here.0) ∙ there)) here.1)
    | inr after ↦ inr after
  ]
]

pub gathered-all : (parents : Parents) (label : ℕ) (left : List (ℕ × Vec Places)) (row found : List ℕ) → left ≡ [] → IsGathered parents label left row found
    → Follows parents label row found
gathered-all parents label left row found none gathered = λ y p there has. elim (gathered y p there has) [
  | inl before ↦ before
  | inr later ↦ absurd (subst (λ (es : List (ℕ × Vec Places)). has_left es y p) none later)
]

-- no parents under a label
pub none-under : (parents : Parents) (place label p : ℕ) → get nat_cmp parents label ≡ None → has_parent_of parents place label p → ⊥
none-under parents place label p none has = subst (λ (o : Option Under). has_parent_at o place p) none has

pub follows-none : (parents : Parents) (label : ℕ) (row found : List ℕ) → get nat_cmp parents label ≡ None → Follows parents label row found
follows-none parents label row found none = λ y p there has. absurd (none-under parents y label p none has)

-- ---- labels

pub label-kept : (old new : Numbered) (name : List ℕ) (label : ℕ) → label_of old name ≡ None
    → ((word : List ℕ) → label_of new word ≡ cond (bytes_eq name word) (Some label) (label_of old word)) → KeepsLabels old new
label-kept old new name label fresh put = grind (arith, exact-texts, none-some, put-each)

-- ---- what is kept by a key

-- a key is taken out, and put in again
pub kept-by : {K V : Type 0} (same : K → K → Bool) → ((a b : K) → same a b ≡ true → a ≡ b) → (has : Option V → ℕ → ℕ → Type 0) (old mid new : K → Option V) (key : K) (v : V)
    → ((q : K) → mid q ≡ cond (same key q) None (old q)) → ((q : K) → new q ≡ cond (same key q) (Some v) (mid q))
    → ((i p : ℕ) → has (old key) i p → has (Some v) i p) → (k : K) (i p : ℕ) → has (old k) i p → has (new k) i p
kept-by same exact has old mid new key v removed put = grind (arith, put-each)

-- ---- parents of all places

pub names-on : (a b c : Numbered) → KeepsLabels a b → KeepsLabels b c → KeepsLabels a c
names-on a b c first second = λ name number at. second name number (first name number at)

pub keeps-on : (a b c : Parents) → KeepsParents a b → KeepsParents b c → KeepsParents a c
keeps-on a b c first second = λ part number p h. second part number p (first part number p h)

-- ---- nodes

pub parts-all : (last i number parent : ℕ) (ids : List NodeId) (parents : Parents) → length ids ≤ i
    → Before (ids_of ids) (λ k y. has_parent_of parents (place_of last y) number parent) i → HasParts last (ids_of ids) parents number parent
parts-all last i number parent ids parents past each y among = grind (arith, before-all, length-map, slice_get_read)

-- ---- fields

pub field-kept : (nodes : List Node) (last : ℕ) (labels more : Numbered) (old new : Parents) (f : FieldNode) (p : ℕ)
    → KeepsLabels labels more → KeepsParents old new → IsField nodes last labels old f p → IsField nodes last more new f p
field-kept nodes last labels more old new f p names kept h = grind arith

-- ---- a node as the parent of its parts

module _ (nodes : List Node) (last : ℕ) (labels : Numbered) (parents : Parents) (p : ℕ) where
  pub array-parent : (id : ℕ) → HasParts last (own_ids nodes id) parents 0 p → IsParent nodes last labels parents (Node.array id) p
  array-parent id parts label t y part among = grind (arith, none-some, same_Some)

  pub map-parent : (id : ℕ) → HasParts last (own_ids nodes id) parents 1 p → IsParent nodes last labels parents (Node.map_of id) p
  map-parent id parts Label.items t y part among = absurd (none-some t part)
  map-parent id parts Label.values t y part among =
      let same : id ≡ t = same_Some id t part in
      (1, refl, parts y (subst (λ k. Contains (own_ids nodes k) y) (sym same) among))
  map-parent id parts (Label.named name) t y part among = absurd part

  pub record-parent : (name : Name) (aliases : List Name) (fields : List FieldNode) → AreFields nodes last labels parents fields p
      → IsParent nodes last labels parents (Node.record_of name aliases fields) p
  record-parent name aliases fields each label t y part among = grind (arith, none-some)

number-kept : (labels more : Numbered) (label : Label) (number : ℕ) → KeepsLabels labels more → number_of labels label ≡ Some number → number_of more label ≡ Some number
number-kept labels more label number names h = grind arith

pub has-kept : (labels more : Numbered) (old new : Parents) (label : Label) (part p : ℕ) → KeepsLabels labels more
    → KeepsParents old new → HasParent labels old label part p → HasParent more new label part p
has-kept labels more old new label part p names kept h = (h.0, number-kept labels more label h.0 names h.1, kept part h.0 p h.2)

pub parent-kept : (nodes : List Node) (last : ℕ) (labels more : Numbered) (old new : Parents) (n : Node) (p : ℕ)
    → KeepsLabels labels more → KeepsParents old new → IsParent nodes last labels old n p → IsParent nodes last more new n p
parent-kept nodes last labels more old new n p names kept are = λ label t y part among.
    has-kept labels more old new label (place_of last y) p names kept (are label t y part among)

-- null is no parent
pub null-parent : (nodes : List Node) (last : ℕ) (labels : Numbered) (parents : Parents) (p : ℕ)
    → IsParent nodes last labels parents Node.null p
null-parent nodes last labels parents p label t y part among = grind (arith, none-some)
