-- What the bytes of a datum without parts spell.
use Rattle.std.proofs.Common.{◌≡◌, ◌∙◌, ℕ, ℤ, pos, Bool, List, [], length, take, drop, true, sym, append-nil}
use Rattle.std.proofs.lemmas.List.{take-append-drop}
use Rattle.avro_zigzag.specs.Number.{zigzag, AreGroups, SpellsInt, SpellsLong}
use Rattle.avro_zigzag.proofs.public.Spelling.{one_spelling_lem}
use Rattle.avro_schema.specs.Fits.{fits}
use Rattle.avro_schema.specs.Node.{Node}
use Rattle.avro_schema.specs.Value.{Value}
use Rattle.avro_schema.proofs.public.FitsKind.{FitsKind, FitsKind-from_fits}
use Rattle.avro_cursor.specs.Encoding.{Spells, SpellsBytes}
use Rattle.avro_cursor.proofs.public.Fronts.{same_behind}

-- a number that bytes spell is the one that the first of them spell
pub same_number : {most more : ℕ} (v w : ℤ) (n : ℕ) (bytes : List ℕ) → AreGroups most (zigzag v) (take n bytes) → AreGroups more (zigzag w) bytes → v ≡ w
same_number v w n bytes s t =
    (one_spelling_lem v w (take n bytes) bytes (drop n bytes) [] s t (take-append-drop n bytes ∙ sym (append-nil bytes))).1

-- the content is behind its length
pub content_behind : (v : ℤ) (n : ℕ) (content bytes : List ℕ) → SpellsLong v (take n bytes) → SpellsBytes content bytes → drop n bytes ≡ content
content_behind v n content bytes s (count, t, is) =
    let joined = take-append-drop n bytes ∙ is in
    same_behind (take n bytes) count (drop n bytes) content (one_spelling_lem v (pos (length content)) (take n bytes) count (drop n bytes) content s t joined).0 joined

-- what has to hold of each datum of a node without parts that the bytes spell
abbrev pub ForLeaf : Node → List ℕ → (Value → Type 0) → Type 0
ForLeaf Node.null bytes P = P Value.null
ForLeaf Node.boolean bytes P = (b : Bool) → Spells (Value.boolean b) bytes → P (Value.boolean b)
ForLeaf Node.int bytes P = (i : ℤ) → SpellsInt i bytes → P (Value.int i)
ForLeaf Node.long bytes P = (i : ℤ) → SpellsLong i bytes → P (Value.long i)
ForLeaf Node.bytes bytes P = (b : List ℕ) → SpellsBytes b bytes → P (Value.bytes b)
ForLeaf Node.string bytes P = (t : List ℕ) → SpellsBytes t bytes → P (Value.string t)
ForLeaf (Node.fixed name aliases count) bytes P = P (Value.fixed bytes)
ForLeaf (Node.enum name aliases symbols default) bytes P = (k : ℕ) → SpellsInt (pos k) bytes → P (Value.enum k)
ForLeaf _ bytes P = ⊥

-- by the node and the datum: the other pairs do not fit
of_kind : (nodes : List Node) (n : Node) (v : Value) (bytes : List ℕ) (P : Value → Type 0) → FitsKind nodes n v → Spells v bytes → ForLeaf n bytes P → P v
of_kind nodes Node.null Value.null bytes P k s p = p
of_kind nodes Node.boolean (Value.boolean b) bytes P k s p = p b s
of_kind nodes Node.int (Value.int i) bytes P k s p = p i s
of_kind nodes Node.long (Value.long i) bytes P k s p = p i s
of_kind nodes Node.bytes (Value.bytes b) bytes P k s p = p b s
of_kind nodes Node.string (Value.string t) bytes P k s p = p t s
of_kind nodes (Node.fixed name aliases count) (Value.fixed b) bytes P k s p = rw (← s) p
of_kind nodes (Node.enum name aliases symbols default) (Value.enum i) bytes P k s p = p i s
of_kind nodes _ _ bytes P k s p = absurd (first_of (assumption, cc))

-- what holds of each of these holds of the datum that fits the node and is spelled
pub for_leaf : (nodes : List Node) (n : Node) (v : Value) (bytes : List ℕ) (P : Value → Type 0) → fits nodes n v ≡ true → Spells v bytes → ForLeaf n bytes P → P v
for_leaf nodes n v bytes P h s p = of_kind nodes n v bytes P (FitsKind-from_fits nodes n v h) s p
