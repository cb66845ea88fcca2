-- The offset of a fault is among the bytes that have it.
use Rattle.std.proofs.Common.{◌≡◌, ◌⊎◌, inl, inr, ℕ, zero, suc, ◌+◌, ◌≤◌, List, ◌++◌, Bool, length, ap, ◌∙◌, arith, length-append}
use Rattle.avro_zigzag.specs.declared.VarError.{VarError}
use Rattle.avro_schema.specs.Node.{Node, node_at}
use Rattle.avro_schema.specs.Fits.{LimitValues}
use Rattle.avro_cursor.specs.Fault.{ReadFault, behind}
use Rattle.avro_cursor.specs.Breaks.{number_fault, IntBreaks, LongBreaks, BooleanBreaks, FixedBreaks, ContentBreaks, IndexBreaks, KeyBreaks, EntryBreaks, HeadBreaks, BlocksBreak, BreaksAfter, BranchBreaks, ChildBreaks, Left, head_bytes, NodeBreaks, BreaksWithin, Breaks, ItemsAreWhole, EntriesAreWhole, all_left}
use Rattle.avro_file.specs.DatumRead.{place_in}

-- the faults of a part are among its bytes
abbrev AreInside : (List ℕ → ReadFault → Type 0) → Type 0
AreInside breaks = (bytes : List ℕ) (f : ReadFault) → breaks bytes f → place_in f ≤ length bytes

first : (bytes : List ℕ) (f : ReadFault) → place_in f ≡ 0 → place_in f ≤ length bytes
first bytes f p = omega (arith, p)

number_first : (e : VarError) → place_in (number_fault e) ≡ 0
number_first e = grind arith

place-behind : (n m : ℕ) (f : ReadFault) → place_in f ≤ m → place_in (behind n f) ≤ n + m
place-behind n m f h = grind arith

front_inside : (front rest bytes : List ℕ) → bytes ≡ front ++ rest → length front ≤ length bytes
front_inside front rest bytes e = omega (arith, ap length e, length-append front rest)

behind_inside : (front rest bytes : List ℕ) (f g : ReadFault) → bytes ≡ front ++ rest → f ≡ behind (length front) g → place_in g ≤ length rest
    → place_in f ≤ length bytes
behind_inside front rest bytes f g e moved h = grind (arith, length-append, place-behind)

after_inside : (breaks : List ℕ → ReadFault → Type 0) (front : List ℕ) → AreInside breaks → AreInside (BreaksAfter breaks front)
after_inside breaks front inside bytes f b = grind (arith, behind_inside)

int_inside : AreInside IntBreaks
int_inside bytes f b = first bytes f (ap place_in b.2 ∙ number_first b.0)

long_inside : AreInside LongBreaks
long_inside bytes f b = first bytes f (ap place_in b.2 ∙ number_first b.0)

boolean_inside : AreInside BooleanBreaks
boolean_inside bytes f b = grind (arith, first)

fixed_inside : (count blob : ℕ) → AreInside (FixedBreaks count blob)
fixed_inside count blob bytes f b = grind (arith, first)

content_inside : (is_content : List ℕ → Bool) (blob : ℕ) → AreInside (ContentBreaks is_content blob)
content_inside is_content blob bytes f b = grind (arith, front_inside, long_inside)

index_inside : (choices : ℕ) → AreInside (IndexBreaks choices)
index_inside choices bytes f b = grind (arith, int_inside)

key_inside : (keys : List (List ℕ)) (blob : ℕ) → AreInside (KeyBreaks keys blob)
key_inside keys blob bytes f b = grind (arith, content_inside)

head_inside : (nodes : ℕ) → AreInside (HeadBreaks nodes)
head_inside nodes bytes f b = grind (arith, after_inside, front_inside, long_inside)

blocks_inside : (are_whole : Left → ℕ → List ℕ → Left → Type 0) (item_breaks : Left → List ℕ → ReadFault → Type 0) → ((left : Left) → AreInside (item_breaks left))
    → (left : Left) → AreInside (BlocksBreak are_whole item_breaks left)
blocks_inside are_whole item_breaks inside left bytes f (BlocksBreak.head_breaks b) = head_inside left.nodes bytes f b
blocks_inside are_whole item_breaks inside left bytes f (BlocksBreak.item_fails head done front then_left is_head few whole b) =
    after_inside (item_breaks then_left) _ (inside then_left) bytes f b
blocks_inside are_whole item_breaks inside left bytes _ (BlocksBreak.size_differs count size count_bytes size_bytes front rest then_left is_head whole split other) =
    omega (
      arith,
      ap length split,
      length-append (count_bytes ++ size_bytes ++ front) rest,
      length-append (count_bytes ++ size_bytes) front,
      length-append count_bytes size_bytes,
    )
blocks_inside are_whole item_breaks inside left bytes f (BlocksBreak.later_breaks head front rest then_left fault is_head whole sized split b moved) =
    behind_inside (head_bytes head ++ front) rest bytes f fault split moved (blocks_inside are_whole item_breaks inside then_left rest fault b)

-- the faults of the parts of a node
abbrev ChildrenInside : ChildBreaks → Type 0
ChildrenInside child = (left : ℕ) (n : Node) → AreInside (child left n)

entry_inside : (limits : LimitValues) (child : ChildBreaks) (n : Node) → ChildrenInside child → (left : Left) → AreInside (EntryBreaks limits child n left)
entry_inside limits child n inside left bytes f (EntryBreaks.key_breaks b) = key_inside left.keys limits.blob bytes f b
entry_inside limits child n inside left bytes f (EntryBreaks.value_breaks key front spelled text short new b) =
    after_inside (child left.nodes n) front (inside left.nodes n) bytes f b

union_inside : (nodes : List Node) (left : LimitValues) (child : ChildBreaks) (ids bytes : List ℕ) (f : ReadFault) → ChildrenInside child
    → IndexBreaks (length ids) bytes f ⊎ BranchBreaks nodes left child ids bytes f → place_in f ≤ length bytes
union_inside nodes left child ids bytes f inside (inl b) = index_inside (length ids) bytes f b
union_inside nodes left child ids bytes f inside (inr b) =
    after_inside (child left.nodes (node_at nodes b.branch)) b.number (inside left.nodes (node_at nodes b.branch)) bytes f b.breaks

node_inside : (nodes : List Node) (left : LimitValues) (child : ChildBreaks) → ChildrenInside child → (n : Node) → AreInside (NodeBreaks nodes left child n)
node_inside nodes left child inside Node.null bytes f b = absurd b
node_inside nodes left child inside Node.boolean bytes f b = boolean_inside bytes f b
node_inside nodes left child inside Node.int bytes f b = int_inside bytes f b
node_inside nodes left child inside Node.long bytes f b = long_inside bytes f b
node_inside nodes left child inside Node.bytes bytes f b = content_inside _ left.blob bytes f b
node_inside nodes left child inside Node.string bytes f b = content_inside _ left.blob bytes f b
node_inside nodes left child inside (Node.array id) bytes f b =
    blocks_inside (ItemsAreWhole nodes left (node_at nodes id)) (λ state. child state.nodes (node_at nodes id))
    (λ state. inside state.nodes (node_at nodes id)) (all_left left) bytes f b
node_inside nodes left child inside (Node.map_of id) bytes f b =
    blocks_inside (EntriesAreWhole nodes left (node_at nodes id)) (EntryBreaks left child (node_at nodes id))
    (entry_inside left child (node_at nodes id) inside) (all_left left) bytes f b
node_inside nodes left child inside (Node.union ids) bytes f b = union_inside nodes left child ids bytes f inside b
node_inside nodes left child inside (Node.record_of name aliases fields) bytes f b =
    after_inside _ _ (inside _ _) bytes f b.breaks
node_inside nodes left child inside (Node.enum name aliases symbols default) bytes f b = index_inside (length symbols) bytes f b
node_inside nodes left child inside (Node.fixed name aliases count) bytes f b = fixed_inside count left.blob bytes f b

within_inside : (nodes : List Node) (depth count blob : ℕ) (n : Node) → AreInside (BreaksWithin nodes depth count blob n)
within_inside nodes zero count blob n bytes f b = first bytes f (ap place_in b)
within_inside nodes (suc depth) zero blob n bytes f b = first bytes f (ap place_in b)
within_inside nodes (suc depth) (suc count) blob n bytes f b =
    node_inside nodes (record { depth = depth; nodes = count; blob = blob }) (λ left m rest g. BreaksWithin nodes depth left blob m rest g)
    (λ left m. within_inside nodes depth left blob m) n bytes f b

pub breaks_inside : (nodes : List Node) (limits : LimitValues) (n : Node) (bytes : List ℕ) (f : ReadFault) → Breaks nodes limits n bytes f → place_in f ≤ length bytes
breaks_inside nodes limits n bytes f b = within_inside nodes limits.depth limits.nodes limits.blob n bytes f b
