-- What the marks say, as the walk goes down.
use Rattle.avro_schema_json.proofs.Words.{◌≡◌, ℕ, zero, suc, ◌+◌, ◌<◌, false, cond, List, [], ◌∷◌, ◌++◌, length, length-append, drop, Option, Some, None, get_or, refl, sym, ap, subst, ◌∙◌, arith, Ordering, unwrap_or, AllByRecursion, string_cmp, slice_cmp, none-some, same_Some, Node, node_at, ids_of, Value, NodeId, Data, Members, get_member, view, members_view, Tree, Entry, member_here, member_later, first_fit, place_of, Covers, pair_cmp, IsSetOf, member_at, part_at, own_default, has_place, nodes_of, IsKnown, FitsNoneBefore, HasNoneBefore, first_of, AreFirsts, AreMemberMarks, Mark}
use Rattle.std.specs.Prelude.{slice_get, bytes_eq, String, string_bytes}
use Rattle.std.specs.declared.alloc.Global.{Global}
use Rattle.std.specs.List.Sorted.{IsStrictlySortedBy}
use Rattle.std.specs.Map.{keys_of}
use Rattle.std.specs.Ordering.{nat_cmp, is_eq}
use Rattle.std.specs.BTreeMap.{BTreeMap}
use denote.Ref.{Bor}
use Rattle.indexmap.specs.IndexMap.{IndexMap, get_by}
use Rattle.avro_texts.specs.declared.seeded.Seeded.{Seeded}
use Rattle.avro_schema.specs.Node.{branches_of}
use Rattle.avro_schema_json.specs.inside.Sets.{row_at}
use Rattle.avro_schema_json.specs.declared.defaults.walk.Walk.{Walk}
use Rattle.avro_schema_json.proofs.DefaultsSeen.{branch_next}
use Rattle.avro_schema_json.proofs.EachSeen.{mapped-get, before-next, put-each, put-all, exact-texts}
use Rattle.avro_schema_json.proofs.KindsSeen.{same_pair}
use Rattle.avro_schema_json.proofs.MarksSeen.{marked-set}

-- ---- parts

pub known-part : (walk : Walk) (d e : Data) (m : Mark) (j : ℕ) → IsKnown walk d (Some m) → j < m.count → part_at j d ≡ Some e
    → IsKnown walk e (slice_get walk.marks.now.all.items (m.parts + j))
known-part walk d e m j known below here = grind arith

pub known-same : (walk : Walk) (d e : Data) (o : Option Mark) → Some d ≡ Some e → IsKnown walk d o → IsKnown walk e o
known-same walk d e o is known = grind (arith, same_Some)

-- the mark of one more member
pub member-known : (walk : Walk) (ms : Members) (old new : IndexMap (Bor (List ℕ)) (Option Mark) Seeded) (key : List ℕ) (o : Option Mark) → AreMemberMarks walk ms old
    → ((other : List ℕ) → get_by (λ k. bytes_eq other k.now) new ≡ cond (bytes_eq key other) (Some o) (get_by (λ k. bytes_eq other k.now) old))
    → ((f : Data) → get_member key ms ≡ Some f → IsKnown walk f o) → AreMemberMarks walk ms new
member-known walk ms old new key o good put this =
    put-each bytes_eq exact-texts (λ other found. (f : Data) → get_member other ms ≡ Some f → IsKnown walk f (unwrap_or found None))
    (λ other. get_by (λ k. bytes_eq other k.now) old) (λ other. get_by (λ k. bytes_eq other k.now) new) key o put good this

-- ---- branches

-- the JSON is no default of a node that its set has not
unfit : (nodes : List Node) (last : ℕ) (d : Data) (row : List ℕ) (id : ℕ) → Covers nodes last d row → has_place row (place_of last id) ≡ false
    → own_default nodes d (node_at nodes id) ≡ None
unfit nodes last d row id covers not = grind arith

known-set : (walk : Walk) (d : Data) (mark : Option Mark) (m : Mark) → mark ≡ Some m → IsKnown walk d mark
    → IsSetOf (nodes_of walk) walk.last walk.marks.now.memo.sets d m.set
known-set walk d mark m is known = grind (arith, marked-set, none-some, same_Some)

pub not-fit : (walk : Walk) (d : Data) (mark : Option Mark) (m : Mark) (row : List ℕ) (id : ℕ) → mark ≡ Some m → row_at walk.marks.now.memo.sets m.set ≡ Some row
    → has_place row (place_of walk.last id) ≡ false → IsKnown walk d mark → own_default (nodes_of walk) d (node_at (nodes_of walk) id) ≡ None
not-fit walk d mark m row id is found not known =
    let set = known-set walk d mark m is known in
    let same : row ≡ set.0 = same_Some row set.0 (sym found ∙ set.1) in
    unfit (nodes_of walk) walk.last d set.0 id set.2 (subst (λ (r : List ℕ). has_place r (place_of walk.last id) ≡ false) same not)

pub none-before : (walk : Walk) (d : Data) (mark : Option Mark) (m : Mark) (ids : List ℕ) (first : ℕ) → mark ≡ Some m
    → ((row : List ℕ) → row_at walk.marks.now.memo.sets m.set ≡ Some row → HasNoneBefore walk.last row ids first)
    → IsKnown walk d mark → FitsNoneBefore (nodes_of walk) d ids first
none-before walk d mark m ids first is none known = grind (arith, known-set, unfit)

pub none-in : (walk : Walk) (set : ℕ) (words ids : List ℕ) (first : ℕ) → row_at walk.marks.now.memo.sets set ≡ Some words → HasNoneBefore walk.last words ids first
    → (row : List ℕ) → row_at walk.marks.now.memo.sets set ≡ Some row → HasNoneBefore walk.last row ids first
none-in walk set words ids first found none row at = grind (arith, same_Some)

pub none-next : (last : ℕ) (row : List ℕ) (ids : List NodeId) (i : ℕ) (x : NodeId) → i < length ids → HasNoneBefore last row (ids_of ids) i
    → has_place row (place_of last (get_or ids i x).0) ≡ false → HasNoneBefore last row (ids_of ids) (i + 1)
none-next last row ids i x below before not =
    before-next (ids_of ids) i (get_or ids i x).0 (λ j id. has_place row (place_of last id) ≡ false) (λ j id. has_place row (place_of last id) ≡ false)
    (mapped-get (λ (id : NodeId). id.0) ids i x below) (λ j id none. none) not before

-- ---- first branches as they were found

pub one-more : (walk : Walk) (old new : BTreeMap (ℕ × ℕ) ℕ) (u s k : ℕ) (ids : List ℕ) → AreFirsts walk old
    → branches_of (node_at (nodes_of walk) u) ≡ Some ids
    → ((row : List ℕ) → row_at walk.marks.now.memo.sets s ≡ Some row → HasNoneBefore walk.last row ids k)
    → ((q : ℕ × ℕ) → first_of new q.0 q.1 ≡ cond (is_eq (pair_cmp (u, s) q)) (Some k) (first_of old q.0 q.1))
    → AreFirsts walk new
one-more walk old new u s k ids before has this put = λ v t n others row found other at.
    put-all (λ a b. is_eq (pair_cmp a b)) same_pair (λ q first. (xs : List ℕ) → branches_of (node_at (nodes_of walk) q.0) ≡ Some xs
    → (r : List ℕ) → row_at walk.marks.now.memo.sets q.1 ≡ Some r → HasNoneBefore walk.last r xs first) (λ q. first_of old q.0 q.1) (λ q. first_of new q.0 q.1) (u, s) k put
    (λ q first was xs is r there. before q.0 q.1 first xs r was is there)
    (λ xs is r there. subst (λ (ys : List ℕ). HasNoneBefore walk.last r ys k) (same_Some ids xs (sym has ∙ is)) (this r there)) (v, t) n found others other row at

-- ---- branches in turn

pub same-again : {A : Type 0} (xs : List A) (i : ℕ) (x : A) → get_or xs i x ≡ get_or xs i (get_or xs i x)
same-again [] i x = refl
same-again (y ∷ ys) zero x = refl
same-again (y ∷ ys) (suc i) x = same-again ys i x

-- a branch that the JSON does not fit
pub branch-pass : (nodes : List Node) (d : Data) (ids : List NodeId) (i : ℕ) (id : NodeId) (all : Option Value) → i < length ids
    → own_default nodes d (node_at nodes (get_or ids i id).0) ≡ None
    → first_fit nodes (own_default nodes d) i (ids_of (drop i ids)) ≡ all → first_fit nodes (own_default nodes d) (i + 1) (ids_of (drop (i + 1) ids)) ≡ all
branch-pass nodes d ids i id all below none left =
    branch_next nodes d ids i (get_or ids i id) all below (same-again ids i id) left none

from_start : (nodes : List Node) (d : Data) (ids : List NodeId) (start k : ℕ) → FitsNoneBefore nodes d (ids_of ids) start
    → first_fit nodes (own_default nodes d) (start + k) (ids_of (drop start ids)) ≡ first_fit nodes (own_default nodes d) k (ids_of ids)
from_start nodes d [] zero k none = refl
from_start nodes d (x ∷ ids) zero k none =
    let number : 0 + k ≡ k = omega arith in
    ap (λ p. first_fit nodes (own_default nodes d) p (ids_of (x ∷ ids))) number
from_start nodes d [] (suc start) k none = refl
from_start nodes d (x ∷ ids) (suc start) k none =
    let number : suc start + k ≡ start + suc k = omega arith in
    let first : own_default nodes d (node_at nodes x.0) ≡ None = none zero x.0 (omega arith) refl in
    let rest = from_start nodes d ids start (suc k) (λ j id below at. none (suc j) id (omega (arith, below)) at) in
    rw first (ap (λ p. first_fit nodes (own_default nodes d) p (ids_of (drop start ids))) number ∙ rest)

-- the branches before the first that may fit are passed over
pub begins_late : (nodes : List Node) (d : Data) (ids : List NodeId) (start : ℕ) → FitsNoneBefore nodes d (ids_of ids) start
    → first_fit nodes (own_default nodes d) start (ids_of (drop start ids)) ≡ first_fit nodes (own_default nodes d) 0 (ids_of ids)
begins_late nodes d ids start none =
    let number : start ≡ start + 0 = omega arith in
    ap (λ p. first_fit nodes (own_default nodes d) p (ids_of (drop start ids))) number ∙ from_start nodes d ids start 0 none

-- ---- members in the order of their keys

-- the members that are left are in order, each is found among all, and their places are behind so many
abbrev pub AreLeft : List Entry → List Entry → ℕ → Type 0
AreLeft all left k =
    IsStrictlySortedBy string_cmp (keys_of left) × ((key : List ℕ) (d : Data) → get_member key (members_view left) ≡ Some d → get_member key (members_view all) ≡ Some d)
    × ((j i : ℕ) (d : Data) → i ≡ k + j → member_at j (members_view left) ≡ Some d → member_at i (members_view all) ≡ Some d)

pub all-left : (es : List Entry) → IsStrictlySortedBy string_cmp (keys_of es) → AreLeft es es 0
all-left es order = (
  order,
  λ key d found. found,
  λ j i d is found. let same : i ≡ j = omega (arith, is) in ap (λ n. member_at n (members_view es)) same ∙ found,
)

no_earlier : (name : List ℕ) (k : String Global) (es : List Entry) → name ≡ string_bytes k → AllByRecursion (λ y. string_cmp k y ≡ Ordering.Less) (keys_of es)
    → get_member name (members_view es) ≡ None
no_earlier name k [] same above = refl
no_earlier name k (e ∷ es) same above =
    let less : slice_cmp nat_cmp name (string_bytes e.0) ≡ Ordering.Less = rw same above.0 in
    rw less (no_earlier name k es same above.1)

pub left-first : (all left rest : List Entry) (k : ℕ) (key : String Global) (x : Tree) → left ≡ (key, x) ∷ rest → AreLeft all left k
    → (get_member (string_bytes key) (members_view all) ≡ Some (view x)) × (member_at k (members_view all) ≡ Some (view x))
left-first all left rest k key x step inv = (
  inv.1 (string_bytes key) (view x) (ap (λ (es : List Entry). get_member (string_bytes key) (members_view es)) step ∙ member_here (string_bytes key) (key, x) rest refl),
  inv.2 0 k (view x) (omega arith) (ap (λ (es : List Entry). member_at 0 (members_view es)) step),
)

left-tail : (all rest : List Entry) (k : ℕ) (e : Entry) → AreLeft all (e ∷ rest) k → AreLeft all rest (k + 1)
unfolding IsStrictlySortedBy
left-tail all rest k e inv = (
  inv.0.1,
  λ key d found. inv.1 key d (member_later key e rest (λ same. none-some d (sym (no_earlier key e.0 rest same inv.0.0) ∙ found)) ∙ found),
  λ j i d is found. inv.2 (suc j) i d (omega (arith, is)) found,
)

pub left-next : (all left rest : List Entry) (k : ℕ) (e : Entry) → left ≡ e ∷ rest → AreLeft all left k → AreLeft all rest (k + 1)
left-next all left rest k e step inv = left-tail all rest k e (subst (λ (es : List Entry). AreLeft all es k) step inv)

pub left-pushed : {A : Type 0} (all left rest : List Entry) (e : Entry) (xs : List A) (x : A) → left ≡ e ∷ rest → AreLeft all left (length xs)
    → AreLeft all rest (length (xs ++ x ∷ []))
left-pushed all left rest e xs x step inv =
    let more : length xs + 1 ≡ length (xs ++ x ∷ []) = omega (arith, length-append xs (x ∷ [])) in
    subst (λ (k : ℕ). AreLeft all rest k) more (left-next all left rest (length xs) e step inv)
