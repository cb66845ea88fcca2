-- A table as it is made.
use Rattle.std.proofs.Common.{◌≡◌, ◌<◌, ◌≤◌, ◌+◌, ℕ, zero, suc, List, [], ◌∷◌, ◌++◌, length, map, drop, get_or, refl, sym, ap, ◌∙◌, subst, append_assoc, arith, Ordering, Less, Equal, Greater}
use Rattle.std.specs.List.{AllByRecursion}
use Rattle.std.proofs.lemmas.List.{drop_more, length_push, map-append}
use Rattle.std.proofs.lemmas.Map.Lookups.{exact_bytes}
use Rattle.std.proofs.lemmas.Option.{get_or_from_slice_get, slice_get_past, slice_get_read, slice_get_within}
use Rattle.std.specs.BTreeMap.{insert_entry}
use Rattle.std.specs.Cmp.Lexicographic.{slice_cmp}
use Rattle.std.specs.Ordering.{nat_cmp, match_ordering}
use Rattle.std.specs.Prelude.{Some, Vec, slice_get, string_bytes}
use Rattle.std.specs.declared.alloc.Global.{Global}
use Rattle.avro_display.specs.DisplayTree.{record_fields}
use denote.Ref.{Bor}
use Rattle.avro_schema.specs.Node.{Node, FieldNode, node_at}
use Rattle.avro_schema.specs.Seen.{seen_fields}
use Rattle.avro_schema.specs.declared.schema.Field.{Field}
use Rattle.serde_json.specs.Data.{Data, no_members, put}
use Rattle.avro_display.specs.Order.{put_each, in_order, IsOrder}
use Rattle.avro_display.specs.Table.{AreHeads, AreMembers, IsMember, field_id, field_name, head_text, place_of}
use Rattle.avro_display.specs.declared.member.Member.{Member}
use Rattle.avro_display.specs.inside.Tables.{AreAllMembers, AreNamed, Holds, seen_place}

-- ---- what holds of each item at its index

pub holds_push : {A : Type 0} (P : ℕ → A → Type 0) (xs : List A) (x : A) → Holds P xs → P (length xs) x → Holds P (xs ++ x ∷ [])
holds_push P [] x all last zero y got = subst (P 0) (cc (got)) last
holds_push P [] x all last (suc k) y got = absurd (cc (got))
holds_push P (z ∷ zs) x all last zero y got = all 0 y got
holds_push P (z ∷ zs) x all last (suc k) y got = holds_push (λ j. P (suc j)) zs x (λ j. all (suc j)) last k y got

pub one_more : {A : Type 0} (P : ℕ → A → Type 0) (xs new : List A) (x : A) (m : ℕ) → new ≡ xs ++ x ∷ [] → (length xs ≡ m) × Holds P xs → P m x
    → (length new ≡ m + 1) × Holds P new
one_more P xs new x m pushed (count, all) last =
    subst (λ ys. (length ys ≡ m + 1) × Holds P ys) (sym pushed) (length_push xs x ∙ ap (λ n. n + 1) count, holds_push P xs x all (subst (λ n. P n x) (sym count) last))

-- a node that is not there has no members
pub no_node : (nodes : List Node) (k : ℕ) → length nodes ≤ k → node_at nodes k ≡ Node.null
no_node nodes k past = rw (slice_get_past nodes k past) refl

-- the members of a node, and none of what is no node
pub members_there : (nodes : List Node) (lists seen : List (Vec Member Global)) (k : ℕ) (ms : Vec Member Global) → seen ≡ lists → AreAllMembers nodes lists → k < length seen → ms ≡ get_or seen k ms
    → AreMembers (record_fields (node_at nodes k)) ms.items
members_there nodes lists seen k ms same all within is = all.1 k ms (subst (λ (l : List (Vec Member Global)). slice_get l k ≡ Some ms) same (slice_get_read seen (length seen) k ms refl within is))

pub members_none : (nodes : List Node) (lists seen : List (Vec Member Global)) (k : ℕ) (ms : List Member) → seen ≡ lists → AreAllMembers nodes lists → length seen ≤ k → ms ≡ []
    → AreMembers (record_fields (node_at nodes k)) ms
members_none nodes lists seen k ms same all past none =
    let there : length nodes ≤ k = subst (λ (n : ℕ). n ≤ k) (ap length same ∙ all.0) past in
    subst (λ (l : List Member). AreMembers (record_fields (node_at nodes k)) l) (sym none)
    (subst (λ (n : Node). AreMembers (record_fields n) []) (sym (no_node nodes k there)) (record { order = λ tree. refl; each = tt; heads = tt }))

-- ---- the order of keys

abbrev key_cmp : Bor (List ℕ) → Bor (List ℕ) → Ordering
key_cmp a b = slice_cmp nat_cmp a.now b.now

in_order-match : (tree : ℕ → Data) (o : Ordering) (a b c : List (Bor (List ℕ) × ℕ))
    → in_order tree (map seen_place (match_ordering o a b c)) ≡ match_ordering o (in_order tree (map seen_place a)) (in_order tree (map seen_place b)) (in_order tree (map seen_place c))
in_order-match tree Less a b c = refl
in_order-match tree Equal a b c = refl
in_order-match tree Greater a b c = refl

in_order-insert : (tree : ℕ → Data) (es : List (Bor (List ℕ) × ℕ)) (k : Bor (List ℕ)) (i : ℕ)
    → in_order tree (map seen_place (insert_entry key_cmp es k i)) ≡ put k.now (tree i) (in_order tree (map seen_place es))
in_order-insert tree [] k i = refl
in_order-insert tree (e ∷ es) k i = in_order-match tree (key_cmp k e.0) _ _ _ ∙ rw (in_order-insert tree es k i)

-- the keys from an index on are still to be put
abbrev pub AreLeft : List (List ℕ) → ℕ → List (List ℕ) → List (Bor (List ℕ) × ℕ) → Type 0
AreLeft all i left es = (tree : ℕ → Data) → put_each tree i left (in_order tree (map seen_place es)) ≡ put_each tree 0 all no_members

pub left_none : (all left : List (List ℕ)) (i : ℕ) (es : List (Bor (List ℕ) × ℕ)) → left ≡ [] → AreLeft all i left es → IsOrder all (map seen_place es)
left_none all left i es is have tree = ap (λ l. put_each tree i l (in_order tree (map seen_place es))) (sym is) ∙ have tree

-- what holds of each place holds of each after another was inserted
all_match : (P : List ℕ × ℕ → Type 0) (o : Ordering) (a b c : List (Bor (List ℕ) × ℕ)) → (o ≡ Less → AllByRecursion P (map seen_place a)) → (o ≡ Equal → AllByRecursion P (map seen_place b))
    → (o ≡ Greater → AllByRecursion P (map seen_place c)) → AllByRecursion P (map seen_place (match_ordering o a b c))
all_match P Less a b c less equal greater = less refl
all_match P Equal a b c less equal greater = equal refl
all_match P Greater a b c less equal greater = greater refl

all_insert : (P : List ℕ × ℕ → Type 0) (es : List (Bor (List ℕ) × ℕ)) (k : Bor (List ℕ)) (i : ℕ) → AllByRecursion P (map seen_place es) → P (k.now, i)
    → AllByRecursion P (map seen_place (insert_entry key_cmp es k i))
all_insert P [] k i all here = (here, tt)
all_insert P (e ∷ es) k i all here =
    all_match P (key_cmp k e.0) _ _ _ (λ less. (here, all)) (λ equal. (subst (λ (n : List ℕ). P (n, i)) (exact_bytes k.now e.0.now equal) here, all.1))
    (λ greater. (all.0, all_insert P es k i all.1 here))

-- the next key is inserted
pub placed_more : (P : List ℕ × ℕ → Type 0) (all left rest : List (List ℕ)) (i : ℕ) (es new : List (Bor (List ℕ) × ℕ)) (k : Bor (List ℕ)) → left ≡ k.now ∷ rest → new ≡ insert_entry key_cmp es k i → P (k.now, i)
    → AreLeft all i left es × AllByRecursion P (map seen_place es) → AreLeft all (i + 1) rest new × AllByRecursion P (map seen_place new)
placed_more P all left rest i es new k is inserted here (have, each) = rw inserted (
  λ tree. rw (in_order-insert tree es k i) (rw is at (have tree)),
  all_insert P es k i each here,
)

-- the names of fields from an index on
abbrev pub names_past : List Field → ℕ → List (List ℕ)
names_past fs i = map (λ f. f.name) (seen_fields (drop i fs))

pub name_here : (fs : List Field) (i : ℕ) (f : Field) (k : List ℕ) → i < length fs → k ≡ string_bytes (get_or fs i f).name → names_past fs i ≡ k ∷ names_past fs (i + 1)
name_here fs i f k within has =
    ap (λ l. map (λ (g : FieldNode). g.name) (seen_fields l)) (drop_more fs i f within)
    ∙ ap (λ (n : List ℕ). n ∷ names_past fs (i + 1)) (sym has)

pub name_at : (fs : List Field) (i : ℕ) (f : Field) (k : List ℕ) → i < length fs → k ≡ string_bytes (get_or fs i f).name → (i < length (seen_fields fs)) × (k ≡ field_name (seen_fields fs) i)
name_at [] i f k within is = absurd (omega (arith, within))
name_at (x ∷ fs) zero f k within is = (omega arith, is)
name_at (x ∷ fs) (suc i) f k within is = let next = name_at fs i f k (omega (arith, within)) is in (omega (arith, next.0), next.1)

-- the keys of entries from an index on
pub key_here : (keys : List (List ℕ)) (i : ℕ) (k : List ℕ) → slice_get keys i ≡ Some k → drop i keys ≡ k ∷ drop (i + 1) keys
key_here keys i k is = drop_more keys i k (slice_get_within keys i k is) ∙ ap (λ (n : List ℕ). n ∷ drop (i + 1) keys) (get_or_from_slice_get keys i k k is)

-- ---- members in an order

-- the text before the next member
abbrev pub opener_after : ℕ → List Member → ℕ
opener_after opener [] = opener
opener_after opener (m ∷ ms) = opener_after 44 ms

each_push : (fields : List FieldNode) (ms : List Member) (m : Member) → AllByRecursion (IsMember fields) ms → IsMember fields m → AllByRecursion (IsMember fields) (ms ++ m ∷ [])
each_push fields [] m all last = (last, tt)
each_push fields (x ∷ ms) m all last = (all.0, each_push fields ms m all.1 last)

heads_push : (fields : List FieldNode) (opener : ℕ) (ms : List Member) (m : Member) → AreHeads fields opener ms → m.head.items ≡ opener_after opener ms ∷ head_text (field_name fields m.field)
    → AreHeads fields opener (ms ++ m ∷ [])
heads_push fields opener [] m all last = (last, tt)
heads_push fields opener (x ∷ ms) m all last = (all.0, heads_push fields 44 ms m all.1 last)

after_push : (opener : ℕ) (ms : List Member) (m : Member) → 44 ≡ opener_after opener (ms ++ m ∷ [])
after_push opener [] m = refl
after_push opener (x ∷ ms) m = after_push 44 ms m

-- of an order of places, some have their members
pub record AreMade (fields : List FieldNode) (all left : List (Bor (List ℕ) × ℕ)) (ms : List Member) (opener : ℕ) : Type 0 where
  pub places : map (place_of fields) ms ++ map seen_place left ≡ map seen_place all
  pub named : AreNamed fields (map seen_place left)
  pub each : AllByRecursion (IsMember fields) ms
  pub heads : AreHeads fields 123 ms
  pub next : opener ≡ opener_after 123 ms

pub made_more : (fields : List FieldNode) (all left rest : List (Bor (List ℕ) × ℕ)) (e : Bor (List ℕ) × ℕ) (ms new : List Member) (m : Member) (opener : ℕ) → left ≡ e ∷ rest → new ≡ ms ++ m ∷ []
    → m.node.0 ≡ field_id fields m.field → m.field ≡ e.1 → m.head.items ≡ opener ∷ head_text e.0.now → AreMade fields all left ms opener → AreMade fields all rest new 44
made_more fields all left rest e ms new m opener is pushed good at head have =
    let named : AreNamed fields (map seen_place (e ∷ rest)) = subst (λ (l : List (Bor (List ℕ) × ℕ)). AreNamed fields (map seen_place l)) is have.named in
    let place : place_of fields m ≡ seen_place e = cc in
    subst (λ (l : List Member). AreMade fields all rest l 44) (sym pushed) (record {
      places = rw (map-append (place_of fields) ms (m ∷ []), append_assoc, place) (rw is at have.places);
      named = named.1;
      each = each_push fields ms m have.each (grind arith, good);
      heads = heads_push fields 123 ms m have.heads (cc);
      next = after_push 123 ms m;
    })
