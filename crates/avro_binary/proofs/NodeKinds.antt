-- Which nodes have no parts, from what a node of the program is not.
use Rattle.std.proofs.Common.{◌≡◌, ℕ, zero, suc, ◌&&◌, true, false, List, [], ◌∷◌, length, filter_map, nat_lt, refl, subst}
use Rattle.std.specs.Prelude.{is_some}
use Rattle.std.specs.List.{list_all}
use Rattle.std.proofs.lemmas.Bool.{and_parts}
use Rattle.avro_schema.specs.Distinct.{are_distinct}
use Rattle.avro_schema.specs.Node.{Node, node_at}
use Rattle.avro_schema.specs.WellFormed.{branch_kind, same_kind, is_schema, meets_its_rules}
use Rattle.avro_schema.proofs.public.GoodNodes.{good_at}
use Rattle.avro_binary.specs.Places.{HoldsNoUnion, is_union}
use Rattle.avro_schema.specs.Seen.{node_of}
use Rattle.avro_schema.specs.declared.schema.Node.{Node as KeptNode}
use Rattle.avro_schema.specs.declared.schema.NodeId.{NodeId}
use Rattle.avro_schema.specs.declared.schema.RecordNode.{RecordNode}
use Rattle.avro_schema.specs.declared.schema.EnumNode.{EnumNode}
use Rattle.avro_schema.specs.declared.schema.FixedNode.{FixedNode}
use Rattle.std.specs.Global.{Vec}
use Rattle.avro_binary.specs.LeafValue.{has_no_parts}

-- of those without parts only null is none of the others
pub rest_is_null : (n : KeptNode) → (n ≡ KeptNode.Boolean → ⊥) → (n ≡ KeptNode.Int → ⊥) → (n ≡ KeptNode.Long → ⊥) → (n ≡ KeptNode.Bytes → ⊥) → (n ≡ KeptNode.Str → ⊥)
    → ((e : EnumNode) → n ≡ KeptNode.Enum e → ⊥) → ((f : FixedNode) → n ≡ KeptNode.Fixed f → ⊥) → has_no_parts (node_of n) ≡ true → node_of n ≡ Node.null
rest_is_null KeptNode.Null b i l y s e f h = refl
rest_is_null KeptNode.Boolean b i l y s e f h = absurd (b refl)
rest_is_null KeptNode.Int b i l y s e f h = absurd (i refl)
rest_is_null KeptNode.Long b i l y s e f h = absurd (l refl)
rest_is_null KeptNode.Bytes b i l y s e f h = absurd (y refl)
rest_is_null KeptNode.Str b i l y s e f h = absurd (s refl)
rest_is_null (KeptNode.Array id) b i l y s e f h = absurd cc
rest_is_null (KeptNode.Map id) b i l y s e f h = absurd cc
rest_is_null (KeptNode.Union ids) b i l y s e f h = absurd cc
rest_is_null (KeptNode.Record r) b i l y s e f h = absurd cc
rest_is_null (KeptNode.Enum m) b i l y s e f h = absurd (e m refl)
rest_is_null (KeptNode.Fixed m) b i l y s e f h = absurd (f m refl)

-- a node that is none of those with parts has none
pub none_have_parts : (n : KeptNode) → ((id : NodeId) → n ≡ KeptNode.Array id → ⊥) → ((id : NodeId) → n ≡ KeptNode.Map id → ⊥) → ((ids : Vec NodeId) → n ≡ KeptNode.Union ids → ⊥)
    → ((r : RecordNode) → n ≡ KeptNode.Record r → ⊥) → has_no_parts (node_of n) ≡ true
none_have_parts (KeptNode.Array id) a m u r = absurd (a id refl)
none_have_parts (KeptNode.Map id) a m u r = absurd (m id refl)
none_have_parts (KeptNode.Union ids) a m u r = absurd (u ids refl)
none_have_parts (KeptNode.Record n) a m u r = absurd (r n refl)
none_have_parts _ a m u r = refl

-- a node that can be a branch is no union
no_union : (n : Node) → is_some (branch_kind n) ≡ true → is_union n ≡ false
no_union (Node.union ids) h = absurd cc
no_union _ h = refl

each_no_union : (nodes : List Node) (ids : List ℕ) → list_all (λ id. is_some (branch_kind (node_at nodes id))) ids ≡ true → HoldsNoUnion nodes ids
each_no_union nodes [] h k id at = absurd cc
each_no_union nodes (i ∷ ids) h zero id at =
    let both = and_parts (is_some (branch_kind (node_at nodes i))) (list_all (λ j. is_some (branch_kind (node_at nodes j))) ids) h in
    let same : i ≡ id = cc in
    subst (λ (j : ℕ). is_union (node_at nodes j) ≡ false) same (no_union (node_at nodes i) both.0)
each_no_union nodes (i ∷ ids) h (suc k) id at =
    each_no_union nodes ids (and_parts (is_some (branch_kind (node_at nodes i))) (list_all (λ j. is_some (branch_kind (node_at nodes j))) ids) h).1 k id at

-- the branches of a schema's unions are none
pub no_union_held : (nodes : List Node) (w : ℕ) (ids : List ℕ) → is_schema nodes ≡ true → node_at nodes w ≡ Node.union ids → HoldsNoUnion nodes ids
no_union_held nodes w ids formed is =
    let good = subst (λ (n : Node). meets_its_rules nodes n ≡ true) is (good_at nodes formed w).ruled in
    let plain = list_all (λ id. is_some (branch_kind (node_at nodes id))) ids in
    let both = and_parts (nat_lt 0 (length ids) && plain) (are_distinct same_kind (filter_map (λ id. branch_kind (node_at nodes id)) ids)) good in
    each_no_union nodes ids (and_parts (nat_lt 0 (length ids)) plain both.0).1
