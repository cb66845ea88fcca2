-- Whether branches make a union, by their kinds.
use Rattle.std.proofs.Common.{◌≡◌, ℕ, Bool, true, false, ◌&&◌, List, length, map, filter_map, refl, nat_lt}
use Rattle.std.specs.Prelude.{Option, Some, None}
use Rattle.std.specs.Global.{Vec}
use Rattle.std.specs.List.{list_all}
use Rattle.avro_schema.specs.Node.{Node}
use Rattle.avro_schema.specs.WellFormed.{is_union, same_kind}
use Rattle.avro_schema.specs.Distinct.{are_distinct}
use Rattle.avro_schema.specs.SeenKind.{kind_of, kind_at, has_kind, AreKinds}
use Rattle.avro_schema.specs.declared.branches.Kind.{Kind}

middle-false : (a b c : Bool) → b ≡ false → false ≡ (a && b && c)
middle-false false b c h = refl
middle-false true b c h = rw h refl

pub no_union : (nodes : List Node) (ids : List ℕ) (found : Option (Vec Kind)) → AreKinds nodes ids found → found ≡ None → false ≡ is_union nodes ids
no_union nodes ids None are is = middle-false (nat_lt 0 (length ids)) (list_all (has_kind nodes) ids) (are_distinct same_kind (filter_map (kind_at nodes) ids)) are
no_union nodes ids (Some kinds) are is = absurd cc

pub union_by_kinds : (nodes : List Node) (ids : List ℕ) (found : Option (Vec Kind)) (kinds : Vec Kind) → AreKinds nodes ids found → found ≡ Some kinds
    → nat_lt 0 (length ids) ≡ true → are_distinct same_kind (map kind_of kinds.items) ≡ is_union nodes ids
union_by_kinds nodes ids found kinds are is some =
    let these = rw is at are in
    rw (some, these.0, these.1) refl
