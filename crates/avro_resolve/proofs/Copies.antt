-- What a record of the reader's is made of where its fields are copied.
use Rattle.std.proofs.Common.{◌≡◌, ℕ, List, [], sym, subst}
use Rattle.std.specs.Prelude.{map}
use Rattle.avro_schema.specs.Value.{Value}
use Rattle.avro_schema.specs.Node.{Node, FieldNode}
use Rattle.avro_binary.specs.declared.place.Place.{Place}
use Rattle.avro_compare.specs.Planned.{AreSources}
use Rattle.avro_compare.specs.Resolve.{Sourced, field_value}
use Rattle.avro_resolve.specs.Copied.{ArePlain}
use Rattle.avro_resolve.specs.inside.Guided.{AreFitting, AreLeaves}

-- what is made of encodings stands for the values of a record's fields
abbrev pub CopiedBy : {F : Type 0} → (List Node → List FieldNode → Place → F → List Value → Type 0) → (List Node → List FieldNode → Place → F → List Value → Type 0) → List (ℕ × ℕ) → F → F → List ℕ → List ℕ → List Node → List FieldNode → Type 0
CopiedBy T U sources start fields bytes ends nodes rs =
    (ws : List FieldNode) (found : Sourced) (at : Place) → AreSources ws rs sources → ArePlain nodes ws rs found bytes ends → AreLeaves nodes ws rs
    → AreFitting nodes rs (field_value ws found) → T nodes rs at start [] → U nodes rs at fields (map (field_value ws found) rs)

-- of the same nodes, fields and ends
pub copied_by : {F : Type 0} (T U : List Node → List FieldNode → Place → F → List Value → Type 0) (sources : List (ℕ × ℕ)) (start fields : F) (bytes to : List ℕ) {ends : List ℕ} {nodes reader : List Node} {rs ys : List FieldNode} → nodes ≡ reader → rs ≡ ys → ends ≡ to
    → CopiedBy T U sources start fields bytes ends nodes rs → CopiedBy T U sources start fields bytes to reader ys
copied_by T U sources start fields bytes to {ends = ends} {nodes = nodes} {reader = reader} {rs = rs} {ys = ys} e f g h =
    subst (λ (xs : List ℕ). CopiedBy T U sources start fields bytes xs reader ys) g
    (subst (λ (gs : List FieldNode). CopiedBy T U sources start fields bytes ends reader gs) f (subst (λ (ns : List Node). CopiedBy T U sources start fields bytes ends ns rs) e h))
