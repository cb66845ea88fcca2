-- What a record of the reader's is filled with.
use Rattle.std.proofs.Common.{◌≡◌, ℕ, true, List, [], ◌∷◌, Option, subst}
use Rattle.std.specs.Prelude.{map}
use Rattle.std.proofs.lemmas.Bool.{and_parts}
use Rattle.avro_schema.specs.Value.{Value}
use Rattle.avro_schema.specs.Node.{Node, FieldNode, node_at, field_ids}
use Rattle.avro_schema.specs.Fits.{fits, fields_fit}
use Rattle.avro_schema.specs.Seen.{values_from}
use Rattle.avro_binary.specs.declared.place.Place.{Place}
use Rattle.avro_compare.specs.Fields.{IsField, here, later}
use Rattle.avro_compare.specs.Resolve.{Sourced, field_value}
use Rattle.avro_resolve.specs.Ends.{SlotsAre}
use Rattle.avro_resolve.specs.inside.Guided.{AreFitting, of_node}

-- of values that fit some fields, each fits its own
pub fitting_all : (nodes : List Node) (all : List FieldNode) (worth : FieldNode → Value) → fields_fit nodes (field_ids all) (values_from (map worth all)) ≡ true → AreFitting nodes all worth
fitting_all nodes all worth h f (here {fs = fs}) = (and_parts (fits nodes (node_at nodes f.node) (worth f)) (fields_fit nodes (field_ids fs) (values_from (map worth fs))) h).0
fitting_all nodes all worth h f (later {g = g} {fs = fs} is) =
    fitting_all nodes fs worth (and_parts (fits nodes (node_at nodes g.node) (worth g)) (fields_fit nodes (field_ids fs) (values_from (map worth fs))) h).1 f is

-- what is made of slots stands for the values of a record's fields
abbrev pub FilledBy : {O F : Type 0} → (List Node → Node → Place → O → Value → Type 0) → (List Node → List FieldNode → Place → F → List Value → Type 0) → (List Node → List FieldNode → Place → F → List Value → Type 0) → List (Option O) → F → F → List Node → List FieldNode → List FieldNode → Type 0
FilledBy S T U slots start fields nodes ws rs =
    (found : Sourced) (at : Place) → AreFitting nodes rs (field_value ws found) → SlotsAre (of_node S nodes) ws rs found slots → T nodes rs at start [] → U nodes rs at fields (map (field_value ws found) rs)

-- of the same nodes and fields
pub filled_by : {O F : Type 0} (S : List Node → Node → Place → O → Value → Type 0) (T U : List Node → List FieldNode → Place → F → List Value → Type 0) (slots : List (Option O)) (start fields : F) {nodes reader : List Node} {ws xs rs ys : List FieldNode} → nodes ≡ reader → ws ≡ xs → rs ≡ ys
    → FilledBy S T U slots start fields nodes ws rs → FilledBy S T U slots start fields reader xs ys
filled_by S T U slots start fields {nodes = nodes} {reader = reader} {ws = ws} {xs = xs} {rs = rs} e f g h =
    subst (λ (gs : List FieldNode). FilledBy S T U slots start fields reader xs gs) g
    (subst (λ (gs : List FieldNode). FilledBy S T U slots start fields reader gs rs) f (subst (λ (ns : List Node). FilledBy S T U slots start fields ns ws rs) e h))
