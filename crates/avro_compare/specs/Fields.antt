-- Fields among others.
use Rattle.std.specs.Prelude.{List, ◌∷◌}
use Rattle.avro_schema.specs.Node.{FieldNode}

-- a field is one of some fields
pub data IsField : FieldNode → List FieldNode → Type 0 where
  here : {f : FieldNode} {fs : List FieldNode} → IsField f (f ∷ fs)
  later : {f g : FieldNode} {fs : List FieldNode} → IsField f fs → IsField f (g ∷ fs)
