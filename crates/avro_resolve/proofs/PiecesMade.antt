-- What is made of the pieces of a record.
use Rattle.std.proofs.Common.{◌≡◌, ℕ, List, Some, None, refl, sym, ap, ◌∙◌, subst}
use Rattle.std.specs.Prelude.{unwrap_or}
use Rattle.avro_schema.specs.Value.{Value}
use Rattle.avro_schema.specs.Node.{Node, FieldNode, node_at}
use Rattle.avro_cursor.specs.Encoding.{plain}
use Rattle.avro_binary.specs.Pieces.{piece}
use Rattle.avro_compare.specs.Fields.{IsField}
use Rattle.avro_compare.specs.Resolve.{Sourced, field_value, sourced_at}
use Rattle.avro_compare.specs.Source.{source_of}
use Rattle.avro_resolve.specs.Copied.{ArePlain, IsAsSpelled}

-- a field's value, whose source is copied
pub value_copied : (reader : List Node) (ws rs : List FieldNode) (found : Sourced) (bytes ends : List ℕ) (f : FieldNode) (k : ℕ) (content : List ℕ) → source_of ws f ≡ Some k → IsField f rs
    → ArePlain reader ws rs found bytes ends → content ≡ piece bytes ends k → IsAsSpelled (node_at reader f.node) content → plain (field_value ws found f) ≡ content
value_copied reader ws rs found bytes ends f k content e is h same spelled =
    ap plain sourced ∙ h f is k e (subst (λ (b : List ℕ). IsAsSpelled (node_at reader f.node) b) same spelled) ∙ sym same
  where
    sourced : field_value ws found f ≡ sourced_at found k
    sourced = rw e refl

-- a field's value, which has no source
pub value_given : (ws : List FieldNode) (found : Sourced) (f : FieldNode) → source_of ws f ≡ None → field_value ws found f ≡ unwrap_or f.default Value.null
value_given ws found f e = rw e refl
