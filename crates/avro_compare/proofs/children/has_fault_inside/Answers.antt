use Rattle.std.proofs.Common.{◌∙◌, ap, sym, subst}
use Rattle.avro_schema.specs.Seen.{node_of, texts_of}
use Rattle.avro_schema.specs.declared.schema.Node.{Node as KeptNode}
use Rattle.avro_compare.specs.Children.{has_fault_of_kind}
use Rattle.avro_compare.specs.Planned.{AreInside}
use Rattle.avro_compare.proofs.public.Symbols.{lacking_some}
use Rattle.avro_compare.proofs.children.has_fault_inside.Goals as goal

pub returns-in-Enum-q : goal.returns-in-Enum-q
returns-in-Enum-q c =
    let pair = c.args.pair.now in
    let n = KeptNode.Enum c.in-Enum.field-0 in
    let q = KeptNode.Enum c.in-Enum-q.field-0 in
    let inside : AreInside (node_of n) (node_of q) pair =
    subst (λ (m : KeptNode). AreInside (node_of n) (node_of m) pair) c.in-Enum-q.is (subst (λ (m : KeptNode). AreInside (node_of m) (node_of c.args.q.now) pair) c.in-Enum.is c.requires) in
    c.lacks_symbol.ensures
    ∙ lacking_some (texts_of c.in-Enum.field-0.symbols.items) (texts_of c.in-Enum-q.field-0.symbols.items) c.in-Enum-q.field-0.default pair.lacking inside.lacking
    ∙ ap (λ (m : KeptNode). has_fault_of_kind (node_of n) (node_of m)) (sym c.in-Enum-q.is)
    ∙ ap (λ (m : KeptNode). has_fault_of_kind (node_of m) (node_of c.args.q.now)) (sym c.in-Enum.is)
