use Rattle.std.proofs.Common.{◌≡◌, ◌∙◌, refl, true, subst, sym, rules}
use Rattle.std.specs.Prelude.{IfOk, IfSome}
use Rattle.avro_schema.specs.Fits.{fits}
use Rattle.avro_schema.specs.Node.{node_at}
use Rattle.avro_schema.specs.Seen.{field_of}
use Rattle.avro_schema.specs.SeenSchema.{schema_nodes}
use Rattle.avro_compare.specs.Resolve.{field_value}
use Rattle.avro_resolve.specs.inside.Guided.{of_node}
use Rattle.avro_resolve.proofs.PiecesMade.{value_copied, value_given}
use Rattle.avro_resolve.proofs.resolving.copying.copy_field.Goals as goal

pub returns-else-not-is_as_written-clause-stands : goal.returns-else-not-is_as_written-clause-stands
returns-else-not-is_as_written-clause-stands g c = λ ws rs found src is plain leaves fit.
    let yes : c.is_as_written.result ≡ true = search rules in
    let nodes = schema_nodes c.args.reader.now in
    let f = field_of c.args.f.now in
    let n = node_at nodes f.node in
    let worth = field_value ws found f in
    subst (λ at. IfOk c.copied.result (λ o. IfSome o (λ out. g.M.Make.stands_for c.copied.new.self nodes n at out worth))) c.of.ensures
    (c.copied.ensures.stands nodes n worth (leaves f is c.in-Some.field (sym src ∙ c.in-Some.is)) fit
    (value_copied nodes ws rs found c.args.pieces.bytes.now c.args.pieces.ends.now f c.in-Some.field c.in-Some-piece_of.content.now
    (sym src ∙ c.in-Some.is) is plain c.in-Some-piece_of.ensures (c.is_as_written.ensures yes)))

pub returns-in_ok-out-in-None-clause-stands : goal.returns-in_ok-out-in-None-clause-stands
returns-in_ok-out-in-None-clause-stands g c = λ ws rs found src is plain leaves fit.
    let nodes = schema_nodes c.args.reader.now in
    let f = field_of c.args.f.now in
    let same = value_given ws found f (sym src ∙ c.in-None.is) in
    subst (λ v. of_node (g.M.Make.stands_for c.make_default.new.maker) nodes f.node c.in_ok-out-in-None.out v) (sym same)
    (c.in_ok-out-in-None.ensures.stands (subst (λ v. fits nodes (node_at nodes f.node) v ≡ true) same fit))
