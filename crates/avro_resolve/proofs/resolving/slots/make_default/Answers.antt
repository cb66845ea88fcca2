use Rattle.std.proofs.Common.{◌≡◌, ap, subst, sym, true}
use Rattle.std.specs.Prelude.{IfOk, unwrap_or}
use Rattle.avro_schema.specs.Fits.{fits}
use Rattle.avro_schema.specs.Node.{node_at}
use Rattle.avro_schema.specs.Seen.{default_of}
use Rattle.avro_schema.specs.SeenSchema.{schema_nodes}
use Rattle.avro_schema.specs.Value.{Value}
use Rattle.avro_resolve.specs.inside.Guided.{of_node}
use Rattle.avro_resolve.proofs.resolving.slots.make_default.Goals as goal

pub returns-in-None-clause-stands : goal.returns-in-None-clause-stands
returns-in-None-clause-stands g c = λ fit.
    let nodes = schema_nodes c.args.reader.now in
    let n = node_at nodes c.args.f.now.node.0 in
    let null : unwrap_or (default_of c.args.f.now.default) Value.null ≡ Value.null = ap (λ o. unwrap_or (default_of o) Value.null) c.in-None.is in
    subst (λ v. IfOk c.leaf.result (λ out. of_node (g.M.Make.stands_for c.leaf.new.self) nodes c.args.f.now.node.0 out v)) (sym null)
    (subst (λ at. IfOk c.leaf.result (λ out. g.M.Make.stands_for c.leaf.new.self nodes n at out Value.null)) c.of-at.ensures
    (c.leaf.ensures.stands nodes n (subst (λ v. fits nodes n v ≡ true) null fit)))
