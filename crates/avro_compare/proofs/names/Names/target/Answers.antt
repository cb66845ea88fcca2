use Rattle.std.proofs.Common.{subst, sym}
use Rattle.avro_schema.specs.Node.{node_at}
use Rattle.avro_schema.specs.SeenSchema.{schema_nodes}
use Rattle.avro_schema.specs.declared.schema.Schema.{Schema}
use Rattle.avro_compare.specs.Pairs.{IsTarget}
use Rattle.avro_compare.proofs.public.Leading.{pair_leads}
use Rattle.std.specs.Option.{IfSome}
use Rattle.avro_compare.specs.inside.TypeNames.{AreTypeNames}
use Rattle.avro_compare.proofs.NumberedTexts.{borrowed}
use Rattle.avro_compare.proofs.names.Names.target.Goals as goal

pub target_by-requires : goal.target_by-requires
target_by-requires c =
    let are = AreTypeNames (schema_nodes c.self.inside.writer.now) (schema_nodes c.self.inside.reader.now) in
    borrowed are c.as_ref.result (subst (λ o. IfSome o are) (sym c.as_ref.ensures.value) c.self.invariant.0)

pub returns-clause-leads : goal.returns-clause-leads
returns-clause-leads c =
    let writer = schema_nodes c.self.inside.writer.now in
    let reader = schema_nodes c.self.inside.reader.now in
    let w = c.args.w in
    let r = c.args.r in
    subst (λ (v : Schema × Schema). IsTarget (schema_nodes v.0) (schema_nodes v.1) (node_at (schema_nodes v.0) w.0) (node_at (schema_nodes v.1) r.0) c.target_by.result)
    c.self.view_is (subst (λ a. IsTarget writer reader (node_at writer w.0) (node_at reader r.0) a) (sym c.target_by.ensures) (pair_leads writer reader w r))
