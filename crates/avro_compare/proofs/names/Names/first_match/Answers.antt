use Rattle.std.proofs.Common.{◌≡◌, ◌∙◌, sym, subst}
use Rattle.std.specs.Option.{IfSome}
use Rattle.avro_schema.specs.Node.{node_at}
use Rattle.avro_schema.specs.SeenSchema.{schema_nodes}
use Rattle.avro_schema.specs.declared.schema.Schema.{Schema}
use Rattle.avro_compare.specs.Match.{first_match_at}
use Rattle.avro_compare.specs.inside.TypeNames.{AreTypeNames}
use Rattle.avro_compare.proofs.NumberedTexts.{borrowed}
use Rattle.avro_compare.proofs.Pairing.{match_of_branches}
use Rattle.avro_compare.proofs.names.Names.first_match.Goals as goal

pub first_index-requires : goal.first_index-requires
first_index-requires c =
    let are = AreTypeNames (schema_nodes c.self.inside.writer.now) (schema_nodes c.self.inside.reader.now) in
    borrowed are c.as_ref.result (subst (λ o. IfSome o are) (sym c.as_ref.ensures.value) c.self.invariant.0)

pub returns : goal.returns
returns c =
    let ws = schema_nodes c.self.inside.writer.now in
    let rs = schema_nodes c.self.inside.reader.now in
    let w = c.args.w.0 in
    let r = c.args.r.0 in
    subst (λ (v : Schema × Schema). c.first_index.result ≡ first_match_at (schema_nodes v.0) (schema_nodes v.1) (node_at (schema_nodes v.0) w) (node_at (schema_nodes v.1) r))
    c.self.view_is (c.first_index.ensures ∙ match_of_branches ws rs (node_at ws w) (node_at rs r))
