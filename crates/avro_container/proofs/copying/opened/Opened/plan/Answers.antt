use Rattle.std.proofs.Common.{subst, sym}
use Rattle.std.specs.Option.{IfSome}
use Rattle.avro_schema.specs.SeenSchema.{schema_nodes}
use Rattle.avro_resolve.specs.Tables.{IsTableOf}
use Rattle.avro_container.proofs.copying.opened.Opened.plan.Goals as goal

pub plan-requires : goal.plan-requires
plan-requires c =
    let nodes = schema_nodes c.self.inside.header.schema in
    let target = c.in-Some.target in
    let kept : IsTableOf nodes (schema_nodes target.reader.now.1) target.table =
    subst (λ o. IfSome o (λ t. IsTableOf nodes (schema_nodes t.reader.now.1) t.table)) c.in-Some.is c.self.invariant in
    let read : IsTableOf nodes (schema_nodes c.schema-reader.result.now) target.table =
    subst (λ s. IsTableOf nodes (schema_nodes s) target.table) (sym c.schema-reader.ensures.schema) kept in
    subst (λ s. IsTableOf (schema_nodes s) (schema_nodes c.schema-reader.result.now) target.table) (sym c.schema-writer.ensures) read
