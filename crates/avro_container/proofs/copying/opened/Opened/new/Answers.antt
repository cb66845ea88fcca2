use Rattle.std.proofs.Common.{subst}
use Rattle.avro_schema.specs.SeenSchema.{schema_nodes}
use Rattle.avro_resolve.specs.Tables.{IsTableOf}
use Rattle.avro_container.proofs.copying.opened.Opened.new.Goals as goal

pub invariant_of-result : goal.invariant_of-result
invariant_of-result c =
    let of_header = subst (λ s. IsTableOf (schema_nodes s) (schema_nodes c.schema-in-Some.result.now) c.in_ok-table-in-Some.table) c.schema.ensures c.in_ok-table-in-Some.ensures in
    subst (λ s. IsTableOf (schema_nodes c.args.header.schema) (schema_nodes s) c.in_ok-table-in-Some.table) c.schema-in-Some.ensures.schema of_header
