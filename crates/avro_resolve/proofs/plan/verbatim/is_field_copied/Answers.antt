use Rattle.std.proofs.Common.{◌<◌, length, subst, rules}
use Rattle.avro_schema.specs.Seen.{field_of, seen_fields}
use Rattle.avro_schema.specs.SeenSchema.{schema_nodes}
use Rattle.avro_compare.proofs.public.Planning.{same_some}
use Rattle.avro_resolve.specs.Copied.{CopiedFrom}
use Rattle.avro_resolve.proofs.Flagging.{id_there}
use Rattle.avro_resolve.proofs.plan.verbatim.is_field_copied.Goals as goal

pub returns-else-field-writes : goal.returns-else-field-writes
returns-else-field-writes c = λ k is yes.
    let from = c.index-writes-field.result in
    let low : c.in-Some.field < length c.args.writes.now = search rules in
    subst (λ j. CopiedFrom (schema_nodes c.args.plan.now.0) (schema_nodes c.args.plan.now.1) (seen_fields c.args.writes.now) (field_of c.args.f.now) j) (same_some c.in-Some.is is)
    (from.node.0, id_there c.args.writes.now c.in-Some.field from low c.index-writes-field.is, c.is_copied.ensures yes)
