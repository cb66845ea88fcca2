use Rattle.std.proofs.Common.{◌≡◌, true, subst, sym, rules}
use Rattle.std.specs.Prelude.{bytes_eq}
use Rattle.std.specs.List.{flat_map}
use Rattle.avro_schema.specs.Distinct.{are_distinct}
use Rattle.avro_schema.specs.Node.{node_at}
use Rattle.avro_schema.specs.WellFormed.{field_names}
use Rattle.avro_schema.specs.Seen.{seen_fields}
use Rattle.avro_schema.specs.SeenSchema.{schema_nodes}
use Rattle.avro_compare.specs.Resolve.{fields_at}
use Rattle.avro_compare.proofs.public.Rules.{distinct_fields}
use Rattle.avro_compare.proofs.sourcing.fields_of.Goals as goal

pub returns-clause-distinct : goal.returns-clause-distinct
returns-clause-distinct c =
    let seen : seen_fields c.unwrap_or.result.now ≡ fields_at (node_at (schema_nodes c.args.schema.now) c.args.id.0) = search rules in
    subst (λ fs. are_distinct bytes_eq (flat_map field_names fs) ≡ true) (sym seen) (distinct_fields (schema_nodes c.args.schema.now) c.args.id.0 c.get.ensures.formed)
