use Rattle.std.proofs.Common.{IfOk, subst}
use Rattle.avro_schema.specs.SeenSchema.{schema_nodes}
use Rattle.avro_schema.specs.declared.schema.Schema.{Schema}
use Rattle.avro_compare.specs.Planned.{AreComparisons}
use Rattle.avro_compare.proofs.comparing.compare_all.Goals as goal

pub returns : goal.returns
returns c =
    subst (λ (s : Schema × Schema). IfOk c.compare_each.result (λ kept. AreComparisons (schema_nodes s.0) (schema_nodes s.1) kept.items)) c.in_ok-names.ensures c.compare_each.ensures
