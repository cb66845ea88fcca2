use Rattle.std.proofs.Common.{IfOk, subst}
use Rattle.avro_schema.specs.SeenSchema.{schema_nodes}
use Rattle.avro_schema.specs.declared.schema.Schema.{Schema}
use Rattle.avro_compare.specs.Planned.{AreComparisons}
use Rattle.avro_resolve.proofs.plan.reachable.compare_reached.Goals as goal

pub returns : goal.returns
returns c =
    subst (λ (s : Schema × Schema). IfOk c.compare_from_roots.result (λ r. AreComparisons (schema_nodes s.0) (schema_nodes s.1) r.0.items)) c.in_ok-names.ensures c.compare_from_roots.ensures
