use Rattle.std.proofs.Common.{subst, sym}
use Rattle.avro_schema.specs.SeenSchema.{schema_nodes}
use Rattle.avro_compare.specs.Planned.{AreComparisons}
use Rattle.avro_resolve.specs.Copied.{AreFlags}
use Rattle.avro_resolve.proofs.plan.plan_table.PlanTable.plan.Goals as goal

pub new-requires-clause-pairs : goal.new-requires-clause-pairs
new-requires-clause-pairs c =
    subst (λ pairs. AreComparisons (schema_nodes c.before.args.writer.now) (schema_nodes c.before.args.reader.now) pairs) (sym c.deref.ensures.value) c.requires.0

pub new-requires-clause-flags : goal.new-requires-clause-flags
new-requires-clause-flags c =
    subst (λ flags. AreFlags (schema_nodes c.before.args.writer.now) (schema_nodes c.before.args.reader.now) c.deref.result.now flags) (sym c.deref-3.ensures.value)
    (subst (λ pairs. AreFlags (schema_nodes c.before.args.writer.now) (schema_nodes c.before.args.reader.now) pairs c.args.self.now.flags.items) (sym c.deref.ensures.value) c.requires.1)
