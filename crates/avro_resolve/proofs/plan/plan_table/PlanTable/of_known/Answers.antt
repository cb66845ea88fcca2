use Rattle.std.proofs.Common.{subst, sym}
use Rattle.avro_schema.specs.SeenSchema.{schema_nodes}
use Rattle.avro_compare.specs.Planned.{AreComparisons}
use Rattle.avro_resolve.specs.Copied.{AreFlags}
use Rattle.avro_resolve.proofs.plan.plan_table.PlanTable.of_known.Goals as goal

pub indices_of-requires : goal.indices_of-requires
indices_of-requires c = subst (λ pairs. AreComparisons (schema_nodes c.args.writer.now) (schema_nodes c.args.reader.now) pairs) (sym c.deref.ensures.value) c.requires

pub flags_of-requires : goal.flags_of-requires
flags_of-requires c = subst (λ pairs. AreComparisons (schema_nodes c.args.writer.now) (schema_nodes c.args.reader.now) pairs) (sym c.deref-2.ensures.value) c.requires

pub returns : goal.returns
returns c = (
  c.requires,
  subst (λ pairs. AreFlags (schema_nodes c.args.writer.now) (schema_nodes c.args.reader.now) pairs c.in_ok-flags.flags.items) c.deref-2.ensures.value c.in_ok-flags.ensures,
)
