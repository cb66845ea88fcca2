use Rattle.avro_schema.specs.Node.{node_at}
use Rattle.avro_schema.specs.SeenSchema.{schema_nodes}
use Rattle.avro_compare.specs.inside.NamedTypes.{named_type, aliases_of}
use Rattle.avro_compare.specs.inside.TypeNames.{NameKey, has_alias, holds}
use Rattle.avro_compare.proofs.HeldAliases.{HoldsUpTo}
use Rattle.avro_compare.proofs.reader_types.alias_sets.Given as goal

abbrev pub invariant-loop-index : goal.invariant-loop-index
invariant-loop-index l = (key : NameKey) → HoldsUpTo l.index (λ b. has_alias l.texts key (aliases_of (named_type (node_at (schema_nodes l.reader) b)))) (holds l.sets key)
