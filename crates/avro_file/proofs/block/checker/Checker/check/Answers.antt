-- Where a datum has no bytes, a block has one byte or none.
use Rattle.std.proofs.Common.{arith}
use Rattle.std.specs.Prelude.{None}
use Rattle.avro_schema.specs.SeenSchema.{schema_nodes}
use Rattle.avro_file.specs.BlockFails.{BlockReading, FileLimitValues}
use Rattle.avro_file.specs.DataRead.{reading}
use Rattle.avro_file.specs.declared.header.Header.{Header}
use Rattle.avro_file.proofs.public.EmptyData.{empty-left, empty-whole}
use Rattle.avro_file.proofs.block.checker.Checker.check.Goals as goal

abbrev read_by : Header × FileLimitValues → BlockReading
read_by v = reading v.1 (schema_nodes v.0.schema) v.0.sync None

pub returns-then-is_empty-clause-found : goal.returns-then-is_empty-clause-found
returns-then-is_empty-clause-found c = grind (arith, empty-whole)

pub returns-then-self-clause-refused : goal.returns-then-self-clause-refused
returns-then-self-clause-refused c = grind (arith, empty-left)
