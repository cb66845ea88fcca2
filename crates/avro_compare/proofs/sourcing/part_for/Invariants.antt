use Rattle.std.proofs.Common.{◌≡◌, drop}
use Rattle.avro_schema.specs.Seen.{seen_fields}
use Rattle.avro_compare.specs.Source.{reader_field}
use Rattle.avro_compare.proofs.sourcing.part_for.Given as goal

abbrev pub invariant-loop-index : goal.invariant-loop-index
invariant-loop-index l = reader_field (seen_fields l.writer) (seen_fields l.reader) l.field ≡ reader_field (seen_fields l.writer) (seen_fields (drop l.index l.reader)) l.field
