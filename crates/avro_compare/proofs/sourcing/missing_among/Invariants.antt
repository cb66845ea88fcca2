use Rattle.std.proofs.Common.{◌≡◌, drop}
use Rattle.avro_schema.specs.Seen.{seen_fields}
use Rattle.avro_compare.specs.Source.{missing_field, missing_field_from}
use Rattle.avro_compare.proofs.sourcing.missing_among.Given as goal

abbrev pub invariant-loop-index : goal.invariant-loop-index
invariant-loop-index l =
    missing_field (seen_fields l.writer) (seen_fields l.reader) ≡ missing_field_from l.index (seen_fields l.writer) (seen_fields (drop l.index l.reader))
