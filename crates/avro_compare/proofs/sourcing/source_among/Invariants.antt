use Rattle.std.proofs.Common.{◌≡◌, drop}
use Rattle.avro_schema.specs.Seen.{seen_fields, texts_of}
use Rattle.avro_compare.specs.Source.{first_index}
use Rattle.avro_compare.proofs.sourcing.source_among.Given as goal

abbrev pub invariant-loop-alias : goal.invariant-loop-alias
invariant-loop-alias l = first_index (seen_fields l.fields) (texts_of l.alias-items) ≡ first_index (seen_fields l.fields) (texts_of (drop l.alias-index l.alias-items))
