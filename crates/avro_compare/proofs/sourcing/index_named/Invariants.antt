use Rattle.std.proofs.Common.{◌≡◌, drop, bytes_eq}
use Rattle.std.specs.List.{position_from}
use Rattle.avro_schema.specs.Seen.{seen_fields}
use Rattle.avro_compare.specs.Source.{field_index}
use Rattle.avro_compare.proofs.sourcing.index_named.Given as goal

abbrev pub invariant-loop-index : goal.invariant-loop-index
invariant-loop-index l =
    field_index (seen_fields l.fields) l.name ≡ position_from (λ f. bytes_eq f.name l.name) l.index (seen_fields (drop l.index l.fields))
