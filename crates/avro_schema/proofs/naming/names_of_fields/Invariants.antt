use Rattle.std.proofs.Common.{◌≡◌, ◌++◌, map, flat_map, drop}
use Rattle.avro_schema.specs.Seen.{texts_of, seen_fields}
use Rattle.avro_schema.specs.WellFormed.{field_names}
use Rattle.avro_schema.proofs.naming.names_of_fields.Given as goal

abbrev pub invariant-loop-field : goal.invariant-loop-field
invariant-loop-field l = map (λ t. t.now) l.names.items ++ flat_map field_names (seen_fields (drop l.field-index l.fields)) ≡ flat_map field_names (seen_fields l.fields)

abbrev pub invariant-loop-alias : goal.invariant-loop-alias
invariant-loop-alias l = map (λ t. t.now) l.names.items ++ texts_of (drop l.alias-index l.alias-items) ≡ map (λ t. t.now) l.initial.names.items ++ texts_of l.alias-items
