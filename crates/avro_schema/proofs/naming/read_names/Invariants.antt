use Rattle.std.proofs.Common.{◌≡◌, drop}
use Rattle.std.specs.List.{list_all}
use Rattle.avro_name.specs.Name.{is_full_name}
use Rattle.avro_schema.proofs.naming.read_names.Given as goal

abbrev pub invariant-loop-alias : goal.invariant-loop-alias
invariant-loop-alias l = list_all is_full_name l.aliases ≡ list_all is_full_name (drop l.alias-index l.aliases)
