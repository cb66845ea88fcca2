use Rattle.std.proofs.Common.{◌≡◌, map, drop}
use Rattle.std.specs.List.{list_all}
use Rattle.avro_name.specs.Name.{is_simple_name}
use Rattle.avro_schema.proofs.naming.are_simple_names.Given as goal

abbrev pub invariant-loop-text : goal.invariant-loop-text
invariant-loop-text l = list_all is_simple_name (map (λ t. t.now) l.texts) ≡ list_all is_simple_name (map (λ t. t.now) (drop l.text-index l.texts))
