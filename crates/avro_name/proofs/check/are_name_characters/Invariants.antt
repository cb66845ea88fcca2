use Rattle.std.proofs.Common.{◌≡◌, drop}
use Rattle.std.specs.List.{list_all}
use Rattle.avro_name.specs.Name.{is_name_character}
use Rattle.avro_name.proofs.check.are_name_characters.Given as goal

abbrev pub invariant-loop-byte : goal.invariant-loop-byte
invariant-loop-byte l = list_all is_name_character l.bytes ≡ list_all is_name_character (drop l.byte-index l.bytes)
