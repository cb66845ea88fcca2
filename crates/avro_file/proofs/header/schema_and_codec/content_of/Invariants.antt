-- What is left has what all have.
use Rattle.std.proofs.Common.{◌≡◌, drop}
use Rattle.avro_file.specs.File.{property}
use Rattle.avro_file.specs.Parts.{properties_of}
use Rattle.avro_file.proofs.header.schema_and_codec.content_of.Given as goal

abbrev pub invariant-loop-key : goal.invariant-loop-key
invariant-loop-key l = property l.name (properties_of (drop l.key-index l.properties)) ≡ property l.name (properties_of l.properties)
