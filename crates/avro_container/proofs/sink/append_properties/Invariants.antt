use Rattle.std.proofs.Common.{◌≡◌, ◌++◌, drop}
use Rattle.avro_cursor.specs.Encoding.{plain_entries}
use Rattle.avro_file.specs.File.{property_entries}
use Rattle.avro_file.specs.Parts.{properties_of}
use Rattle.avro_container.proofs.sink.append_properties.Given as goal

-- with what is left, the output is that at the end
abbrev pub invariant-loop-name : goal.invariant-loop-name
invariant-loop-name l =
    l.out.items ++ plain_entries (property_entries (properties_of (drop l.name-index l.metadata)))
    ≡ l.fn.out.items ++ plain_entries (property_entries (properties_of l.metadata))
