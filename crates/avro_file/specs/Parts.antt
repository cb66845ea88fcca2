-- The parts of a file that are put, in their plain form (Avro 1.11, "Object Container Files").
use Rattle.std.specs.Prelude.{ℕ, pos, List, ◌++◌, length, map, String, string_bytes}
use Rattle.std.specs.declared.alloc.Global.{Global}
use Rattle.std.specs.declared.vec.Vec.{Vec}
use Rattle.avro_zigzag.specs.Number.{number_bytes}
use Rattle.avro_cursor.specs.Encoding.{plain}
use Rattle.avro_file.specs.File.{Property, metadata_value, magic}

-- an entry of the program's metadata: a text as its bytes, and bytes
abbrev pub property_of : (String Global × Vec ℕ Global) → Property
property_of e = record { name = string_bytes e.0; content = e.1.items }

-- several of them
abbrev pub properties_of : List (String Global × Vec ℕ Global) → List Property
properties_of entries = map property_of entries

-- a header as it is put: the metadata, in order, in one block if there is any, and the marker
abbrev pub header_part : List Property → List ℕ → List ℕ
header_part properties sync = magic ++ (plain (metadata_value properties) ++ sync)

-- a block as it is put, of `count` data, whose bytes are `body`
abbrev pub block_part : List ℕ → ℕ → List ℕ → List ℕ
block_part sync count body = number_bytes (pos count) ++ (number_bytes (pos (length body)) ++ (body ++ sync))
