-- What `avro header` prints of the header of a file.
use Rattle.std.specs.Prelude.{◌≡◌, ℕ, Bool, true, false, List, [], ◌∷◌, ◌++◌, Some, codes, encode_utf8_all}
use Rattle.serde_json.specs.Data.{Data, string, object, Members, no_members, put}
use Rattle.avro_answer.specs.JsonAnswer.{json_line}
use Rattle.avro_file.specs.File.{Property, property}
use Rattle.avro_file.specs.HeaderTaken.{TakesMetadata}

-- each property put among the members, in the order of the keys: under its name, a text of one character for each byte of its content
abbrev pub put_properties : List Property → Members → Members
put_properties [] members = members
put_properties (p ∷ ps) members = put_properties ps (put p.name (string (encode_utf8_all p.content)) members)

-- the metadata as an object
abbrev pub metadata_tree : List Property → Data
metadata_tree properties = object (put_properties properties no_members)

-- the line of a header: all of its metadata as JSON, or the text of its schema, and a line feed
abbrev pub IsHeaderLine : Bool → List Property → List ℕ → Type 0
IsHeaderLine true properties line = line ≡ json_line (metadata_tree properties)
IsHeaderLine false properties line = (text : List ℕ) × (property (codes "avro.schema") properties ≡ Some text) × (line ≡ text ++ 10 ∷ [])

-- exactly a header with this metadata was taken from an input, within the limit, and this is its line
abbrev pub IsHeaderTold : {I : Type 0} → (I → List ℕ → I → Type 0) → I → I → ℕ → Bool → List ℕ → Type 0
IsHeaderTold gives from to limit is_metadata line = (properties : List Property) × TakesMetadata gives from to limit properties × IsHeaderLine is_metadata properties line
