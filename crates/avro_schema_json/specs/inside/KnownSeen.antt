-- How contracts see the names that are known, and the numbers of their namespaces.
use Rattle.std.specs.Prelude.{◌≡◌, ℕ, List, Some}
use Rattle.avro_schema_json.specs.Declares.{Known}
use Rattle.avro_schema_json.specs.inside.KnownNames.{number_of, known_in}
use Rattle.avro_schema_json.specs.declared.declarations.name_table.NameTable.{NameTable}
use Rattle.avro_schema_json.specs.declared.declarations.name_table.Space.{Space}

abbrev pub known_of : NameTable → Known
known_of names = known_in names.numbers.keys names.ids.entries

-- the namespace has this number
abbrev pub IsNumbered : NameTable → Space → Type 0
IsNumbered names space = number_of names.numbers space.namespace ≡ Some space.number

-- each namespace keeps its number
abbrev pub KeepsNumbers : NameTable → NameTable → Type 0
KeepsNumbers before after = (namespace : List ℕ) (number : ℕ) → number_of before.numbers namespace ≡ Some number → number_of after.numbers namespace ≡ Some number
