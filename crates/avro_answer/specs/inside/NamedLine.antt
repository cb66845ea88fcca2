-- A fault by names, its line and its tree.
use Rattle.std.specs.Prelude.{◌≡◌, ℕ, List, [], Option, option_map, unwrap_or, string_bytes}
use Rattle.serde_json.specs.Data.{Data}
use Rattle.avro_schema.specs.Node.{Node}
use Rattle.avro_explain.specs.declared.found.Finding.{Finding}
use Rattle.avro_explain.specs.declared.found.Place.{Place}
use Rattle.avro_answer.specs.FaultLine.{missing_of, line_of, IsFaultAt}
use Rattle.avro_answer.specs.JsonAnswer.{found_tree}
use Rattle.avro_answer.specs.PlaceText.{type_text, place_text}
use Rattle.avro_answer.specs.declared.named_fault.NamedFault.{NamedFault}
use Rattle.avro_answer.specs.inside.NamedTree.{named_place_tree}

abbrev pub missing_name : NamedFault → Option (List ℕ)
missing_name named = option_map (λ name. name.now) named.missing

abbrev pub missing_seen : NamedFault → List ℕ
missing_seen named = unwrap_or (missing_name named) []

abbrev pub named_line : NamedFault → List ℕ
named_line named = line_of named.detail (missing_seen named) (string_bytes named.writer.at) (string_bytes named.writer.type_text)
    (string_bytes named.reader.at) (string_bytes named.reader.type_text)

abbrev pub named_tree : NamedFault → Data
named_tree named = found_tree named.detail (missing_name named) (named_place_tree named.writer) (named_place_tree named.reader)

-- the names are those of a fault, by the two ways to its place
pub record IsNamed (writer reader : List Node) (places : List Place) (fault : Finding) (named : NamedFault) : Type 0 where
  pub found : IsFaultAt writer reader places fault
  pub detail : named.detail ≡ fault.detail
  pub missing : missing_name named ≡ missing_of writer reader found.place fault.detail
  pub writer_node : named.writer.node ≡ found.place.w.0
  pub reader_node : named.reader.node ≡ found.place.r.0
  pub writer_at : string_bytes named.writer.at ≡ place_text writer found.writer_way
  pub reader_at : string_bytes named.reader.at ≡ place_text reader found.reader_way
  pub written : string_bytes named.writer.type_text ≡ type_text 256 writer found.place.w.0
  pub read : string_bytes named.reader.type_text ≡ type_text 256 reader found.place.r.0
