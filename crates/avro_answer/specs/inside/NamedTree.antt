-- The tree of a place by names.
use Rattle.std.specs.Prelude.{string_bytes}
use Rattle.serde_json.specs.Data.{Data}
use Rattle.avro_answer.specs.JsonAnswer.{place_tree}
use Rattle.avro_answer.specs.declared.named_place.NamedPlace.{NamedPlace}

abbrev pub named_place_tree : NamedPlace → Data
named_place_tree place = place_tree place.node (string_bytes place.at) (string_bytes place.type_text)
