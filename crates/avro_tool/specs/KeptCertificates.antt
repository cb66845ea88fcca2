-- Which certificates `avro history --certificates` keeps.
use Rattle.std.specs.Prelude.{◌≡◌, true, List, ◌++◌, map}
use Rattle.avro_schema.specs.Node.{Node}
use Rattle.avro_certificate.specs.declared.kept.Certificate.{Certificate}
use Rattle.avro_history.specs.ConfirmedHistory.{are_closed}
use Rattle.avro_history.specs.HistoryText.{Sets}
use Rattle.avro_history.specs.SeenHistory.{set_of}

-- after the old certificates there is one for each writer's schema, in order, and each is closed for it and the reader's
abbrev pub AddsClosed : List (List Node) → List Node → List Certificate → List Certificate → Type 0
AddsClosed writers reader old new = (made : List Sets) × (map set_of new ≡ map set_of old ++ made) × (are_closed writers reader made ≡ true)
