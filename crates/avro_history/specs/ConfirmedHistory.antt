-- When the certificates of a history show that a reader's schema takes the data of several writers'.
use Rattle.std.specs.Prelude.{Bool, true, false, ◌&&◌, List, [], ◌∷◌, map}
use Rattle.avro_schema.specs.Node.{Node}
use Rattle.avro_schema.specs.SeenSchema.{schema_nodes}
use Rattle.avro_schema.specs.declared.schema.Schema.{Schema}
use Rattle.avro_certificate.specs.Closed.{is_closed}
use Rattle.avro_history.specs.HistoryText.{Sets}

-- there are as many certificates as writers' schemas, and each is closed for its writer's and the reader's
abbrev pub are_closed : List (List Node) → List Node → List Sets → Bool
are_closed [] reader [] = true
are_closed (writer ∷ writers) reader (s ∷ sets) = is_closed writer reader s.dead s.pairs && are_closed writers reader sets
are_closed writers reader sets = false

-- the writers' schemas, as lists of nodes
abbrev pub nodes_of_all : List Schema → List (List Node)
nodes_of_all schemas = map schema_nodes schemas
