-- How contracts see a schema and a draft: as the list of their nodes.
use Rattle.std.specs.Prelude.{List}
use Rattle.avro_schema.specs.Node.{Node}
use Rattle.avro_schema.specs.Seen.{nodes_of}
use Rattle.avro_schema.specs.declared.schema.Schema.{Schema}
use Rattle.avro_schema.specs.declared.draft.Draft.{Draft}

-- the nodes of a schema
abbrev pub schema_nodes : Schema → List Node
schema_nodes schema = nodes_of schema.nodes.items

-- the nodes that a draft has so far
abbrev pub draft_nodes : Draft → List Node
draft_nodes draft = nodes_of draft.nodes.items
