-- Tables of all nodes: what they say.
use Rattle.std.specs.Prelude.{List}
use Rattle.avro_schema.specs.Node.{Node}
use Rattle.avro_schema_json.specs.inside.Kinds.{AreKinds}
use Rattle.avro_schema_json.specs.inside.Repeats.{AreNamesDistinct}
use Rattle.avro_schema_json.specs.inside.Parents.{AreParents}
use Rattle.avro_schema_json.specs.inside.Symbols.{AreSymbols}
use Rattle.avro_schema_json.specs.inside.Steps.{AreSteps}
use Rattle.avro_schema_json.specs.declared.defaults.tables.Tables.{Tables}
use Rattle.avro_schema_json.specs.declared.defaults.tables.Marking.{Marking}

pub record AreTables (nodes : List Node) (tables : Tables) : Type 0 where
  pub kinds : AreKinds nodes tables.last tables.kinds
  pub symbols : AreSymbols nodes tables.last tables.labels tables.parents
  pub parents : AreParents nodes tables.last tables.labels tables.parents
  pub distinct : AreNamesDistinct nodes

-- the tables are those of nodes, and each step that was found is one of theirs
pub record IsMarking (nodes : List Node) (marking : Marking) : Type 0 where
  pub tables : AreTables nodes marking.tables
  pub steps : AreSteps marking.tables.parents marking.marks.memo
