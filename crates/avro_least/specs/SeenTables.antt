-- How contracts see the tables that a least datum that errs is built by.
use Rattle.indexmap.specs.IndexSet.{keys}
use Rattle.avro_least.specs.Tables.{ErringTable, LeastTable, erring_of}
use Rattle.avro_least.specs.SeenLeast.{seen_all, table_of}
use Rattle.avro_least.specs.declared.datum.tables.Tables.{Tables}

-- the least data of the writer's nodes
abbrev pub least_in : Tables → LeastTable
least_in tables = table_of tables.table.now

-- the least data that err at pairs
abbrev pub erring_in : Tables → ErringTable
erring_in tables = erring_of tables.count (table_of tables.table.now) (keys tables.reached.now.known) (seen_all tables.entries.now)
