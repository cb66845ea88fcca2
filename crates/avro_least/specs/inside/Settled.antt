-- A search over the nodes of a schema.
use Rattle.std.specs.Prelude.{◌≡◌, ℕ, List, length}
use Rattle.avro_schema.specs.Node.{Node, node_at}
use Rattle.avro_least.specs.Tables.{LeastTable, AtMost, AreDataShown, least_datum}
use Rattle.avro_least.specs.SeenLeast.{table_of}
use Rattle.avro_least.specs.declared.queue.Search.{Search}

-- no step lowers the entry of a node
abbrev pub IsLowAt : List Node → ℕ → LeastTable → ℕ → Type 0
IsLowAt nodes limit table p = (s d : ℕ) → AtMost (least_datum limit table (node_at nodes p)) s d → AtMost (table p) s d

abbrev pub table_in : Search → LeastTable
table_in search = table_of search.entries.items

-- each node has an entry, and those that are set are of data
pub record IsOver (nodes : List Node) (limit : ℕ) (search : Search) : Type 0 where
  pub one_each : length search.entries.items ≡ length nodes
  pub shown : AreDataShown nodes limit (table_in search)
