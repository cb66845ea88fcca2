-- How contracts see the program's tables of least data.
use Rattle.std.specs.Prelude.{ℕ, ◌+◌, ◌*◌, ◌^◌, Bool, true, false, List, Option, Some, None, slice_get, map}
use Rattle.std.specs.List.{sum_by}
use Rattle.avro_least.specs.Tables.{Least, LeastTable, one, no_parts, precedes}
use Rattle.avro_least.specs.declared.kept.Least.{Least as KeptLeast}

-- an entry of the program, as an entry
abbrev pub seen : Option KeptLeast → Option Least
seen None = None
seen (Some e) = Some (record { nodes = e.nodes; depth = e.depth })

-- past the end stand nulls
abbrev pub entry_of : Option (Option KeptLeast) → Option Least
entry_of None = Some one
entry_of (Some e) = seen e

-- a table of the program, by index
abbrev pub table_of : List (Option KeptLeast) → LeastTable
table_of es p = entry_of (slice_get es p)

-- whether the first is an entry below the second
abbrev pub improves : Option Least → Option Least → Bool
improves None b = false
improves (Some a) None = true
improves (Some a) (Some b) = precedes a b

-- falls with each entry that is improved
abbrev pub weight : Option KeptLeast → ℕ
weight None = 2 ^ 51
weight (Some e) = e.nodes * 2 ^ 25 + e.depth

-- the sum of the weights of a table
abbrev pub weights : List (Option KeptLeast) → ℕ
weights es = sum_by weight es

-- several entries
abbrev pub seen_all : List (Option KeptLeast) → List (Option Least)
seen_all es = map seen es

-- past the end stands the least of all
abbrev pub given_entry : Option (Option KeptLeast) → Option Least
given_entry None = Some no_parts
given_entry (Some e) = seen e
