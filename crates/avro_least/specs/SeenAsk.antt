-- How contracts see the fields that a pair asks for.
use Rattle.std.specs.Prelude.{ℕ, suc, List, [], ◌∷◌, Option, Some, None, option_map, map}
use Rattle.avro_compare.specs.Entries.{first_entry, rest_entries}
use Rattle.avro_compare.specs.declared.comparison.At.{At}
use Rattle.avro_least.specs.Asked.{Row}
use Rattle.avro_least.specs.declared.pairs.asking.FieldAsk.{FieldAsk}

-- a row of the program, as a row
abbrev pub row_of : FieldAsk → Row
row_of row = record { node = row.node.0; theirs = option_map (λ id. id.0) row.theirs }

-- several of them
abbrev pub rows_of : List FieldAsk → List Row
rows_of rows = map row_of rows

-- the reader's field that a part is for
abbrev pub theirs_in : Option At → Option ℕ
theirs_in None = None
theirs_in (Some At.Ignored) = None
theirs_in (Some (At.Pair w r)) = Some r.0

-- each writer's field beside it, by what is kept of the fields from an index on
abbrev pub rows_by : List (ℕ × At) → ℕ → List ℕ → List Row
rows_by parts index [] = []
rows_by parts index (p ∷ ps) = record { node = p; theirs = theirs_in (first_entry parts index) } ∷ rows_by (rest_entries parts index) (suc index) ps
