-- A search over the pairs that were reached.
use Rattle.std.specs.Prelude.{◌≡◌, ◌≤◌, ◌*◌, ◌/◌, ◌%◌, ℕ, true, List, Option, Some, length, slice_get, unwrap_or, nat_lt}
use Rattle.std.specs.List.{list_all}
use Rattle.indexmap.specs.IndexSet.{keys}
use Rattle.avro_schema.specs.Node.{Node}
use Rattle.avro_schema.specs.SeenSchema.{schema_nodes}
use Rattle.avro_schema.specs.WellFormed.{is_schema}
use Rattle.avro_least.specs.Tables.{Least, LeastTable, AtMost, AreDataShown, no_parts, erring_of}
use Rattle.avro_least.specs.SeenLeast.{seen_all, table_of}
use Rattle.avro_least.specs.Asks.{AreFound}
use Rattle.avro_least.specs.Reached.{AreFollowed}
use Rattle.avro_least.specs.Asked.{asked_at, steps_at, ArePairsShown, IsLowAtIndex}
use Rattle.avro_least.specs.inside.Parts.{value_by_part, value_alone, AreOthers}
use Rattle.avro_least.specs.declared.pairs.graph.Graph.{Graph}
use Rattle.avro_least.specs.declared.queue.Search.{Search}

-- the entry of the pair at an index is no more than what it comes to by one part
abbrev pub IsTaken : List Node → List Node → ℕ → LeastTable → List ℕ → List (Option Least) → ℕ → ℕ → Type 0
IsTaken writer reader limit table keys entries i k = (own s d : ℕ) → slice_get keys i ≡ Some own
    → AtMost (value_by_part limit table (erring_of (length reader) table keys entries) (own / length reader) (own % length reader) (asked_at writer reader own) k) s d
    → AtMost (unwrap_or (slice_get entries i) (Some no_parts)) s d

-- and than by none
abbrev pub IsTakenAlone : List Node → List Node → LeastTable → List ℕ → List (Option Least) → ℕ → Type 0
IsTakenAlone writer reader table keys entries i = (own s d : ℕ) → slice_get keys i ≡ Some own
    → AtMost (value_alone table (own / length reader) (asked_at writer reader own)) s d
    → AtMost (unwrap_or (slice_get entries i) (Some no_parts)) s d

-- a graph of the pairs that were reached
pub record IsGraph (g : Graph) : Type 0 where
  pub formed : is_schema (schema_nodes g.writer.now) ≡ true
  pub theirs : is_schema (schema_nodes g.reader.now) ≡ true
  pub range : g.limit ≤ 16777216
  pub least : AreDataShown (schema_nodes g.writer.now) g.limit (table_of g.table.now)
  pub below : list_all (λ k. nat_lt k (length (schema_nodes g.writer.now) * length (schema_nodes g.reader.now))) (keys g.reached.now.known) ≡ true
  pub closed : AreFollowed (steps_at (schema_nodes g.writer.now) (schema_nodes g.reader.now) (table_of g.table.now)) (keys g.reached.now.known) (length (keys g.reached.now.known))
  pub one_each : length g.reached.now.found.items ≡ length (keys g.reached.now.known)
  pub of_keys : AreFound (schema_nodes g.writer.now) (schema_nodes g.reader.now) (keys g.reached.now.known) g.reached.now.found.items
  pub others : AreOthers (schema_nodes g.writer.now) g.limit (table_of g.table.now) (length (schema_nodes g.writer.now)) g.others.now

-- entries of its pairs, each that of a datum that errs
pub record IsSearchOf (g : Graph) (s : Search) : Type 0 where
  pub one_each : length s.entries.items ≡ length (keys g.reached.now.known)
  pub shown : ArePairsShown (schema_nodes g.writer.now) (schema_nodes g.reader.now) g.limit (table_of g.table.now) (keys g.reached.now.known) (seen_all s.entries.items)

-- the entry of the pair at an index is no more than what it comes to by one part
abbrev pub HasTaken : Graph → Search → ℕ → ℕ → Type 0
HasTaken g s i k = IsTaken (schema_nodes g.writer.now) (schema_nodes g.reader.now) g.limit (table_of g.table.now) (keys g.reached.now.known) (seen_all s.entries.items) i k

-- and by no part
abbrev pub HasTakenAlone : Graph → Search → ℕ → Type 0
HasTakenAlone g s i = IsTakenAlone (schema_nodes g.writer.now) (schema_nodes g.reader.now) (table_of g.table.now) (keys g.reached.now.known) (seen_all s.entries.items) i

-- no step lowers it
abbrev pub IsLowAt : Graph → Search → ℕ → Type 0
IsLowAt g s i = IsLowAtIndex (schema_nodes g.writer.now) (schema_nodes g.reader.now) g.limit (table_of g.table.now) (keys g.reached.now.known) (seen_all s.entries.items) i
