-- What the tables say of two schemas, once they are made.
use Rattle.std.specs.Prelude.{◌≡◌, ◌*◌, ℕ, true, List, Option, length, nat_lt}
use Rattle.std.specs.List.{list_all}
use Rattle.avro_schema.specs.Node.{Node}
use Rattle.avro_least.specs.Asked.{ArePairsShown, steps_at}
use Rattle.avro_least.specs.Tables.{Least, LeastTable, AreDataShown, AreLow, erring_of}
use Rattle.avro_least.specs.Reached.{is_key, AreFollowed}

-- each entry has its datum, no step lowers a table, and what is reached is followed
pub record AreTables (writer reader : List Node) (limit : ℕ) (table : LeastTable) (keys : List ℕ) (entries : List (Option Least)) : Type 0 where
  pub has_data : AreDataShown writer limit table
  pub low : AreLow writer reader limit table (erring_of (length reader) table keys entries)
  pub shown : ArePairsShown writer reader limit table keys entries
  pub root : is_key keys 0 ≡ true
  pub below : list_all (λ k. nat_lt k (length writer * length reader)) keys ≡ true
  pub closed : AreFollowed (steps_at writer reader table) keys (length keys)
