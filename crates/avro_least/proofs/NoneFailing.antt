-- Where no pair fails whatever becomes of its parts, no entry is low enough to be that of a datum that errs: none has one.
use Rattle.std.proofs.Common.{◌≡◌, ◌*◌, ◌/◌, ℕ, true, false, List, Option, Some, None, length, refl, subst, slice_get, is_some, nat_lt, lt-ltb, replicate}
use Rattle.std.proofs.lemmas.Bool.{true≢false}
use Rattle.std.proofs.lemmas.Option.{slice_get_within}
use Rattle.std.specs.List.{list_all}
use Rattle.avro_schema.specs.Node.{Node}
use Rattle.avro_schema.specs.WellFormed.{is_schema}
use Rattle.avro_least.specs.Tables.{LeastTable, AtMost, IsLowForData, AreLow, Least, erring_of}
use Rattle.avro_least.specs.SeenLeast.{seen, seen_all}
use Rattle.avro_least.specs.declared.kept.Least.{Least as KeptLeast}
use Rattle.avro_least.specs.Reached.{AreFollowed}
use Rattle.avro_least.specs.Asked.{asked_at, steps_at}
use Rattle.avro_least.specs.inside.Parts.{value_alone}
use Rattle.avro_least.proofs.PairTable.{pairs_low}
use Rattle.avro_least.proofs.Starting.{unknown_taken}
use Rattle.avro_least.proofs.Taken.{index_low}

pub none_seen : (e : Option KeptLeast) → is_some e ≡ false → seen e ≡ None
none_seen None n = refl
none_seen (Some e) n = absurd (true≢false n)

pub none_low : (writer reader : List Node) (limit n : ℕ) (table : LeastTable) (keys : List ℕ) → is_schema writer ≡ true → is_schema reader ≡ true
    → n ≡ length keys → list_all (λ k. nat_lt k (length writer * length reader)) keys ≡ true
    → AreFollowed (steps_at writer reader table) keys (length keys)
    → IsLowForData writer limit table
    → ((i key : ℕ) → slice_get keys i ≡ Some key → value_alone table (key / length reader) (asked_at writer reader key) ≡ None)
    → AreLow writer reader limit table (erring_of (length reader) table keys (seen_all (replicate {A = Option KeptLeast} n None)))
none_low writer reader limit n table keys formed theirs same below closed least none =
    pairs_low writer reader limit table keys (seen_all (replicate {A = Option KeptLeast} n None)) least
    (λ i. index_low writer reader limit table keys (seen_all (replicate {A = Option KeptLeast} n None)) i
    (λ own s d there m. absurd (subst (λ (e : Option Least). AtMost e s d) (none i own there) m))
    (unknown_taken writer reader limit n table keys formed theirs same below
    (λ j own there. closed j own there (lt-ltb j (length keys) (slice_get_within keys j own there))) i))
