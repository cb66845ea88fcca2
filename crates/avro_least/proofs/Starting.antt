-- The entries of a graph of pairs, from a table without entries on.
use Rattle.std.proofs.Common.{◌≡◌, ℕ, ◌*◌, ◌/◌, ◌%◌, ◌<◌, Bool, true, false, cond, List, [], Option, Some, None, length, refl, sym, ◌∙◌, ap, subst, arith, slice_get, is_some, nat_lt, set, replicate}
use Rattle.std.proofs.lemmas.Option.{slice_get_within}
use Rattle.std.specs.List.{list_all}
use Rattle.indexmap.specs.IndexSet.{keys}
use Rattle.avro_schema.specs.Node.{Node, node_at}
use Rattle.avro_schema.specs.SeenSchema.{schema_nodes}
use Rattle.avro_schema.specs.WellFormed.{is_schema}
use Rattle.avro_compare.specs.Children.{Pair}
use Rattle.avro_least.specs.Tables.{Least, LeastTable, ErringTable, AtMost, ShowsError, erring_of}
use Rattle.avro_least.specs.SeenLeast.{seen, seen_all, table_of, given_entry, improves}
use Rattle.avro_least.specs.declared.kept.Least.{Least as KeptLeast}
use Rattle.avro_least.specs.declared.pairs.graph.Graph.{Graph}
use Rattle.avro_least.specs.declared.queue.Search.{Search}
use Rattle.avro_least.specs.Reached.{is_key}
use Rattle.avro_least.specs.Asked.{Asked, asked_at, children_at, steps_at, is_known, ArePairsShown}
use Rattle.avro_least.specs.inside.Parts.{part_at, entry_of_part, around_part, value_by_part}
use Rattle.avro_least.specs.inside.Falling.{lowered}
use Rattle.avro_least.specs.inside.Leading.{IsSearchOf, IsTaken}
use Rattle.avro_least.proofs.PairSteps.{below_at, followed_known, pair_set_shown, unknown_none}
use Rattle.avro_least.proofs.Searching.{length_lowered}
use Rattle.avro_least.proofs.public.Stepping.{children_at_within}
use Rattle.avro_least.proofs.AskedParts.{parts_pass}

-- around no entry is none
pub around_none : (limit : ℕ) (table : LeastTable) (a : Asked) (k : ℕ) → around_part limit table a k None ≡ None
around_none limit table (Asked.same q) k = refl
around_none limit table (Asked.part a b) k = refl
around_none limit table (Asked.branches ids) k = refl
around_none limit table (Asked.fields rows) k = refl
around_none limit table a k = refl

-- what an entry comes to by a part, from the things that it is made of
pub by_part_is : (limit : ℕ) (table : LeastTable) (erring : ErringTable) (w r x y k : ℕ) (a b : Asked) (o : Option Pair) (e found : Option Least)
    → w ≡ x → r ≡ y → a ≡ b → o ≡ part_at w r a k → e ≡ entry_of_part erring o → found ≡ around_part limit table a k e → found ≡ value_by_part limit table erring x y b k
by_part_is limit table erring w r x y k a b o e found first second third is entry around =
    around ∙ ap (around_part limit table a k) (entry ∙ ap (entry_of_part erring) is)
    ∙ ap (λ (n : ℕ). value_by_part limit table erring n r a k) first
    ∙ ap (λ (n : ℕ). value_by_part limit table erring x n a k) second
    ∙ ap (λ (c : Asked). value_by_part limit table erring x y c k) third

-- at the start each pair has taken each of its parts
pub unknown_taken : (writer reader : List Node) (limit n : ℕ) (table : LeastTable) (keys : List ℕ) → is_schema writer ≡ true → is_schema reader ≡ true
    → n ≡ length keys → list_all (λ k. nat_lt k (length writer * length reader)) keys ≡ true
    → ((i own : ℕ) → slice_get keys i ≡ Some own → list_all (is_key keys) (steps_at writer reader table own) ≡ true)
    → (i k : ℕ) → IsTaken writer reader limit table keys (seen_all (replicate {A = Option KeptLeast} n None)) i k
unknown_taken writer reader limit n table keys formed theirs same below followed i k own s d here m =
    absurd (subst (λ (e : Option Least). AtMost e s d) (none own here) m)
  where
    by_part : (own : ℕ) → slice_get keys i ≡ Some own → (o : Option Pair) → part_at (own / length reader) (own % length reader) (asked_at writer reader own) k ≡ o
        → entry_of_part (erring_of (length reader) table keys (seen_all (replicate {A = Option KeptLeast} n None))) o ≡ None
    by_part own here None e = refl
    by_part own here (Some c) e = unknown_none (length reader) n table keys same c.w c.r
        (parts_pass writer reader (is_known (length reader) table keys) (own / length reader) (own % length reader) (node_at writer (own / length reader)) (node_at reader (own % length reader))
        (followed_known writer reader table keys (children_at writer reader own)
        (children_at_within writer reader table formed theirs own (below_at (length writer * length reader) keys i own below here)) (followed i own here)) k c e)

    none : (own : ℕ) → slice_get keys i ≡ Some own
        → value_by_part limit table (erring_of (length reader) table keys (seen_all (replicate {A = Option KeptLeast} n None))) (own / length reader) (own % length reader) (asked_at writer reader own) k ≡ None
    none own here = ap (around_part limit table (asked_at writer reader own) k) (by_part own here (part_at (own / length reader) (own % length reader) (asked_at writer reader own) k) refl)
        ∙ around_none limit table (asked_at writer reader own) k

-- an entry that falls to that of a datum that errs
pub lowered_shown : (writer reader : List Node) (limit : ℕ) (table : LeastTable) (keys : List ℕ) (es new : List (Option KeptLeast)) (i key : ℕ) (found : Option KeptLeast)
    → i < length es → slice_get keys i ≡ Some key → new ≡ lowered es i found
    → (is_some (seen found) ≡ true → ShowsError writer reader limit (node_at writer (key / length reader)) (node_at reader (key % length reader)) (seen found))
    → ArePairsShown writer reader limit table keys (seen_all es) → ArePairsShown writer reader limit table keys (seen_all new)
lowered_shown writer reader limit table keys es new i key found within here same own shown =
    subst (λ (xs : List (Option KeptLeast)). ArePairsShown writer reader limit table keys (seen_all xs)) (sym same) (chosen (improves (seen found) (given_entry (slice_get es i))))
  where
    chosen : (t : Bool) → ArePairsShown writer reader limit table keys (seen_all (cond t (set es i found) es))
    chosen true = pair_set_shown writer reader limit table keys es i key found within here shown own
    chosen false = shown

-- a search of a graph whose entry falls so
pub lowered_search : (g : Graph) (old new : Search) (i key : ℕ) (found : Option KeptLeast) → IsSearchOf g old → slice_get (keys g.reached.now.known) i ≡ Some key
    → new.entries.items ≡ lowered old.entries.items i found
    → (is_some (seen found) ≡ true → ShowsError (schema_nodes g.writer.now) (schema_nodes g.reader.now) g.limit
    (node_at (schema_nodes g.writer.now) (key / length (schema_nodes g.reader.now))) (node_at (schema_nodes g.reader.now) (key % length (schema_nodes g.reader.now))) (seen found))
    → IsSearchOf g new
lowered_search g old new i key found was here same own = record {
  one_each = ap length same ∙ length_lowered old.entries.items i found ∙ was.one_each;
  shown = lowered_shown (schema_nodes g.writer.now) (schema_nodes g.reader.now) g.limit (table_of g.table.now) (keys g.reached.now.known) old.entries.items new.entries.items i key found
      (omega (arith, was.one_each, slice_get_within (keys g.reached.now.known) i key here)) here same own was.shown;
}
