use Rattle.std.proofs.Common.{◌≡◌, ◌<◌, ◌*◌, ◌/◌, ◌%◌, ℕ, List, Option, Some, None, length, arith, refl, sym, ◌∙◌, ap, subst, slice_get, map}
use Rattle.std.proofs.lemmas.Option.{slice_get_within}
use Rattle.std.proofs.lemmas.List.{length-map}
use Rattle.indexmap.specs.IndexSet.{keys}
use Rattle.avro_schema.specs.Node.{Node, node_at}
use Rattle.avro_schema.specs.SeenSchema.{schema_nodes}
use Rattle.avro_least.specs.Tables.{ErringTable, LeastTable, erring_of}
use Rattle.avro_least.specs.Asked.{Row, Asked, asked_at}
use Rattle.avro_least.specs.Asks.{IsKept}
use Rattle.avro_least.specs.SeenLeast.{seen, seen_all, given_entry, table_of}
use Rattle.avro_least.specs.declared.kept.Least.{Least as KeptLeast}
use Rattle.avro_least.specs.inside.Parts.{least_of_others, nodes_of, part_at, row_part, seen_pair}
use Rattle.avro_least.proofs.Others.{part_within, rows_nodes}
use Rattle.avro_least.proofs.PairSteps.{below_at}
use Rattle.avro_least.specs.declared.pairs.asking.Ask.{Ask}
use Rattle.avro_compare.specs.Children.{Pair}
use Rattle.avro_least.proofs.KeptParts.{kept_is, kept_ordered}
use Rattle.avro_least.proofs.Starting.{around_none, by_part_is}
use Rattle.avro_least.proofs.pairs.search.value_by_part.Goals as goal

pub writers-w-requires : goal.writers-w-requires
writers-w-requires c = below_at (length (schema_nodes c.args.graph.now.writer.now) * length (schema_nodes c.args.graph.now.reader.now)) (keys c.args.graph.now.reached.now.known) c.args.i c.args.key
    c.requires.graph.below c.requires.here

pub ask_at_index-ask-requires-clause-within : goal.ask_at_index-ask-requires-clause-within
ask_at_index-ask-requires-clause-within c =
    omega (arith, slice_get_within (keys c.args.graph.now.reached.now.known) c.args.i c.args.key c.requires.here, c.requires.graph.one_each)

pub part_at-requires : goal.part_at-requires
part_at-requires c = kept_ordered c.ask_at_index-ask.result _ (c.ask_at_index-ask.ensures c.args.key c.requires.here)

pub returns-in-None : goal.returns-in-None
returns-in-None c =
    let ns : List Node = schema_nodes c.args.graph.now.writer.now in
    let qs : List Node = schema_nodes c.args.graph.now.reader.now in
    let ks : List ℕ = keys c.args.graph.now.reached.now.known in
    let ask : Ask = c.ask_at_index-ask.result in
    let asked : Asked = asked_at ns qs c.args.key in
    let own : IsKept ask asked = c.ask_at_index-ask.ensures c.args.key c.requires.here in
    by_part_is c.args.graph.now.limit (table_of c.args.graph.now.table.now) (erring_of (length qs) (table_of c.args.graph.now.table.now) ks (seen_all c.args.entries.now))
    c.writers-w.result.0 c.readers-r.result.0 _ _ c.args.k asked asked None None None
    c.writers-w.ensures.is c.readers-r.ensures.is refl
    (ap seen_pair (sym c.in-None.is) ∙ c.part_at.ensures ∙ kept_is c.writers-w.result.0 c.readers-r.result.0 ask asked c.args.k own) refl
    (sym (around_none c.args.graph.now.limit (table_of c.args.graph.now.table.now) asked c.args.k))

pub returns-in-Some : goal.returns-in-Some
returns-in-Some c =
    let ns : List Node = schema_nodes c.args.graph.now.writer.now in
    let qs : List Node = schema_nodes c.args.graph.now.reader.now in
    let ks : List ℕ = keys c.args.graph.now.reached.now.known in
    let w : ℕ = c.writers-w.result.0 in
    let r : ℕ = c.readers-r.result.0 in
    let limit : ℕ = c.args.graph.now.limit in
    let table : LeastTable = table_of c.args.graph.now.table.now in
    let erring : ErringTable = erring_of (length qs) table ks (seen_all c.args.entries.now) in
    let ask : Ask = c.ask_at_index-ask.result in
    let asked : Asked = asked_at ns qs c.args.key in
    let own : IsKept ask asked = c.ask_at_index-ask.ensures c.args.key c.requires.here in
    let pair : Pair = record { w = c.in-Some.a.0; r = c.in-Some.b.0 } in
    let part : Some pair ≡ part_at w r asked c.args.k = ap seen_pair (sym c.in-Some.is) ∙ c.part_at.ensures ∙ kept_is w r ask asked c.args.k own in
    let others : (rows : List Row) → asked ≡ Asked.fields rows → given_entry (slice_get c.others_at-others.result.now c.args.k) ≡ least_of_others limit table (map (λ row. row.node) rows) c.args.k =
    λ rows fields.
    let nodes : map (λ row. row.node) rows ≡ nodes_of (node_at ns w) =
    rows_nodes limit table erring ns qs (node_at ns (c.args.key / length qs)) (node_at qs (c.args.key % length qs)) rows (sym fields) ∙ ap (λ (n : ℕ). nodes_of (node_at ns n)) (sym c.writers-w.ensures.is) in
    let within : c.args.k < length (nodes_of (node_at ns w)) =
    subst (λ (ids : List ℕ). c.args.k < length ids) nodes
    (omega (
      arith,
      part_within w r (Asked.fields rows) c.args.k pair (ap (λ (a : Asked). part_at w r a c.args.k) (sym fields) ∙ sym part),
      length-map rows row_part,
      length-map rows (λ row. row.node),
    )) in
    ap (λ (es : List (Option KeptLeast)). given_entry (slice_get es c.args.k)) c.others_at-others.ensures
    ∙ c.requires.graph.others w c.writers-w.ensures.within c.args.k within
    ∙ ap (λ (ids : List ℕ). least_of_others limit table ids c.args.k) (sym nodes) in
    by_part_is limit table erring w r _ _ c.args.k asked asked (Some pair) (seen c.pair_entry_near-part.result) (seen c.around_part.result)
    c.writers-w.ensures.is c.readers-r.ensures.is refl part
    (c.pair_entry_near-part.ensures ∙ ap (λ (n : ℕ). erring_of n table ks (seen_all c.args.entries.now) c.in-Some.a.0 c.in-Some.b.0) c.count-nodes.ensures.count)
    (c.around_part.ensures asked own others)
