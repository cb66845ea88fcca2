use Rattle.std.proofs.Common.{List, Option, length, sym, subst}
use Rattle.indexmap.specs.IndexSet.{keys}
use Rattle.avro_schema.specs.Node.{Node}
use Rattle.avro_schema.specs.SeenSchema.{schema_nodes}
use Rattle.avro_least.specs.Tables.{AreLow, erring_of}
use Rattle.avro_least.specs.Asked.{ArePairsShown}
use Rattle.avro_least.specs.SeenLeast.{seen_all, table_of}
use Rattle.avro_least.specs.declared.kept.Least.{Least as KeptLeast}
use Rattle.avro_least.proofs.NoneFailing.{none_low}
use Rattle.avro_least.proofs.PairSteps.{start_pairs}
use Rattle.avro_least.proofs.pairs.search.least_errors.Goals as goal

pub returns-then-not-has_failing-clause-shown : goal.returns-then-not-has_failing-clause-shown
returns-then-not-has_failing-clause-shown c =
    let ns : List Node = schema_nodes c.args.writer.now in
    let qs : List Node = schema_nodes c.args.reader.now in
    let ks = keys c.args.reached.now.known in
    subst (λ (es : List (Option KeptLeast)). ArePairsShown ns qs c.args.limit (table_of c.args.table.now) ks (seen_all es)) (sym c.in_ok-entries.ensures)
    (start_pairs ns qs c.args.limit c.len.result (table_of c.args.table.now) ks c.len.ensures.len)

pub returns-then-not-has_failing-clause-low : goal.returns-then-not-has_failing-clause-low
returns-then-not-has_failing-clause-low c =
    let ns : List Node = schema_nodes c.args.writer.now in
    let qs : List Node = schema_nodes c.args.reader.now in
    let ks = keys c.args.reached.now.known in
    subst (λ (es : List (Option KeptLeast)). AreLow ns qs c.args.limit (table_of c.args.table.now) (erring_of (length qs) (table_of c.args.table.now) ks (seen_all es))) (sym c.in_ok-entries.ensures)
    (none_low ns qs c.args.limit c.len.result (table_of c.args.table.now) ks c.count.ensures.formed c.count-2.ensures.formed c.len.ensures.len c.requires.below c.requires.closed c.requires.least
    (c.has_failing.ensures c.if-not-has_failing.true))
