use Rattle.std.proofs.Common.{ℕ, List, Option, length, sym, ap, subst}
use Rattle.indexmap.specs.IndexSet.{keys}
use Rattle.avro_schema.specs.Node.{Node}
use Rattle.avro_schema.specs.SeenSchema.{schema_nodes}
use Rattle.avro_least.specs.Tables.{AreLow, erring_of}
use Rattle.avro_least.specs.SeenLeast.{seen_all, table_of}
use Rattle.avro_least.specs.declared.kept.Least.{Least as KeptLeast}
use Rattle.avro_least.proofs.PairTable.{pairs_low}
use Rattle.avro_least.proofs.pairs.search.search.Goals as goal

pub returns-clause-low : goal.returns-clause-low
returns-clause-low c =
    let g = c.args.graph.now in
    let ns : List Node = schema_nodes c.args.graph.now.writer.now in
    let qs : List Node = schema_nodes c.args.graph.now.reader.now in
    let ks : List ℕ = keys c.args.graph.now.reached.now.known in
    subst (λ (es : List (Option KeptLeast)). AreLow ns qs g.limit (table_of g.table.now) (erring_of (length qs) (table_of g.table.now) ks (seen_all es))) (sym (ap (λ v. v.items) c.next.ensures.entries))
    (pairs_low ns qs g.limit (table_of g.table.now) ks (seen_all c.loop-i.search.entries.items) c.requires.least
    (λ i k here. c.loop-i.invariant.quiet (c.in_default.ensures.quiet) i k here))
