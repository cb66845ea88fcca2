use Rattle.std.proofs.Common.{ℕ, List, Option, length, ◌∙◌, subst}
use Rattle.indexmap.specs.IndexSet.{keys}
use Rattle.avro_schema.specs.Node.{Node}
use Rattle.avro_schema.specs.SeenSchema.{schema_nodes}
use Rattle.avro_least.specs.SeenLeast.{seen_all, table_of}
use Rattle.avro_least.specs.declared.kept.Least.{Least as KeptLeast}
use Rattle.avro_least.specs.inside.Leading.{IsTaken}
use Rattle.avro_least.proofs.Taken.{index_low}
use Rattle.avro_least.proofs.pairs.search.relax.Goals as goal

pub returns-in_ok-take_parts-in-Some-clause-quiet : goal.returns-in_ok-take_parts-in-Some-clause-quiet
returns-in_ok-take_parts-in-Some-clause-quiet c quiet =
    let g = c.args.graph.now in
    let ns : List Node = schema_nodes c.args.graph.now.writer.now in
    let qs : List Node = schema_nodes c.args.graph.now.reader.now in
    let ks : List ℕ = keys c.args.graph.now.reached.now.known in
    let parts = c.in_ok-take_parts-in-Some.ensures.quiet quiet in
    let alone = c.in_ok-take_alone-in-Some.ensures.quiet parts.0 in (
      alone.0,
      parts.1 ∙ alone.1,
      index_low ns qs g.limit (table_of g.table.now) ks (seen_all c.args.search.now.entries.items) c.args.i alone.2
          (λ k. subst (λ (es : List (Option KeptLeast)). IsTaken ns qs g.limit (table_of g.table.now) ks (seen_all es) c.args.i k) alone.1 (parts.2 k)),
    )
