use Rattle.std.proofs.Common.{◌≡◌, ◌*◌, ℕ, List, Option, length, ◌∙◌, slice_get, lt-ltb}
use Rattle.std.proofs.lemmas.Option.{slice_get_within}
use Rattle.indexmap.specs.IndexSet.{keys}
use Rattle.avro_schema.specs.Node.{Node}
use Rattle.avro_schema.specs.SeenSchema.{schema_nodes}
use Rattle.avro_least.specs.SeenLeast.{seen, seen_all, table_of}
use Rattle.avro_least.specs.declared.kept.Least.{Least as KeptLeast}
use Rattle.avro_least.proofs.PairSteps.{below_at}
use Rattle.avro_least.proofs.public.ShownParts.{alone_shows}
use Rattle.avro_least.proofs.Searching.{lowered_worse}
use Rattle.avro_least.proofs.Starting.{lowered_search}
use Rattle.avro_least.proofs.Taken.{worse_alone}
use Rattle.avro_least.proofs.pairs.search.take_alone.Goals as goal

pub returns-clause-search : goal.returns-clause-search
returns-clause-search c =
    let g = c.args.graph.now in
    let ns : List Node = schema_nodes c.args.graph.now.writer.now in
    let qs : List Node = schema_nodes c.args.graph.now.reader.now in
    let ks : List ℕ = keys c.args.graph.now.reached.now.known in
    let es : List (Option KeptLeast) = c.args.search.now.entries.items in
    lowered_search g c.args.search.now c.lower.new.self c.args.i c.args.key c.value_without_parts-found.result c.requires.search c.requires.here c.in_ok-lower.ensures.entries
    (alone_shows ns qs g.limit (table_of g.table.now) ks (seen_all es) c.requires.graph.formed c.requires.graph.theirs c.requires.graph.least c.args.key
    (below_at (length ns * length qs) ks c.args.i c.args.key c.requires.graph.below c.requires.here)
    (c.requires.graph.closed c.args.i c.args.key c.requires.here (lt-ltb c.args.i (length ks) (slice_get_within ks c.args.i c.args.key c.requires.here)))
    c.requires.search.shown (seen c.value_without_parts-found.result) (c.value_without_parts-found.ensures.is c.args.key c.requires.here))

pub returns-clause-quiet : goal.returns-clause-quiet
returns-clause-quiet c quiet =
    let g = c.args.graph.now in
    let ns : List Node = schema_nodes c.args.graph.now.writer.now in
    let qs : List Node = schema_nodes c.args.graph.now.reader.now in
    let ks : List ℕ = keys c.args.graph.now.reached.now.known in
    let es : List (Option KeptLeast) = c.args.search.now.entries.items in
    let still = c.in_ok-lower.ensures.quiet quiet in (
      still.0,
      c.in_ok-lower.ensures.entries ∙ lowered_worse es c.args.i c.value_without_parts-found.result still.1,
      worse_alone ns qs g.limit (table_of g.table.now) ks es c.args.i c.args.key c.value_without_parts-found.result c.requires.here still.1
          (c.value_without_parts-found.ensures.is c.args.key c.requires.here),
    )
