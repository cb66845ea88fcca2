use Rattle.std.proofs.Common.{List, Option, None, length, sym, ◌∙◌, ap, subst}
use Rattle.std.proofs.lemmas.List.{length-replicate}
use Rattle.indexmap.specs.IndexSet.{keys}
use Rattle.avro_schema.specs.SeenSchema.{schema_nodes}
use Rattle.avro_least.specs.Asked.{ArePairsShown}
use Rattle.avro_least.specs.SeenLeast.{seen_all, table_of}
use Rattle.avro_least.specs.declared.kept.Least.{Least as KeptLeast}
use Rattle.avro_least.proofs.PairSteps.{start_pairs}
use Rattle.avro_least.proofs.pairs.search.start.Goals as goal

pub returns : goal.returns
returns c =
    let g = c.args.graph.now in record {
      one_each = ap length c.in_ok-search.ensures ∙ length-replicate {A = Option KeptLeast} c.len.result None ∙ c.len.ensures.len;
      shown = subst (λ (es : List (Option KeptLeast)). ArePairsShown (schema_nodes g.writer.now) (schema_nodes g.reader.now) g.limit (table_of g.table.now) (keys g.reached.now.known) (seen_all es))
          (sym c.in_ok-search.ensures)
          (start_pairs (schema_nodes g.writer.now) (schema_nodes g.reader.now) g.limit c.len.result (table_of g.table.now) (keys g.reached.now.known) c.len.ensures.len);
    }
