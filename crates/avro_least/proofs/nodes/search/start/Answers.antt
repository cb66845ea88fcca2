use Rattle.std.proofs.Common.{List, Option, None, length, sym, ◌∙◌, ap, subst}
use Rattle.std.proofs.lemmas.List.{length-replicate}
use Rattle.avro_schema.specs.SeenSchema.{schema_nodes}
use Rattle.avro_least.specs.Tables.{AreDataShown}
use Rattle.avro_least.specs.SeenLeast.{table_of}
use Rattle.avro_least.specs.declared.kept.Least.{Least as KeptLeast}
use Rattle.avro_least.proofs.Rounds.{start_shown}
use Rattle.avro_least.proofs.nodes.search.start.Goals as goal

pub returns : goal.returns
returns c = record {
  one_each = ap length c.in_ok-search.ensures ∙ length-replicate {A = Option KeptLeast} c.count.result None ∙ c.count.ensures.count;
  shown = subst (λ (es : List (Option KeptLeast)). AreDataShown (schema_nodes c.args.writer.now) c.args.limit (table_of es)) (sym c.in_ok-search.ensures)
      (start_shown (schema_nodes c.args.writer.now) c.args.limit c.count.result c.count.ensures.count);
}
