use Rattle.std.proofs.Common.{◌≡◌, ◌<◌, ℕ, List, Option, inl, inr, length, arith, sym, subst, slice_get}
use Rattle.std.proofs.lemmas.Bool.{cases_eq}
use Rattle.std.proofs.lemmas.Option.{slice_get_within}
use Rattle.indexmap.specs.IndexSet.{keys}
use Rattle.avro_schema.specs.Node.{Node}
use Rattle.avro_schema.specs.SeenSchema.{schema_nodes}
use Rattle.avro_least.specs.Asked.{IsLowAtIndex}
use Rattle.avro_least.specs.SeenLeast.{seen_all, table_of}
use Rattle.avro_least.specs.declared.kept.Least.{Least as KeptLeast}
use Rattle.avro_least.specs.inside.Leading.{IsLowAt}
use Rattle.avro_least.proofs.pairs.search.relax_all.Goals as goal

pub loop-i-preserved : goal.loop-i-preserved
loop-i-preserved c =
    let inv = c.loop-i.invariant in
    let new = c.in_ok-relax.ensures in
    let g = c.args.graph.now in
    let ns : List Node = schema_nodes c.args.graph.now.writer.now in
    let qs : List Node = schema_nodes c.args.graph.now.reader.now in
    let ks : List ℕ = keys c.args.graph.now.reached.now.known in
    record {
      search = new.search;
      effort = omega (arith, new.effort, inv.effort);
      quiet = λ quiet k below.
          let still = new.quiet quiet in
          subst (λ (es : List (Option KeptLeast)). IsLowAtIndex ns qs g.limit (table_of g.table.now) ks (seen_all es) k) (sym still.1)
          (elim (cases_eq k c.loop-i.i) [
            | inl same ↦ subst (λ (p : ℕ). IsLowAt g c.loop-i.search p) (sym same) still.2
            | inr apart ↦ inv.quiet still.0 k (omega (arith, below, apart))
          ]);
    }

pub returns-clause-quiet : goal.returns-clause-quiet
returns-clause-quiet c quiet i k here =
    c.loop-i.invariant.quiet quiet i (omega (arith, c.loop-i-test.false, c.len-i-end.ensures.len, slice_get_within (keys c.args.graph.now.reached.now.known) i k here)) k here
