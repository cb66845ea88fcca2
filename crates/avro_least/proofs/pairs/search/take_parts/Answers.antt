use Rattle.std.proofs.Common.{◌*◌, ℕ, List, Option, inl, inr, length, arith, sym, ◌∙◌, ap, subst}
use Rattle.std.proofs.lemmas.Bool.{cases_eq}
use Rattle.std.proofs.lemmas.Option.{slice_get_within}
use Rattle.indexmap.specs.IndexSet.{keys}
use Rattle.avro_schema.specs.Node.{Node}
use Rattle.avro_schema.specs.SeenSchema.{schema_nodes}
use Rattle.avro_least.specs.Asks.{nth_part}
use Rattle.avro_least.specs.SeenLeast.{seen_all, table_of}
use Rattle.avro_least.specs.declared.kept.Least.{Least as KeptLeast}
use Rattle.avro_least.specs.inside.Leading.{IsTaken}
use Rattle.avro_least.proofs.PairSteps.{below_at}
use Rattle.avro_least.proofs.KeptParts.{part_given}
use Rattle.avro_least.proofs.Taken.{all_taken}
use Rattle.avro_least.proofs.pairs.search.take_parts.Goals as goal

pub writers-w-requires : goal.writers-w-requires
writers-w-requires c = below_at (length (schema_nodes c.args.graph.now.writer.now) * length (schema_nodes c.args.graph.now.reader.now)) (keys c.args.graph.now.reached.now.known) c.args.i c.args.key
    c.requires.graph.below c.requires.here

pub ask_at_index-ask-requires-clause-within : goal.ask_at_index-ask-requires-clause-within
ask_at_index-ask-requires-clause-within c =
    omega (arith, slice_get_within (keys c.args.graph.now.reached.now.known) c.args.i c.args.key c.requires.here, c.requires.graph.one_each)

pub loop-n-preserved : goal.loop-n-preserved
loop-n-preserved c =
    let new = c.in_ok-take_nth.ensures in
    let g = c.args.graph.now in
    let ns : List Node = schema_nodes c.args.graph.now.writer.now in
    let qs : List Node = schema_nodes c.args.graph.now.reader.now in
    let ks : List ℕ = keys c.args.graph.now.reached.now.known in record {
      search = new.search;
      effort = omega (arith, new.effort, c.loop-n.invariant.effort);
      quiet = λ quiet.
          let still = new.quiet quiet in
          let done = c.loop-n.invariant.quiet still.0 in (
            done.0,
            still.1 ∙ done.1,
            λ m k p below is. elim (cases_eq m c.loop-n.n) [
              | inl same ↦
                  let given = part_given c.nth_part-part.result k p.w p.r
                  (c.nth_part-part.ensures ∙ ap (nth_part c.writers-w.result.0 c.readers-r.result.0 c.ask_at_index-ask.result) (sym same) ∙ is) in
                  subst (λ (es : List (Option KeptLeast)). IsTaken ns qs g.limit (table_of g.table.now) ks (seen_all es) c.args.i k) done.1
                  (still.2 k given.0 given.1.0 given.1.1.0)
              | inr apart ↦ done.2 m k p (omega (arith, below, apart)) is
            ],
          );
    }

pub returns-clause-quiet : goal.returns-clause-quiet
returns-clause-quiet c quiet =
    let g = c.args.graph.now in
    let ns : List Node = schema_nodes c.args.graph.now.writer.now in
    let qs : List Node = schema_nodes c.args.graph.now.reader.now in
    let ks : List ℕ = keys c.args.graph.now.reached.now.known in
    let done = c.loop-n.invariant.quiet quiet in (
      done.0,
      done.1,
      all_taken ns qs g.limit (table_of g.table.now) ks (seen_all c.args.search.now.entries.items) c.args.i c.args.key c.writers-w.result.0 c.readers-r.result.0 c.ask_at_index-ask.result
          c.requires.here (c.ask_at_index-ask.ensures c.args.key c.requires.here) c.writers-w.ensures.is c.readers-r.ensures.is
          (λ n k p below is. done.2 n k p (omega (arith, below, c.loop-n-test.false, c.part_count-n-end.ensures)) is),
    )
