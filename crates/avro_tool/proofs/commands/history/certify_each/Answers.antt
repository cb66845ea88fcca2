-- The lines of each file, after those before it.
use Rattle.std.proofs.Common.{ℕ, ◌+◌, ◌<◌, List, length, drop, false, refl, sym, ap, ◌∙◌, subst, arith}
use Rattle.avro_schema.specs.SeenSchema.{schema_nodes}
use Rattle.avro_tool.specs.EachAnswer.{EachAnswer}
use Rattle.avro_tool.specs.FoundStatus.{finding_status}
use Rattle.avro_tool.specs.declared.request.Mode.{Mode}
use Rattle.avro_tool.proofs.EachLines.{EachFrom, names_of, none_yet, one_more, all_done, each_more, each_done}
use Rattle.avro_tool.proofs.Kept.{adds_none, adds_next, adds_all, both_yes}
use Rattle.avro_tool.proofs.commands.history.certify_each.Goals as goal

pub loop-index-init : goal.loop-index-init
loop-index-init g c =
    let history = c.args.history.now in (
      none_yet g.O.Output.keeps c.args.out.now (EachAnswer history.form Mode.Backward false (names_of c.as_slice-files.result.now) c.args.writers.now c.args.reader.now history.limits)
          (g.met.O.Output.none c.args.out.now),
      λ good. adds_none (schema_nodes c.args.reader.now) c.args.certificates.now.items,
      refl,
    )

pub loop-index-preserved : goal.loop-index-preserved
loop-index-preserved g c =
    let history = c.args.history.now in
    let files = c.as_slice-files.result.now in
    let schemas = c.args.writers.now in
    let before = c.loop-index.invariant.0 in
    let found = c.in_ok-certified.certified in
    let told = c.in_ok-certified.ensures.answered in
    let named : c.loop-index.index < length files = omega (arith, c.loop-index-test.true, c.min-count.ensures) in
    let here : c.loop-index.index < length schemas = omega (arith, c.loop-index-test.true, c.min-count.ensures) in (
      one_more g.O.Output.keeps g.met.O.Output.chain c.args.out.now c.loop-index.out c.certify_one.new.out c.loop-index.finding found c.and-finding.result
          (EachFrom history.form Mode.Backward false c.args.reader.now history.limits c.loop-index.index files schemas)
          (EachFrom history.form Mode.Backward false c.args.reader.now history.limits (c.loop-index.index + 1) files schemas)
          (EachAnswer history.form Mode.Backward false (names_of files) schemas c.args.reader.now history.limits) told.0
          before told.2 (c.and-finding.ensures.verdict before.verdict c.in_ok-certified.ensures.verdict) (c.and-finding.ensures.status before.verdict c.in_ok-certified.ensures.verdict)
          (each_more history.form Mode.Backward false c.args.reader.now history.limits files schemas c.loop-index.index _ c.index-writers-index.result c.args.reader.now (drop (c.loop-index.index + 1) schemas) told.0 (finding_status found)
          named here c.index-writers-index.is refl refl told.1),
      λ good.
          let both = both_yes (finding_status c.loop-index.finding) (finding_status found)
          (sym (c.and-finding.ensures.status before.verdict c.in_ok-certified.ensures.verdict) ∙ good) in
          adds_next schemas (schema_nodes c.args.reader.now) c.loop-index.index c.index-writers-index.result
          c.args.certificates.now.items c.loop-index.certificates.items c.certify_one.new.certificates.items
          here c.index-writers-index.is (c.loop-index.invariant.1 both.0) (c.in_ok-certified.ensures.kept both.1),
      c.in_ok-certified.ensures.fails.works ∙ c.loop-index.invariant.2,
    )

pub returns-clause-answered : goal.returns-clause-answered
returns-clause-answered g c =
    let history = c.args.history.now in
    let files = c.as_slice-files.result.now in
    let schemas = c.args.writers.now in
    subst (λ fs. (text : List ℕ) × EachAnswer history.form Mode.Backward false (names_of fs) schemas c.args.reader.now history.limits text (finding_status c.loop-index.finding)
    × g.O.Output.keeps c.args.out.now text c.loop-index.out) c.as_slice-files.ensures.value
    (all_done g.O.Output.keeps c.args.out.now c.loop-index.out c.loop-index.finding
    (EachFrom history.form Mode.Backward false c.args.reader.now history.limits c.loop-index.index files schemas)
    (EachAnswer history.form Mode.Backward false (names_of files) schemas c.args.reader.now history.limits) c.loop-index.invariant.0
    (each_done history.form Mode.Backward false c.args.reader.now history.limits files schemas c.loop-index.index c.min-count.result c.min-count.ensures c.loop-index-test.false))

pub returns-clause-verdict : goal.returns-clause-verdict
returns-clause-verdict g c = c.loop-index.invariant.0.verdict

pub returns-clause-fails : goal.returns-clause-fails
returns-clause-fails g c = record { only = tt; blamed = λ is. absurd cc; memory = λ is. absurd cc; works = c.loop-index.invariant.2 }

pub returns-clause-kept : goal.returns-clause-kept
returns-clause-kept g c = λ same good.
    adds_all c.args.writers.now (schema_nodes c.args.reader.now) c.loop-index.index c.args.certificates.now.items c.loop-index.certificates.items
    (omega (arith, same, ap length c.as_slice-files.ensures.value, c.min-count.ensures, c.loop-index-test.false)) (c.loop-index.invariant.1 good)
