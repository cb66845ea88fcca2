-- The lines of each file, after those before it.
use Rattle.std.proofs.Common.{ℕ, ◌+◌, ◌<◌, List, length, refl, ◌∙◌, subst, arith}
use Rattle.avro_tool.specs.EachAnswer.{EachAnswer}
use Rattle.avro_tool.specs.FoundStatus.{finding_status}
use Rattle.avro_tool.proofs.EachLines.{EachFrom, names_of, none_yet, one_more, all_done, each_more, each_done}
use Rattle.avro_tool.proofs.commands.history.judge_each.Goals as goal

pub loop-index-init : goal.loop-index-init
loop-index-init g c =
    let history = c.args.history.now in (
      none_yet g.O.Output.keeps c.args.out.now (EachAnswer history.form history.mode history.is_next (names_of c.as_slice-files.result.now) c.args.schemas.now c.args.last.now history.limits)
          (g.met.O.Output.none c.args.out.now),
      refl,
    )

pub loop-index-preserved : goal.loop-index-preserved
loop-index-preserved g c =
    let history = c.args.history.now in
    let files = c.as_slice-files.result.now in
    let schemas = c.args.schemas.now in
    let before = c.loop-index.invariant.0 in
    let found = c.in_ok-found.found in
    let told = c.in_ok-found.ensures.answered in
    let named : c.loop-index.index < length files = omega (arith, c.loop-index-test.true, c.min-count.ensures) in
    let here : c.loop-index.index < length schemas = omega (arith, c.loop-index-test.true, c.min-count.ensures) in (
      one_more g.O.Output.keeps g.met.O.Output.chain c.args.out.now c.loop-index.out c.judge_modes.new.out c.loop-index.finding found c.and-finding.result
          (EachFrom history.form history.mode history.is_next c.args.last.now history.limits c.loop-index.index files schemas)
          (EachFrom history.form history.mode history.is_next c.args.last.now history.limits (c.loop-index.index + 1) files schemas)
          (EachAnswer history.form history.mode history.is_next (names_of files) schemas c.args.last.now history.limits) told.0
          before told.2 (c.and-finding.ensures.verdict before.verdict c.in_ok-found.ensures.verdict) (c.and-finding.ensures.status before.verdict c.in_ok-found.ensures.verdict)
          (each_more history.form history.mode history.is_next c.args.last.now history.limits files schemas c.loop-index.index _ c.index-schemas-index.result c.later_of-later.result.now c.split_at.result.1.now told.0 (finding_status found)
          named here c.index-schemas-index.is c.split_at.ensures.back c.later_of-later.ensures told.1),
      c.in_ok-found.ensures.fails.works ∙ c.loop-index.invariant.1,
    )

pub returns-clause-answered : goal.returns-clause-answered
returns-clause-answered g c =
    let history = c.args.history.now in
    let files = c.as_slice-files.result.now in
    let schemas = c.args.schemas.now in
    subst (λ fs. (text : List ℕ) × EachAnswer history.form history.mode history.is_next (names_of fs) schemas c.args.last.now history.limits text (finding_status c.loop-index.finding)
    × g.O.Output.keeps c.args.out.now text c.loop-index.out) c.as_slice-files.ensures.value
    (all_done g.O.Output.keeps c.args.out.now c.loop-index.out c.loop-index.finding
    (EachFrom history.form history.mode history.is_next c.args.last.now history.limits c.loop-index.index files schemas)
    (EachAnswer history.form history.mode history.is_next (names_of files) schemas c.args.last.now history.limits) c.loop-index.invariant.0
    (each_done history.form history.mode history.is_next c.args.last.now history.limits files schemas c.loop-index.index c.min-count.result c.min-count.ensures c.loop-index-test.false))

pub returns-clause-verdict : goal.returns-clause-verdict
returns-clause-verdict g c = c.loop-index.invariant.0.verdict

pub returns-clause-fails : goal.returns-clause-fails
returns-clause-fails g c = record { only = tt; blamed = λ is. absurd cc; memory = λ is. absurd cc; works = c.loop-index.invariant.1 }
