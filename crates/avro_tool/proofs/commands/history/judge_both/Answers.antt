-- The lines of both ways, one after the other.
use Rattle.std.proofs.Common.{◌++◌, refl}
use Rattle.avro_tool.specs.FoundStatus.{finding_status}
use Rattle.avro_tool.proofs.commands.history.judge_both.Goals as goal

pub returns-clause-answered : goal.returns-clause-answered
returns-clause-answered g c =
    let backward = c.in_ok-backward.ensures.answered in
    let forward = c.in_ok-forward.ensures.answered in (
      backward.0 ++ forward.0,
      (
        backward.0,
        forward.0,
        finding_status c.in_ok-backward.backward,
        finding_status c.in_ok-forward.forward,
        backward.1,
        forward.1,
        refl,
        c.and.ensures.status c.in_ok-backward.ensures.verdict c.in_ok-forward.ensures.verdict,
      ),
      g.met.O.Output.chain c.args.out.now c.judge_one.new.out c.judge_one-2.new.out backward.0 forward.0 backward.2 forward.2,
    )
