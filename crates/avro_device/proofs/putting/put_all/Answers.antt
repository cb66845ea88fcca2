-- What a put took goes after what was put before.
use Rattle.std.proofs.Common.{◌∙◌, refl}
use Rattle.std.proofs.lemmas.Result.{err_from_is_err_and}
use Rattle.avro_device.proofs.public.Fronts.{PutsFrontOf-more, PutsFrontOf-failed}
use Rattle.avro_device.proofs.putting.put_all.Goals as goal

pub returns-then-count-eq0-clause-front : goal.returns-then-count-eq0-clause-front
returns-then-count-eq0-clause-front g c =
    let before = c.loop-rest.invariant.0 in
    let more = PutsFrontOf-more g.O.Output.keeps g.met.O.Output.chain _ _ _ _ before.0 c.loop-rest.rest.now c.in_ok-count.count before.1 before.2 c.in_ok-count.ensures.put _ refl in
    record { front = _; later = _; kept = more.0; split = more.1 }

pub loop-rest-preserved : goal.loop-rest-preserved
loop-rest-preserved g c =
    let before = c.loop-rest.invariant.0 in
    let more = PutsFrontOf-more g.O.Output.keeps g.met.O.Output.chain _ _ _ _ before.0 c.loop-rest.rest.now c.in_ok-count.count before.1 before.2 c.in_ok-count.ensures.put _ c.split_at.ensures.back in
    ((_, more.0, more.1), c.in_ok-count.ensures.works ∙ c.loop-rest.invariant.1)

pub returns-in_err-count-clause-front : goal.returns-in_err-count-clause-front
returns-in_err-count-clause-front g c =
    let p = err_from_is_err_and c.from_residual.result c.from_residual.ensures.1 in
    rw p.1 (let before = c.loop-rest.invariant.0 in
    PutsFrontOf-failed g.O.Output.keeps g.met.O.Output.chain _ _ _ _ before.0 c.loop-rest.rest.now before.1 before.2 c.in_err-count.ensures.lost)
