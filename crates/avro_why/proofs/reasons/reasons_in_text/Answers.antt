use Rattle.std.proofs.Common.{◌≤◌, ℕ, arith, length, max}
use Rattle.std.proofs.Math.Nat.{le-max_left}
use Rattle.std.proofs.lemmas.Result.{IfOk-weaker}
use Rattle.avro_why.proofs.reasons.reasons_in_text.Goals as goal

pub returns-in-Ok-clause-few : goal.returns-in-Ok-clause-few
returns-in-Ok-clause-few c = IfOk-weaker c.first_reasons.result (λ r. length r.first.items ≤ c.args.limit) (λ r. length r.first.items ≤ max c.args.limit 1)
    (λ r few. omega (arith, few, le-max_left c.args.limit 1)) c.first_reasons.ensures.few

pub returns-clause-placed : goal.returns-clause-placed
returns-clause-placed c = c.one_reason.ensures.placed c.args.bytes.now
