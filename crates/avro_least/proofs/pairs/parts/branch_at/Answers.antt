use Rattle.std.proofs.Common.{sym, ◌∙◌}
use Rattle.avro_least.proofs.Others.{branch_here}
use Rattle.avro_least.proofs.pairs.parts.branch_at.Goals as goal

pub returns-in-Some : goal.returns-in-Some
returns-in-Some c = sym (branch_here c.args.ids.now c.args.r.0 c.args.k c.in-Some.id (sym c.id_at.ensures ∙ c.in-Some.is))
