use Rattle.std.proofs.Common.{◌++◌, ◌∙◌, List, ℕ, ap, append_assoc, rules, subst, sym}
use Rattle.avro_packed.specs.Appended.{Holds, branch_bytes}
use Rattle.avro_packed.proofs.IntoBranches.{plain_in}
use Rattle.avro_packed.proofs.putting.AppendingMake.copied.Goals as goal

pub returns-clause-stands : goal.returns-clause-stands
returns-clause-stands c = λ nodes n v parts fit is may.
    subst (λ (bytes : List ℕ). Holds c.since.new.self.bytes c.since.result bytes) (ap (λ (b : List ℕ). branch_bytes c.args.at.branch ++ b) (sym is) ∙ plain_in c.args.at.branch v)
    (c.since.ensures.holds c.args.self.now.bytes (branch_bytes c.args.at.branch ++ c.args.content.now) (grind (append_assoc, rules)) c.in_ok-start.ensures.start)
