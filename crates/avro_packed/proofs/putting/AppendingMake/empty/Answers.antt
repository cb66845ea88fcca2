use Rattle.std.proofs.Common.{◌++◌, ◌∙◌, List, ℕ, ap, append-nil, subst, sym}
use Rattle.avro_binary.proofs.public.EmptyData.{plain-empty}
use Rattle.avro_packed.specs.Appended.{Holds, branch_bytes}
use Rattle.avro_packed.proofs.IntoBranches.{plain_in}
use Rattle.avro_packed.proofs.putting.AppendingMake.empty.Goals as goal

pub returns-clause-stands : goal.returns-clause-stands
returns-clause-stands c = λ nodes n v fit empty may.
    let front = branch_bytes c.args.at.branch in
    subst (λ (bytes : List ℕ). Holds c.begun.new.self.bytes c.in_ok-begun.begun bytes)
    (sym (ap (λ (b : List ℕ). front ++ b) (plain-empty v empty) ∙ append-nil front) ∙ plain_in c.args.at.branch v) c.in_ok-begun.ensures.holds
