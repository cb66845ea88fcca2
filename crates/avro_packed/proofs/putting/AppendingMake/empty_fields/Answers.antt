use Rattle.std.proofs.Common.{◌++◌, List, ℕ, subst, sym}
use Rattle.avro_packed.specs.Appended.{Holds, branch_bytes}
use Rattle.avro_packed.proofs.Gathering.{plain-others}
use Rattle.avro_packed.proofs.putting.AppendingMake.empty_fields.Goals as goal

pub returns-clause-added : goal.returns-clause-added
returns-clause-added c = λ nodes fs at vs ws all counted none fit stands.
    subst (λ (bytes : List ℕ). Holds c.args.self.now.bytes c.args._fields.now (branch_bytes at.branch ++ bytes)) (sym (plain-others vs ws none)) stands
