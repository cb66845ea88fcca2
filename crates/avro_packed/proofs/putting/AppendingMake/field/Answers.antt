use Rattle.std.proofs.Common.{◌++◌, List, ℕ, refl}
use Rattle.avro_schema.specs.Seen.{values_from}
use Rattle.avro_cursor.specs.Encoding.{plain, plain_values}
use Rattle.avro_packed.specs.Appended.{Holds, branch_bytes}
use Rattle.avro_packed.proofs.Gathering.{field_behind}
use Rattle.avro_packed.proofs.putting.AppendingMake.field.Goals as goal

pub returns-clause-stands : goal.returns-clause-stands
returns-clause-stands c = λ nodes fs id at vs v before named is.
    field_behind c.join.result (branch_bytes at.branch) vs v (λ (l : List ℕ). Holds c.join.new.self.bytes c.join.new.first l)
    (c.join.ensures.joined (branch_bytes at.branch ++ plain_values (values_from vs)) (plain v) before (is (λ _. refl)))
