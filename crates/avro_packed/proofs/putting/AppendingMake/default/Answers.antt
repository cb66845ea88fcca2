use Rattle.std.proofs.Common.{◌++◌, List, ℕ, append_assoc, rules, subst}
use Rattle.avro_schema.specs.Seen.{value_of}
use Rattle.avro_cursor.specs.Encoding.{plain}
use Rattle.avro_packed.specs.Appended.{Holds, branch_bytes}
use Rattle.avro_packed.proofs.IntoBranches.{plain_in}
use Rattle.avro_packed.proofs.putting.AppendingMake.default.Goals as goal

pub returns-clause-stands : goal.returns-clause-stands
returns-clause-stands c = λ nodes n fit may.
    let v = value_of c.args.datum.now in
    subst (λ (bytes : List ℕ). Holds c.since.new.self.bytes c.since.result bytes) (plain_in c.args.at.branch v)
    (c.since.ensures.holds c.args.self.now.bytes (branch_bytes c.args.at.branch ++ plain v) (grind (append_assoc, rules)) c.in_ok-start.ensures.start)
