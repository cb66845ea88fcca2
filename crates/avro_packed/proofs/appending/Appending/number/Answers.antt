use Rattle.std.proofs.Common.{◌++◌, append_assoc, rules}
use Rattle.avro_zigzag.specs.Number.{number_bytes}
use Rattle.avro_packed.specs.Appended.{branch_bytes}
use Rattle.avro_packed.proofs.appending.Appending.number.Goals as goal

pub returns-clause-holds : goal.returns-clause-holds
returns-clause-holds c =
    c.since.ensures.holds c.args.self.now.bytes (branch_bytes c.args.branch ++ number_bytes c.args.value) (grind (append_assoc, rules)) c.in_ok-start.ensures.start
