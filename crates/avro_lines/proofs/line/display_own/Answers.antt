-- What is read is shown as it is.
use Rattle.std.proofs.Common.{refl}
use Rattle.avro_lines.proofs.line.display_own.Goals as goal

pub returns-in-Ok : goal.returns-in-Ok
returns-in-Ok c =
    let found = c.in-Ok.ensures.found in
    (found.0, record { datum = found.0; in_bytes = found.1; encoded = found.2; within = found.3; resolves = refl }, found.4)
