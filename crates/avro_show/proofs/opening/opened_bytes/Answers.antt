use Rattle.std.proofs.Common.{arith}
use Rattle.avro_show.proofs.opening.opened_bytes.Goals as goal

pub returns-in-Err-clause-opens : goal.returns-in-Err-clause-opens
returns-in-Err-clause-opens c = λ s t id u d taken shows.
    let as_text = rw c.in-Str.is at taken in
    let bad = c.in-Err.ensures.fault.0 in
    absurd (grind (arith, as_text, bad, c.deref.ensures.value))
