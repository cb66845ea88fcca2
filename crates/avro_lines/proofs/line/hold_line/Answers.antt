-- The display is the line but for its end.
use Rattle.avro_lines.proofs.line.hold_line.Goals as goal

pub returns-in-Ok-clause-inside : goal.returns-in-Ok-clause-inside
returns-in-Ok-clause-inside c = c.in-Some.ensures.1.in_bytes

pub returns-in-Ok-clause-holds : goal.returns-in-Ok-clause-holds
returns-in-Ok-clause-holds c =
    let shows = c.in-Some.ensures in
    record { datum = shows.0; stands = shows.1; held = c.in-Ok.ensures.appended _ shows.2 }
