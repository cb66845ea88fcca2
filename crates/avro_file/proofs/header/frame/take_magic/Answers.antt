-- Why a magic is not taken.
use Rattle.std.proofs.Common.{Err, refl, ap, arith}
use Rattle.avro_file.specs.FileFault.{in_header, no_magic, long_header}
use Rattle.avro_file.specs.Held.{held}
use Rattle.avro_file.proofs.Framed.{framed}
use Rattle.avro_file.proofs.HeaderEnds.{magic_stops, magic_differs, magic_long}
use Rattle.avro_file.proofs.header.frame.take_magic.Goals as goal

pub returns-in-Err-clause-refused : goal.returns-in-Err-clause-refused
returns-in-Err-clause-refused g c = λ f is.
    magic_stops c.args.reach.limit (g.I.Input.ended c.fill.new.input) (held c.fill.new.buffer) c.in-Err.error c.magic_error.result f
    (λ p. c.in-Err.ensures.in_range (ap Err p))
    (λ p. let past = c.in-Err.ensures.over (ap Err p) in let most = c.max.ensures in omega (arith, past, most))
    c.magic_error.ensures.failed c.magic_error.ensures.memory c.magic_error.ensures.ended
    (λ p. c.in-Err.ensures.ended (ap Err p))
    (λ p. c.in-Err.ensures.short (ap Err p))
    is

pub returns-then-not-is_magic-clause-refused : goal.returns-then-not-is_magic-clause-refused
returns-then-not-is_magic-clause-refused g c = grind (arith, magic_differs)

pub returns-then-reach-lt4-clause-refused : goal.returns-then-reach-lt4-clause-refused
returns-then-reach-lt4-clause-refused g c = grind (arith, magic_long)

pub returns-then-not-is_magic-clause-framed : goal.returns-then-not-is_magic-clause-framed
returns-then-not-is_magic-clause-framed g c = λ f is. framed f (in_header no_magic) refl is

pub returns-then-reach-lt4-clause-framed : goal.returns-then-reach-lt4-clause-framed
returns-then-reach-lt4-clause-framed g c = λ f is. framed f (in_header long_header) refl is
