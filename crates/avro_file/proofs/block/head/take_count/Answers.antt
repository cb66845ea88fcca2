-- Why a count is not taken.
use Rattle.std.proofs.Common.{◌≡◌, ◌<ℤ◌, true, pos, Err, drop, ap, sym, ◌∙◌, arith, rules, w64, FitsSigned}
use Rattle.std.proofs.lemmas.Int.{to_z-of_z, ints}
use Rattle.std.proofs.lemmas.List.{length-drop}
use lib.Signed.{lt_z}
use Rattle.avro_file.specs.Held.{held}
use Rattle.avro_file.proofs.Taking.{unless_failed}
use Rattle.avro_file.proofs.Cut.{cut-short}
use Rattle.avro_file.proofs.Stopping.{count_stops, negative_stops}
use Rattle.avro_file.proofs.block.head.take_count.Goals as goal

pub returns-then-value-lt0-clause-refused : goal.returns-then-value-lt0-clause-refused
returns-then-value-lt0-clause-refused g c = λ f is.
    let fits : FitsSigned w64 c.in-Ok.value = search rules in
    let test : lt_z c.in-Ok.value (pos 0) ≡ true = rw (to_z-of_z w64 c.in-Ok.value fits) at c.if-value-lt0.true in
    let below : c.in-Ok.value <ℤ pos 0 = grind (arith, ints) in
    negative_stops c.args.number (g.I.Input.ended c.take_long.new.input) (drop c.args.at (held c.take_long.new.buffer)) c.in-Ok.value _ _ f below c.in-Ok.ensures.found is

pub returns-in-Err-clause-taken : goal.returns-in-Err-clause-taken
returns-in-Err-clause-taken g c = grind (arith, unless_failed)

pub returns-in-Err-clause-refused : goal.returns-in-Err-clause-refused
returns-in-Err-clause-refused g c = λ f is.
    let now = held c.take_long.new.buffer in
    count_stops c.args.number (g.I.Input.ended c.take_long.new.input) (drop c.args.at now) c.in-Err.error f
    (λ p. c.in-Err.ensures.out (ap Err p))
    (λ p.
    let over = c.in-Err.ensures.over (ap Err p) in
    let short = cut-short (drop c.args.at now) (c.in-Err.ensures.over_cut (ap Err p)) in
    omega (arith, over, short, length-drop c.args.at now, c.requires.near))
    (λ p. c.in-Err.ensures.ended (ap Err p))
    (λ p. c.in-Err.ensures.cut (ap Err p))
    (sym c.block_error.ensures.fault ∙ is)

pub returns-in-Err-clause-fails : goal.returns-in-Err-clause-fails
returns-in-Err-clause-fails g c = λ is. c.in-Err.ensures.fails (ap Err (c.block_error.ensures.device cc))
