-- Why a length is not taken.
use Rattle.std.proofs.Common.{◌≡◌, ◌<ℤ◌, true, pos, arith, rules, w64, FitsSigned}
use Rattle.std.proofs.lemmas.Int.{to_z-of_z, ints}
use lib.Signed.{lt_z}
use Rattle.avro_file.specs.Held.{held}
use Rattle.avro_file.proofs.Behind.{part_refused, own_refused, number_stops, length_stops, negative_length}
use Rattle.avro_file.proofs.header.content.take_length.Goals as goal

pub returns-then-value-lt0-clause-refused : goal.returns-then-value-lt0-clause-refused
returns-then-value-lt0-clause-refused g c = λ f is.
    let fits : FitsSigned w64 c.in-Ok.value = search rules in
    let test : lt_z c.in-Ok.value (pos 0) ≡ true = rw (to_z-of_z w64 c.in-Ok.value fits) at c.if-value-lt0.true in
    let below : c.in-Ok.value <ℤ pos 0 = grind (arith, ints) in
    negative_length c.args.reach.limit c.args.at (g.I.Input.ended c.take_long.new.input) (held c.take_long.new.buffer) c.in-Ok.value _ _ f below c.in-Ok.ensures.found is

pub returns-then-value-lt0-clause-lost : goal.returns-then-value-lt0-clause-lost
returns-then-value-lt0-clause-lost g c =
    own_refused g.I.Input.gives g.I.Input.failures g.met.I.Input.chain c.args.reach.limit _ _ _ _ _ (λ q. cc) (λ q. cc) (λ q. cc) tt
    (record { grown = c.in-Ok.ensures.taken; limited = c.in-Ok.ensures.limited; works = c.in-Ok.ensures.works })

pub returns-in-Err-clause-lost : goal.returns-in-Err-clause-lost
returns-in-Err-clause-lost g c = grind (arith, part_refused)

pub returns-in-Err-clause-refused : goal.returns-in-Err-clause-refused
returns-in-Err-clause-refused g c = grind (arith, length_stops, number_stops)
