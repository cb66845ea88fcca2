-- Why a count is not taken.
use Rattle.std.proofs.Common.{arith, to_z}
use Rattle.std.proofs.lemmas.Int.{to_z-of_z}
use Rattle.avro_file.proofs.Behind.{part_refused, own_refused, number_stops}
use Rattle.avro_file.proofs.HeadStops.{count_stops, least_stops}
use Rattle.avro_file.proofs.header.properties_head.take_properties_count.Goals as goal

pub returns-in-Err-clause-lost : goal.returns-in-Err-clause-lost
returns-in-Err-clause-lost g c = grind (arith, part_refused)

pub returns-in-Err-clause-refused : goal.returns-in-Err-clause-refused
returns-in-Err-clause-refused g c = grind (arith, count_stops, number_stops)

pub returns-then-count-clause-lost : goal.returns-then-count-clause-lost
returns-then-count-clause-lost g c =
    own_refused g.I.Input.gives g.I.Input.failures g.met.I.Input.chain c.args.reach.limit _ _ _ _ _ (λ q. cc) (λ q. cc) (λ q. cc) tt
    (record { grown = c.in-Ok.ensures.taken; limited = c.in-Ok.ensures.limited; works = c.in-Ok.ensures.works })

pub returns-then-count-clause-refused : goal.returns-then-count-clause-refused
returns-then-count-clause-refused g c = grind (arith, least_stops, to_z, to_z-of_z)
