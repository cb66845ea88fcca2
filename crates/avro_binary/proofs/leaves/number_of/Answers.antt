use Rattle.std.proofs.Common.{rules, FitsSigned, w64, ◌∙◌}
use Rattle.std.proofs.lemmas.Int.{to_z-of_z}
use Rattle.avro_binary.proofs.LeafBytes.{same_number}
use Rattle.avro_binary.proofs.leaves.number_of.Goals as goal

pub returns-in-Ok-clause-int : goal.returns-in-Ok-clause-int
returns-in-Ok-clause-int c = λ i s.
    let within : FitsSigned w64 c.in-Ok.number = search rules in
    to_z-of_z w64 c.in-Ok.number within ∙ same_number c.in-Ok.number i _ _ c.in-Ok.ensures.found.1 s

pub returns-in-Ok-clause-long : goal.returns-in-Ok-clause-long
returns-in-Ok-clause-long c = λ i s.
    let within : FitsSigned w64 c.in-Ok.number = search rules in
    to_z-of_z w64 c.in-Ok.number within ∙ same_number c.in-Ok.number i _ _ c.in-Ok.ensures.found.1 s
