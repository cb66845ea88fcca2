use Rattle.std.proofs.Common.{subst}
use Rattle.avro_binary.specs.Outputs.{StandsAt}
use Rattle.avro_packed.specs.Appended.{Holds}
use Rattle.avro_packed.specs.inside.Outputs.{stands_joined}
use Rattle.avro_packed.proofs.joining.extend.Goals as goal

pub returns-then-from-end-clause-joined : goal.returns-then-from-end-clause-joined
returns-then-from-end-clause-joined c = λ out a b yes first second.
    let front = subst (λ w. Holds out w a) c.in-Range.is first in
    let back = subst (λ w. Holds out w b) c.in-Range-second.is second in
    stands_joined out c.in-Range.field-0 _ c.in-Range-second.to a b front (subst (λ n. StandsAt out n c.in-Range-second.to b) c.if-from-end.true back)
