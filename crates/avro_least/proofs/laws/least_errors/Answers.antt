use Rattle.std.proofs.Common.{subst}
use Rattle.avro_schema.specs.Value.{size, depth}
use Rattle.avro_least.specs.Tables.{AtMost}
use Rattle.avro_compare.specs.Resolve.{Resolved}
use Rattle.avro_least.proofs.public.Faults.{OnErr}
use Rattle.avro_least.proofs.LeastErrors.{at_most_errors}
use Rattle.avro_least.proofs.laws.least_errors.Goals as goal

pub returns : goal.returns
returns c = λ writer reader limit table erring low formed v w r h fault e.
    subst (λ (x : Resolved). OnErr x (AtMost (erring w r) (size v) (depth v))) e (at_most_errors writer reader limit table erring low formed v w r h)
