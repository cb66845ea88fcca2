use Rattle.std.proofs.Common.{◌+◌, ℕ, List, subst, sym}
use Rattle.avro_compare.specs.Planned.{AreForFrom}
use Rattle.avro_compare.specs.declared.comparison.At.{At}
use Rattle.avro_compare.proofs.public.Entries.{rest_for}
use Rattle.avro_resolve.proofs.resolving.record_maker.known_after.Goals as goal

pub returns-in-Some : goal.returns-in-Some
returns-in-Some c = λ ws rs knows.
    subst (λ (ps : List (ℕ × At)). AreForFrom (c.args.field + 1) ws rs ps) (sym c.rest_entries.ensures)
    (rest_for c.args.field ws rs c.in-Some.known.now (rw c.in-Some.is at knows))
