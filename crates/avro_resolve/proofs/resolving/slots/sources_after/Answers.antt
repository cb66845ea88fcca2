use Rattle.std.proofs.Common.{◌+◌, ℕ, List, subst, sym}
use Rattle.avro_compare.specs.Planned.{AreSourcesFrom}
use Rattle.avro_compare.proofs.public.Entries.{rest_sources}
use Rattle.avro_resolve.proofs.resolving.slots.sources_after.Goals as goal

pub returns-in-Some : goal.returns-in-Some
returns-in-Some c = λ ws rs knows.
    subst (λ (ps : List (ℕ × ℕ)). AreSourcesFrom (c.args.index + 1) ws rs ps) (sym c.rest_entries.ensures)
    (rest_sources c.args.index ws rs c.in-Some.left.now (rw c.in-Some.is at knows))
