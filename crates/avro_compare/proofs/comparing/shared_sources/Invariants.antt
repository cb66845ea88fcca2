use Rattle.std.specs.Prelude.{slice_get}
use Rattle.avro_compare.specs.inside.Listed.{listed_source}
use Rattle.avro_compare.proofs.public.Entries.{AreKept}
use Rattle.avro_compare.proofs.comparing.shared_sources.Given as goal

abbrev pub invariant-loop-index : goal.invariant-loop-index
invariant-loop-index l = AreKept (λ k. listed_source (slice_get l.found k)) l.index l.kept.items
