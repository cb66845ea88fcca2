use Rattle.std.specs.Prelude.{slice_get}
use Rattle.avro_compare.specs.inside.Listed.{shared_part}
use Rattle.avro_compare.proofs.public.Entries.{AreKept}
use Rattle.avro_compare.proofs.comparing.shared_fields.Given as goal

abbrev pub invariant-loop-index : goal.invariant-loop-index
invariant-loop-index l = AreKept (λ k. shared_part (slice_get l.parts k)) l.index l.kept.items
