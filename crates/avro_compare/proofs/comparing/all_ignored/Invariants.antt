use Rattle.std.proofs.Common.{◌≡◌, length}
use Rattle.avro_compare.specs.declared.comparison.At.TheVariants.{Ignored}
use Rattle.avro_compare.proofs.public.Planning.{Holds}
use Rattle.avro_compare.proofs.comparing.all_ignored.Given as goal

abbrev pub invariant-loop-part : goal.invariant-loop-part
invariant-loop-part l = Holds (λ k at. at ≡ Ignored) l.found.items × (length l.found.items ≡ l._part)
