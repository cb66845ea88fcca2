use Rattle.std.proofs.Common.{ℕ}
use Rattle.avro_least.specs.inside.Falling.{effort, IsQuiet}
use Rattle.avro_least.specs.inside.Leading.{IsLowAt, IsSearchOf}
use Rattle.avro_least.proofs.pairs.search.search.Given as goal

abbrev pub invariant-loop-i : goal.invariant-loop-i
invariant-loop-i l = record {
  search : IsSearchOf l.graph l.search;
  quiet : IsQuiet l.search → (k : ℕ) → IsLowAt l.graph l.search k;
}

abbrev pub decreases-loop-i : goal.decreases-loop-i
decreases-loop-i l = effort l.search
