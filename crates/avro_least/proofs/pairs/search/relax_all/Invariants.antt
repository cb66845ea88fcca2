use Rattle.std.proofs.Common.{◌<◌, ◌≤◌, ℕ}
use Rattle.avro_least.specs.inside.Falling.{effort, IsQuiet}
use Rattle.avro_least.specs.inside.Leading.{IsLowAt, IsSearchOf}
use Rattle.avro_least.proofs.pairs.search.relax_all.Given as goal

abbrev pub invariant-loop-i : goal.invariant-loop-i
invariant-loop-i l = record {
  search : IsSearchOf l.graph l.search;
  effort : effort l.search ≤ effort l.initial.search;
  quiet : IsQuiet l.search → (k : ℕ) → k < l.i → IsLowAt l.graph l.search k;
}
