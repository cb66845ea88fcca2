use Rattle.std.proofs.Common.{◌≤◌}
use Rattle.avro_least.specs.inside.Falling.{effort}
use Rattle.avro_least.specs.inside.Leading.{IsSearchOf}
use Rattle.avro_least.proofs.pairs.search.take_leads.Given as goal

abbrev pub invariant-loop-left : goal.invariant-loop-left
invariant-loop-left l = record {
  search : IsSearchOf l.graph l.search;
  effort : effort l.search ≤ effort l.initial.search;
}

abbrev pub decreases-loop-left : goal.decreases-loop-left
decreases-loop-left l = l.left
