use Rattle.std.proofs.Common.{◌≡◌, ◌<◌, ◌≤◌, ℕ, Some}
use Rattle.avro_compare.specs.Children.{Pair}
use Rattle.avro_least.specs.Asks.{nth_part}
use Rattle.avro_least.specs.inside.Falling.{effort, IsQuiet}
use Rattle.avro_least.specs.inside.Leading.{HasTaken, IsSearchOf}
use Rattle.avro_least.proofs.pairs.search.take_parts.Given as goal

abbrev pub invariant-loop-n : goal.invariant-loop-n
invariant-loop-n l = record {
  search : IsSearchOf l.graph l.search;
  effort : effort l.search ≤ effort l.initial.search;
  quiet : IsQuiet l.search → IsQuiet l.initial.search × (l.search.entries.items ≡ l.initial.search.entries.items)
      × ((m k : ℕ) (c : Pair) → m < l.n → nth_part l.w.0 l.r.0 l.ask m ≡ Some (k, c) → HasTaken l.graph l.initial.search l.i k);
}
