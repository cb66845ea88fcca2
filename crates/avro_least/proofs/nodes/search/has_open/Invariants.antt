use Rattle.std.proofs.Common.{◌-◌, length}
use Rattle.avro_least.proofs.nodes.search.has_open.Given as goal

abbrev pub decreases-loop-hint : goal.decreases-loop-hint
decreases-loop-hint l = length l.fields - l.hint
