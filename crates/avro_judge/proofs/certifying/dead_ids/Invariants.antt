use Rattle.std.proofs.Common.{◌≡◌}
use Rattle.avro_judge.specs.inside.Evidence.{dead_below}
use Rattle.avro_least.specs.SeenLeast.{table_of}
use Rattle.avro_judge.proofs.certifying.dead_ids.Given as goal

abbrev pub invariant-loop-id : goal.invariant-loop-id
invariant-loop-id l = l.dead.items ≡ dead_below (table_of l.table) l.id
