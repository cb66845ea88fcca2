use Rattle.std.proofs.Common.{◌≡◌, ◌++◌, drop, map}
use Rattle.avro_compare.specs.Leads.{lead_pair}
use Rattle.avro_least.specs.SeenLeast.{table_of}
use Rattle.avro_least.specs.Asked.{live_numbers}
use Rattle.avro_least.proofs.pairs.reaching.add_numbers.Given as goal

abbrev pub invariant-loop-lead : goal.invariant-loop-lead
invariant-loop-lead l = l.initial.numbers.items ++ live_numbers l.count (table_of l.table) (map lead_pair l.leads)
    ≡ l.numbers.items ++ live_numbers l.count (table_of l.table) (map lead_pair (drop l.lead-index l.leads))
