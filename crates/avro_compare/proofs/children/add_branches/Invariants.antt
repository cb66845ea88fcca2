use Rattle.std.proofs.Common.{◌≡◌, ◌++◌, drop}
use Rattle.avro_schema.specs.Seen.{ids_of}
use Rattle.avro_compare.specs.Leads.{branch_leads}
use Rattle.avro_compare.proofs.children.add_branches.Given as goal

abbrev pub invariant-loop-index : goal.invariant-loop-index
invariant-loop-index l = l.fn.found.items ++ branch_leads 0 l.r.0 (ids_of l.ids) ≡ l.found.items ++ branch_leads l.index l.r.0 (ids_of (drop l.index l.ids))
