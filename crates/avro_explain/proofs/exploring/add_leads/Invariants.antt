use Rattle.std.proofs.Common.{◌≡◌, drop}
use Rattle.indexmap.specs.IndexSet.{keys}
use Rattle.avro_explain.specs.Places.{marked}
use Rattle.avro_explain.specs.Search.{with_leads}
use Rattle.avro_explain.specs.inside.Walks.{keys_of}
use Rattle.avro_explain.proofs.exploring.add_leads.Given as goal

abbrev pub invariant-loop-lead : goal.invariant-loop-lead
invariant-loop-lead l = (keys l.walk.known ≡ keys_of l.walk.places.items)
    × (with_leads (marked l.dead) l.at l.walk.places.items (drop l.lead-index l.leads) ≡ with_leads (marked l.dead) l.at l.initial.walk.places.items l.leads)
    × (l.walk.faults.items ≡ l.initial.walk.faults.items)
