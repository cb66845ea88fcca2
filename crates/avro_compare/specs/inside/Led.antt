-- Where a pair of nodes leads by a branch of a reader's union.
use Rattle.std.specs.Prelude.{ℕ, List, [], ◌∷◌, Some}
use Rattle.avro_compare.specs.Leads.{lead_by}
use Rattle.avro_compare.specs.declared.comparison.Target.{Target}
use Rattle.avro_compare.specs.declared.comparison.Lead.{Lead}
use Rattle.avro_compare.specs.declared.comparison.Step.TheVariants.{Choice}

abbrev pub led_by : ℕ → Target → List Lead
led_by w (Target.To (Some k) q) = lead_by (Choice k) w q.0 ∷ []
led_by w target = []
