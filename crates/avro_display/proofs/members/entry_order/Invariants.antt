use Rattle.std.proofs.Common.{ℕ, List, drop, map}
use Rattle.serde_json.specs.Data.{Data}
use Rattle.avro_display.specs.Displayed.{AreOrdered, EntriesAre}
use Rattle.avro_display.specs.inside.Tables.{seen_place}
use Rattle.avro_display.proofs.Tables.{AreLeft}
use Rattle.avro_display.proofs.members.entry_order.Given as goal

abbrev pub invariant-loop-index : goal.invariant-loop-index
invariant-loop-index g l = (keys : List (List ℕ)) (tree : ℕ → Data) → EntriesAre (g.D.Displayed.entry_shows l.displayed) l.object l.count keys tree
    → AreLeft keys l.index (drop l.index keys) l.order.entries × AreOrdered (g.D.Displayed.entry_shows l.displayed) l.object (map seen_place l.order.entries) tree
