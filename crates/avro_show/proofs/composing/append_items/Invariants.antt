use Rattle.std.proofs.Common.{false, ◌++◌, drop}
use Rattle.serde_json.specs.Data.{Items}
use Rattle.serde_json.specs.Written.{items_text}
use Rattle.avro_show.specs.Spans.{AreItemsAt}
use Rattle.avro_show.proofs.Composed.{ItemsLeft}
use Rattle.avro_show.proofs.composing.append_items.Given as goal

abbrev pub invariant-loop-item : goal.invariant-loop-item
invariant-loop-item l = (ds : Items) → AreItemsAt l.text l.items ds → ItemsLeft l.text (l.initial.whole ++ items_text false ds) l.whole l.later (drop l.item-index l.items)
