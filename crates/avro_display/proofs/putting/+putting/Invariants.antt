use Rattle.std.proofs.Common.{false, ◌≡◌, ◌++◌, ◌+◌, ◌*◌, ℕ, Some, drop, map}
use Rattle.std.specs.List.{AllByRecursion}
use Rattle.serde_json.specs.Data.{Data, Items}
use Rattle.serde_json.specs.Written.{items_text, members_text}
use Rattle.avro_display.specs.Displayed.{AreOrdered, ItemsAre, members_left}
use Rattle.avro_display.specs.Order.{in_order}
use Rattle.avro_display.specs.Pieces.{PutsText}
use Rattle.avro_display.specs.inside.Tables.{seen_place}
use Rattle.avro_display.proofs.Displays.{items_from, weight}
use Rattle.avro_display.proofs.putting.+putting.Given as goal

abbrev pub decreases-put_displayed : goal.decreases-put_displayed
decreases-put_displayed g l = weight (g.D.Displayed.levels l.displayed.now) l.part

abbrev pub decreases-put_branch : goal.decreases-put_branch
decreases-put_branch g l = weight (g.D.Displayed.levels l.displayed.now) (Some l.value) + 1

abbrev pub decreases-put_items : goal.decreases-put_items
decreases-put_items g l = 4 * g.D.Displayed.levels l.displayed.now l.items + 1

abbrev pub decreases-put_entries : goal.decreases-put_entries
decreases-put_entries g l = 4 * g.D.Displayed.levels l.displayed.now l.entries + 2

abbrev pub decreases-put_ordered : goal.decreases-put_ordered
decreases-put_ordered g l = 4 * g.D.Displayed.levels l.displayed.now l.entries + 1

abbrev pub decreases-put_members : goal.decreases-put_members
decreases-put_members g l = 4 * g.D.Displayed.levels l.displayed.now l.owner + 1

abbrev pub invariant-put_items-loop-index : goal.invariant-put_items-loop-index
invariant-put_items-loop-index g l =
    ((ds : Items) → ItemsAre (g.D.Displayed.item_shows l.displayed) l.items l.count ds →
    PutsText g.O.Output.keeps l.initial.out l.initial.text (items_text false ds) l.out (l.text ++ items_text l.later (items_from l.index ds)))
    × (g.O.Output.failures l.out ≡ g.O.Output.failures l.initial.out)

abbrev pub invariant-put_ordered-loop-key : goal.invariant-put_ordered-loop-key
invariant-put_ordered-loop-key g l =
    ((tree : ℕ → Data) → AreOrdered (g.D.Displayed.entry_shows l.displayed) l.entries (map seen_place l.order.entries) tree →
    PutsText g.O.Output.keeps l.initial.out l.initial.text (members_text false (in_order tree (map seen_place l.order.entries))) l.out
    (l.text ++ members_text l.later (in_order tree (map seen_place l.key-iterator)))
    × AreOrdered (g.D.Displayed.entry_shows l.displayed) l.entries (map seen_place l.key-iterator) tree)
    × (g.O.Output.failures l.out ≡ g.O.Output.failures l.initial.out)

abbrev pub invariant-put_members-loop-member : goal.invariant-put_members-loop-member
invariant-put_members-loop-member g l =
    ((tree : ℕ → Data) → AllByRecursion (λ m. g.D.Displayed.member_shows l.displayed l.owner m (tree m.field)) l.members →
    PutsText g.O.Output.keeps l.initial.out l.initial.text (members_left tree l.members) l.out
    (l.text ++ members_left tree (drop l.member-index l.members)))
    × (g.O.Output.failures l.out ≡ g.O.Output.failures l.initial.out)
