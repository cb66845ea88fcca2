use Rattle.std.proofs.Common.{◌≡◌, ◌≤◌, ◌&&◌, ◌||◌, ◌==◌, ℕ, length, drop}
use Rattle.avro_compare.specs.inside.TypeNames.{NameKey, has_alias, holds}
use Rattle.avro_compare.proofs.reader_types.add_aliases.Given as goal

abbrev pub invariant-loop-left : goal.invariant-loop-left
invariant-loop-left l = (l.left ≤ length l.aliases)
    × ((key : NameKey) (b : ℕ) → holds l.sets key b ≡ ((l.id == b && has_alias l.texts key (drop l.left l.aliases)) || holds l.fn.sets key b))

abbrev pub decreases-loop-left : goal.decreases-loop-left
decreases-loop-left l = l.left
