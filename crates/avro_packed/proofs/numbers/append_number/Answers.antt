use Rattle.std.proofs.Common.{ap, ◌∙◌, w64}
use Rattle.std.proofs.lemmas.Int.{to_z-of_z}
use Rattle.avro_zigzag.specs.Number.{zigzag}
use Rattle.avro_packed.proofs.Grouping.{groups_spell}
use Rattle.avro_packed.proofs.numbers.append_number.Goals as goal

pub returns-clause-appended : goal.returns-clause-appended
returns-clause-appended c =
    groups_spell c.append_groups.result c.args.number c.to_zigzag-folded.result c.args.out.now.items c.append_groups.new.out.items
    (c.to_zigzag-folded.ensures ∙ ap zigzag (to_z-of_z w64 c.args.number c.ranges.number)) c.append_groups.ensures.appended
