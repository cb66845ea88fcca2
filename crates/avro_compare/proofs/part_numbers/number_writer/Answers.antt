use Rattle.avro_compare.proofs.NumberedNames.{aliases_kept, parts_kept}
use Rattle.avro_compare.proofs.part_numbers.number_writer.Goals as goal

pub returns : goal.returns
returns c = λ reader h.
    let made = c.in_ok-numbers.ensures in
    let before = c.args.numbers.now in
    record {
      distinct = made.grows.distinct h.distinct;
      writes = made.has;
      reads = parts_kept _ _ made.grows _ _ made.symbols _ _ made.fields reader before.reads.items h.reads;
      aliases = aliases_kept _ _ made.grows _ _ made.fields reader before.aliases.items h.aliases;
    }
