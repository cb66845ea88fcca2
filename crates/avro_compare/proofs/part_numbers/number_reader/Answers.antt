use Rattle.avro_schema.specs.SeenSchema.{schema_nodes}
use Rattle.avro_compare.proofs.NumberedNames.{aliases_kept, parts_kept}
use Rattle.avro_compare.proofs.part_numbers.number_reader.Goals as goal

pub returns : goal.returns
returns c = λ writer h.
    let made = c.in_ok-numbers.ensures in
    let before = c.args.numbers.now in
    record {
      distinct = made.grows.distinct h.distinct;
      writes = parts_kept _ _ made.grows _ _ made.symbols _ _ made.fields writer before.writes.items h.writes;
      reads = made.has;
      aliases = aliases_kept _ _ made.grows _ _ made.symbols (schema_nodes c.args.reader.now) before.aliases.items h.aliases;
    }
