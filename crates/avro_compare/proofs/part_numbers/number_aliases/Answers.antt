use Rattle.avro_schema.specs.SeenSchema.{schema_nodes}
use Rattle.avro_compare.proofs.NumberedNames.{lists_none, parts_kept}
use Rattle.avro_compare.proofs.part_numbers.number_aliases.Goals as goal

pub returns : goal.returns
returns c = λ writer h.
    let made = c.in_ok-numbers.ensures in
    let before = c.args.numbers.now in
    record {
      distinct = made.grows.distinct h.distinct;
      writes = parts_kept _ _ made.grows _ _ made.kept _ _ (lists_none before.plain.items) writer before.writes.items h.writes;
      reads = parts_kept _ _ made.grows _ _ (lists_none before.plain.items) _ _ made.kept (schema_nodes c.args.reader.now) before.reads.items h.reads;
      aliases = made.has;
    }
