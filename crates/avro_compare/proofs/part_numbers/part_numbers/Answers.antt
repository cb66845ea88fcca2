use Rattle.std.proofs.Common.{subst}
use Rattle.avro_schema.specs.SeenSchema.{schema_nodes}
use Rattle.avro_compare.specs.inside.PartNumbers.{FindsAll, Lists}
use Rattle.avro_compare.proofs.part_numbers.part_numbers.Goals as goal

pub returns : goal.returns
returns c =
    let writer = schema_nodes c.args.writer.now in
    let reader = schema_nodes c.args.reader.now in
    let made = c.in_ok-number_aliases.ensures writer (c.in_ok-number_reader.ensures writer (c.in_ok-number_writer.ensures reader (c.no_parts-numbers.ensures writer reader).lists)) in
    record {
      lists = record { distinct = made.distinct; writes = made.writes; reads = made.reads; aliases = made.aliases };
      places = subst (λ (lists : Lists). FindsAll c.in_ok-numbers.field-0 lists) c.deref.ensures.value c.in_ok-numbers.ensures;
    }
