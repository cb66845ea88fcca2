use Rattle.avro_schema.specs.Seen.{field_of}
use Rattle.std.proofs.lemmas.List.{length-map}
use Rattle.std.proofs.Common.{◌∙◌, refl, ap, arith}
use Rattle.avro_schema.specs.SeenSchema.{schema_nodes}
use Rattle.avro_schema.specs.Value.{values_count}
use Rattle.avro_compare.specs.Resolve.{fields_at}
use Rattle.avro_display.specs.DisplayTree.{record_fields}
use Rattle.avro_display.specs.Table.{field_tree}
use Rattle.avro_show.specs.Showing.{reader_node, resolved_member, shown_node, writer_node}
use Rattle.avro_show.specs.declared.part.Part.{Part}
use Rattle.avro_show.proofs.Made.{count_fields}
use Rattle.avro_show.proofs.Objects.{each_member, fields_shown, members_shown, name_of_field, names_counted, names_shown}
use Rattle.avro_show.proofs.opening.opened_record.Goals as goal

pub returns-then-node_fields-count-clause-opens : goal.returns-then-node_fields-count-clause-opens
returns-then-node_fields-count-clause-opens c = λ us d all shows.
    let s = c.args.plan.now in
    let nodes = schema_nodes c.args.table.now in
    let fields = record_fields (shown_node c.args.table.now c.args.id) in
    let shown_count = rw (c.node_fields.ensures, c.node.ensures) at (length-map c.node_fields.result.now field_of) in
    let read_count = rw (c.fields_of-count.ensures.seen, c.reader.ensures) at (length-map c.fields_of-count.result.now field_of) in
    let made = ap values_count all.2 ∙ count_fields (fields_at (writer_node s c.args.pair)) all.0 (fields_at (reader_node s c.args.pair)) in
    let these = rw (← c.deref.ensures.value) at all in (
      field_tree nodes fields us,
      rw shows (members_shown nodes fields us c.part_members.result.now (omega (arith, c.if-node_fields-count.true, shown_count, read_count, made)) c.part_members.ensures),
      each_member nodes fields us (resolved_member s c.args.table.now (Part.Fields c.args.pair c.args.id c.deref.result)) (λ m. (us, these, refl)) c.part_members.result.now c.part_members.ensures.each,
    )

pub returns-else-node_fields-count-clause-opens : goal.returns-else-node_fields-count-clause-opens
returns-else-node_fields-count-clause-opens c = λ us d all shows.
    let s = c.args.plan.now in
    let nodes = schema_nodes c.args.table.now in
    let fields = record_fields (shown_node c.args.table.now c.args.id) in
    let shown_count = rw (c.node_fields.ensures, c.node.ensures) at (length-map c.node_fields.result.now field_of) in
    let read_count = rw (c.fields_of-count.ensures.seen, c.reader.ensures) at (length-map c.fields_of-count.result.now field_of) in
    let made = ap values_count all.2 ∙ count_fields (fields_at (writer_node s c.args.pair)) all.0 (fields_at (reader_node s c.args.pair)) in
    let these = rw (← c.deref.ensures.value) at all in (
      names_shown nodes fields us,
      field_tree nodes fields us,
      rw (fields_shown nodes fields us) shows,
      (
        names_counted nodes fields us (omega (arith, c.if-node_fields-count.false, shown_count, read_count, made)) ∙ made ∙ read_count,
        λ i k e. let f = name_of_field nodes fields us i k e in (us, f.0, these, f.1, f.2, rw f.1 refl),
      ),
    )
