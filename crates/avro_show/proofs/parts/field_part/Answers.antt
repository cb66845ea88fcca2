use Rattle.std.proofs.lemmas.List.{length-map}
use Rattle.std.proofs.Common.{◌∙◌, sym, ap, arith}
use Rattle.avro_schema.specs.Seen.{field_of, values_of}
use Rattle.avro_schema.specs.SeenSchema.{schema_nodes}
use Rattle.avro_schema.specs.declared.schema.NodeId.{NodeId}
use Rattle.avro_compare.proofs.public.Lists.{seen_at}
use Rattle.avro_display.specs.Table.{value_at}
use Rattle.avro_show.proofs.Taken.{default_is, no_field, source_is}
use Rattle.avro_show.proofs.Values.{default_within}
use Rattle.avro_show.proofs.parts.field_part.Goals as goal

pub returns-in-Some-source-clause-shows : goal.returns-in-Some-source-clause-shows
returns-in-Some-source-clause-shows c = λ t us d all shows.
    let s = c.args.plan.now in
    let i = c.args.index in
    let there = rw (c.fields_of.ensures.seen, c.reader.ensures) at (seen_at c.fields_of.result.now i c.in-Some.field.now c.in-Some.ensures.lookup.3.0 c.in-Some.ensures.lookup.1) in
    let distinct = rw (c.fields_of.ensures.seen, c.reader.ensures) at c.fields_of.ensures.distinct in
    c.value_part.ensures.shows s t (value_at us i) d
    (source_is s c.args.pair (values_of c.args.values.now) us i all (field_of c.in-Some.field.now) there c.field.result c.in-Some-source.source distinct (sym (c.source.ensures there) ∙ c.in-Some-source.is)
    c.field.ensures.of_writer (ap (λ (n : NodeId). n.0) c.field.ensures.of_reader))
    shows

pub returns-in-None-source-clause-shows : goal.returns-in-None-source-clause-shows
returns-in-None-source-clause-shows c = λ t us d all shows.
    let s = c.args.plan.now in
    let i = c.args.index in
    let there = rw (c.fields_of.ensures.seen, c.reader.ensures) at (seen_at c.fields_of.result.now i c.in-Some.field.now c.in-Some.ensures.lookup.3.0 c.in-Some.ensures.lookup.1) in
    let none = default_is s c.args.pair (values_of c.args.values.now) us i all (field_of c.in-Some.field.now) there (sym (c.source.ensures there) ∙ c.in-None-source.is) in
    c.default_part.ensures.shows s t d (rw (← none) shows)

pub returns-in-None-source-clause-levels : goal.returns-in-None-source-clause-levels
returns-in-None-source-clause-levels c =
    let there = rw (c.fields_of.ensures.seen, c.reader.ensures) at (seen_at c.fields_of.result.now c.args.index c.in-Some.field.now c.in-Some.ensures.lookup.3.0 c.in-Some.ensures.lookup.1) in
    omega (arith, c.default_part.ensures.levels c.args.plan.now, default_within (schema_nodes c.args.plan.now.1) c.args.pair.r.0 c.args.index (field_of c.in-Some.field.now) there)

pub returns-in-None-clause-shows : goal.returns-in-None-clause-shows
returns-in-None-clause-shows c = λ t us d all shows.
    let counted = rw (c.fields_of.ensures.seen, c.reader.ensures) at (length-map c.fields_of.result.now field_of) in
    rw (no_field c.args.plan.now c.args.pair (values_of c.args.values.now) us c.args.index all (omega (arith, c.in-None.ensures.lookup, counted))) at shows
