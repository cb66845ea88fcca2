use Rattle.std.proofs.Common.{[], map, subst, sym, true, ap, ◌≡◌, ◌∙◌}
use Rattle.std.specs.Prelude.{IfSome}
use Rattle.avro_schema.specs.Fits.{fields_fit}
use Rattle.avro_schema.specs.Node.{Node, field_ids, node_at}
use Rattle.avro_schema.specs.Seen.{seen_fields, values_from}
use Rattle.avro_schema.specs.SeenSchema.{schema_nodes}
use Rattle.avro_schema.specs.Value.{Value}
use Rattle.avro_schema.specs.WellFormed.{is_schema}
use Rattle.avro_binary.specs.Places.{alone}
use Rattle.avro_compare.specs.Resolve.{field_value, fields_at}
use Rattle.avro_resolve.proofs.Copies.{copied_by}
use Rattle.avro_resolve.proofs.Filled.{fitting_all}
use Rattle.avro_resolve.proofs.Slots.{values_seen}
use Rattle.avro_resolve.proofs.VerbatimRecords.{verbatim_record}
use Rattle.avro_resolve.proofs.resolving.copying.copy_record.Goals as goal

pub returns-in_ok-out-in-Some-2-clause-stands : goal.returns-in_ok-out-in-Some-2-clause-stands
returns-in_ok-out-in-Some-2-clause-stands g c = λ nodes name aliases fs vs told spelled fit.
    let writer = schema_nodes c.args.plan.now.0 in
    let reader = schema_nodes c.args.plan.now.1 in
    let w = c.in-Pair.w in
    let r = c.in-Pair.r in
    let place = alone r.0 in
    let ws = fields_at (node_at writer w.0) in
    let rs = fields_at (node_at reader r.0) in
    let SN = g.M.Make.stands_for c.keep_ends.new.self in
    let T = g.M.Make.fields_stand_for in
    let bytes = c.args.bytes.now in
    let ends = c.args.ends.items in
    let out = c.in_ok-out-in-Some-2.out in
    let fields = c.in-Some-2.fields in
    let read = ap schema_nodes c.reader-reader.ensures in
    let of_reader = c.fields_of-reads.ensures.seen ∙ ap (λ s. fields_at (node_at (schema_nodes s) r.0)) c.reader-reader.ensures in
    let formed = subst (λ ns. is_schema ns ≡ true) read c.root-root.ensures.formed in
    let copied = copied_by (T c.fields.new.self) (T c.copy_fields.new.maker) c.in-Some.sources.now c.in_ok-start-in-Some.start fields bytes ends read of_reader c.deref.ensures.value
    (λ xs found to sources plain leaves fits starts. subst (λ o. IfSome o (λ made. T c.copy_fields.new.maker (schema_nodes c.reader-reader.result.now) (seen_fields c.fields_of-reads.result.now) to made (map (field_value xs found) (seen_fields c.fields_of-reads.result.now)))) c.in-Some-2.is
    (c.in_ok-fields-in-Some.ensures.stands xs found to told sources plain leaves fits starts)) in
    verbatim_record SN writer reader nodes name aliases fs vs bytes ends c.args.part.at w r out formed c.in-Pair.is c.in-Some.ensures.0 spelled fit
    (λ found own others is whole plain leaves.
    let values = map (field_value ws found) rs in
    let same = values_seen ws rs found in
    let fits = subst (λ us. fields_fit reader (field_ids rs) us ≡ true) same whole in
    let starts = subst (λ at. T c.fields.new.self reader rs at c.in_ok-start-in-Some.start []) c.of.ensures (c.in_ok-start-in-Some.ensures.stands reader rs) in
    let filled = copied ws found place c.in-Some.ensures.1 plain leaves (fitting_all reader rs (field_value ws found) fits) starts in
    let made = c.in_ok-out-in-Some-2.ensures.stands reader own others rs place values filled fits in
    let later = g.met.M.Make.still_stands c.record.new.self c.keep_ends.new.self reader (Node.record_of own others rs) place out (Value.record_of (values_from values)) c.keep_ends.ensures.kept made in
    subst (λ us. SN reader (node_at reader r.0) place out (Value.record_of us)) (sym same) (subst (λ n. SN reader n place out (Value.record_of (values_from values))) (sym is) later))
