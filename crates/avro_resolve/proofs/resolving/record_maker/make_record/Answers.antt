use Rattle.std.proofs.Common.{List, map, subst, sym, true, ap, ◌≡◌, ◌∙◌}
use Rattle.std.specs.Prelude.{IfSome}
use Rattle.avro_schema.specs.Fits.{fields_fit}
use Rattle.avro_schema.specs.Node.{FieldNode, Node, field_ids, node_at}
use Rattle.avro_schema.specs.Seen.{seen_fields, values_from}
use Rattle.avro_schema.specs.SeenSchema.{schema_nodes}
use Rattle.avro_schema.specs.Value.{Value}
use Rattle.avro_schema.specs.WellFormed.{is_schema}
use Rattle.avro_binary.specs.Places.{placed}
use Rattle.avro_compare.specs.Resolve.{field_value, field_values, fields_at}
use Rattle.avro_resolve.proofs.Filled.{filled_by, fitting_all}
use Rattle.avro_resolve.proofs.Telling.{on_then}
use Rattle.avro_resolve.proofs.RecordSlots.{good_record, faulty_record}
use Rattle.avro_compare.specs.Planned.{AreSources}
use Rattle.avro_resolve.proofs.Slots.{values_seen}
use Rattle.avro_resolve.proofs.resolving.record_maker.make_record.Goals as goal

pub returns-in_ok-out-in-Good-clause-stands : goal.returns-in_ok-out-in-Good-clause-stands
returns-in_ok-out-in-Good-clause-stands g c = λ told nodes name aliases fs at vs h fit.
    let writer = schema_nodes c.args.plan.now.0 in
    let reader = schema_nodes c.args.plan.now.1 in
    let w = c.in-Good.w in
    let q = c.in-Good.q in
    let branch = c.in-Good.branch in
    let place = placed branch q.0 in
    let ws = fields_at (node_at writer w.0) in
    let rs = fields_at (node_at reader q.0) in
    let SO = g.M.Make.stands_for c.args.maker.now in
    let T = g.M.Make.fields_stand_for c.args.maker.now in
    let SK = g.M.Make.stands_for c.keep_slots.new.self in
    let out = c.in_ok-out-in-Good.out in
    let read = ap schema_nodes c.reader-reader.ensures in
    let of_writer = c.fields_of-writes.ensures.seen ∙ ap (λ s. fields_at (node_at (schema_nodes s) w.0)) c.writer.ensures in
    let of_reader = c.fields_of-reads.ensures.seen ∙ ap (λ s. fields_at (node_at (schema_nodes s) q.0)) c.reader-reader.ensures in
    let formed = subst (λ ns. is_schema ns ≡ true) read c.root-root.ensures.formed in
    let filled = filled_by SO T (g.M.Make.fields_stand_for c.fill.new.maker) c.in-Good.slots.items c.in-Good.start _ read of_writer of_reader
    (λ found to fits stand starts. c.in_ok-taken-in-Good.ensures.stands found to told fits stand starts) in
    good_record SO T writer reader nodes name aliases fs vs at c.in-Good.slots c.in-Good.start branch w q (g.M.Make.stands_for c.into_branch.new.maker) c.into_branch.result formed fit
    (λ r found own others to is whole stand starts.
    let values = map (field_value ws found) rs in
    let same = values_seen ws rs found in
    let fits = subst (λ us. fields_fit reader (field_ids rs) us ≡ true) same whole in
    let made = c.in_ok-out-in-Good.ensures.stands reader own others rs place values (filled found place (fitting_all reader rs (field_value ws found) fits) stand starts) fits in
    let later = g.met.M.Make.still_stands c.record.new.self c.keep_slots.new.self reader (Node.record_of own others rs) place out (Value.record_of (values_from values)) c.keep_slots.ensures.kept made in
    c.into_branch.ensures.stands reader r q.0 (Value.record_of (field_values ws found rs)) told to
    (subst (λ us. SK reader (node_at reader q.0) place out (Value.record_of us)) (sym same) (subst (λ n. SK reader n place out (Value.record_of (values_from values))) (sym is) later)))
    (rw c.in-Good.is at h)

pub returns-in_ok-out-in-Good-clause-kept : goal.returns-in_ok-out-in-Good-clause-kept
returns-in_ok-out-in-Good-clause-kept g c =
    on_then (g.M.Make.keeps c.keep_slots.new.self c.into_branch.new.maker) (g.M.Make.keeps c.args.maker.now c.into_branch.new.maker) c.into_branch.result
    (λ on. g.met.M.Make.keeps_on c.args.maker.now c.keep_slots.new.self c.into_branch.new.maker
    (g.met.M.Make.keeps_on c.args.maker.now c.record.new.self c.keep_slots.new.self
    (g.met.M.Make.keeps_on c.args.maker.now c.fill.new.maker c.record.new.self c.in_ok-taken-in-Good.ensures.kept c.in_ok-out-in-Good.ensures.kept) c.keep_slots.ensures.kept) on)
    c.into_branch.ensures.kept

pub returns-in-Faulty-clause-stands : goal.returns-in-Faulty-clause-stands
returns-in-Faulty-clause-stands g c = λ told nodes name aliases fs at vs h fit.
    faulty_record (g.M.Make.stands_for c.args.maker.now) (g.M.Make.fields_stand_for c.args.maker.now) (schema_nodes c.args.plan.now.0) (schema_nodes c.args.plan.now.1) nodes name aliases fs vs at c.in-Faulty.fault (rw c.in-Faulty.is at h)

pub fill-requires-clause-sources : goal.fill-requires-clause-sources
fill-requires-clause-sources g c =
    let of_writer = c.fields_of-writes.ensures.seen ∙ ap (λ s. fields_at (node_at (schema_nodes s) c.in-Good.w.0)) c.writer.ensures in
    let of_reader = c.fields_of-reads.ensures.seen ∙ ap (λ s. fields_at (node_at (schema_nodes s) c.in-Good.q.0)) c.reader-reader.ensures in
    subst (λ (fs : List FieldNode). IfSome c.sources-sources.result (λ ss. AreSources (seen_fields c.fields_of-writes.result.now) fs ss.now)) (sym of_reader)
    (subst (λ (fs : List FieldNode). IfSome c.sources-sources.result (λ ss. AreSources fs (fields_at (node_at (schema_nodes c.args.plan.now.1) c.in-Good.q.0)) ss.now)) (sym of_writer) c.sources-sources.ensures)
