use Rattle.std.proofs.Common.{sym}
use Rattle.avro_schema.specs.Node.{node_at}
use Rattle.avro_schema.specs.SeenSchema.{schema_nodes}
use Rattle.avro_compare.specs.Resolve.{fields_at}
use Rattle.avro_resolve.proofs.RecordSlots.{no_slots}
use Rattle.avro_resolve.proofs.resolving.record_maker.start_fields.Goals as goal

pub returns-in_ok-fields-in-None-clause-stands : goal.returns-in_ok-fields-in-None-clause-stands
returns-in_ok-fields-in-None-clause-stands g c = λ told nodes fs.
    let reader = schema_nodes c.args.plan.now.1 in
    no_slots (g.M.Make.stands_for c.fields.new.self) (g.M.Make.fields_stand_for c.fields.new.self) (schema_nodes c.args.plan.now.0) reader nodes fs c.args.at c.in-Pair.w c.in-Pair.r c.slots-slots.result c.in_ok-fields-in-None.fields c.in-To.branch c.in-To.q
    c.in-Pair.is c.slots-slots.ensures.none (c.in_ok-fields-in-None.ensures.stands reader (fields_at (node_at reader c.in-To.q.0))) c.in-To.ensures.leads c.in-To.ensures.arrives (sym c.in-None.ensures)

pub returns-in_ok-fields-in-None-clause-kept : goal.returns-in_ok-fields-in-None-clause-kept
returns-in_ok-fields-in-None-clause-kept g c = g.met.M.Make.keeps_on c.args.maker.now c.slots-slots.new.self c.fields.new.self c.slots-slots.ensures.kept c.in_ok-fields-in-None.ensures.kept
