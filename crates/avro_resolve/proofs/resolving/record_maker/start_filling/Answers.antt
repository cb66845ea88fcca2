use Rattle.std.proofs.Common.{[], None, ap, length, subst, sym, ℕ}
use Rattle.avro_schema.specs.Node.{node_at}
use Rattle.avro_schema.specs.SeenSchema.{schema_nodes}
use Rattle.avro_compare.specs.Planned.{AreForFrom}
use Rattle.avro_compare.specs.Resolve.{fields_at}
use Rattle.avro_resolve.proofs.Arriving.{own_arrives}
use Rattle.avro_resolve.proofs.RecordSlots.{no_slots}
use Rattle.avro_resolve.proofs.resolving.record_maker.start_filling.Goals as goal

pub returns-in_ok-fields-in-Some-clause-stands : goal.returns-in_ok-fields-in-Some-clause-stands
returns-in_ok-fields-in-Some-clause-stands g c = λ told nodes fs.
    let writer = schema_nodes c.args.plan.now.0 in
    let reader = schema_nodes c.args.plan.now.1 in
    let r = c.in-Pair.r in
    let rs = fields_at (node_at reader r.0) in
    let whole = c.in-Some.ensures in
    let starts = subst (λ at. g.M.Make.fields_stand_for c.fields.new.self reader rs at c.in_ok-fields-in-Some.fields []) c.of.ensures (c.in_ok-fields-in-Some.ensures.stands reader rs) in (
      no_slots (g.M.Make.stands_for c.fields.new.self) (g.M.Make.fields_stand_for c.fields.new.self) writer reader nodes fs c.args.part.at c.in-Pair.w r c.slots-slots.result c.in_ok-fields-in-Some.fields None r
          c.in-Pair.is c.slots-slots.ensures.none starts whole.leads (own_arrives writer reader (node_at writer c.in-Pair.w.0) r whole.leads) whole.complete,
      subst (λ (n : ℕ). AreForFrom n (fields_at (node_at writer c.in-Pair.w.0)) rs c.in-Some.known.now) (sym (ap length c.slots-slots.ensures.none)) whole.fields,
    )
