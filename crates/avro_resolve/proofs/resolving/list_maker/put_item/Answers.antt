use Rattle.std.proofs.Common.{subst, sym}
use Rattle.avro_schema.specs.Node.{node_at}
use Rattle.avro_resolve.proofs.ArrayItems.{good_item, faulty_item, no_item}
use Rattle.avro_resolve.proofs.resolving.list_maker.put_item.Goals as goal

pub returns-in_ok-item-in-Good-made-clause-stands : goal.returns-in_ok-item-in-Good-made-clause-stands
returns-in_ok-item-in-Good-made-clause-stands g c = λ told writer reader nodes id at vs v h stands.
    let b = c.in-Good.field-4.0 in
    let S = g.M.Make.stands_for c.args.maker.now in
    good_item (g.M.Make.items_stand_for c.args.maker.now) S writer reader nodes id vs v (g.M.Make.items_stand_for c.item.new.self) at c.in-Good.kept c.item.new.items c.in-Good.count c.in_ok-next-in-Good-made.next
    c.in-Good.field-2 c.in-Good.field-3 c.in-Good.field-4 c.in-Good-made.out
    (λ place us u so_far one. c.in_ok-item-in-Good-made.ensures.stands reader b place us u so_far (subst (λ to. S reader (node_at reader b) to c.in-Good-made.out u) (sym (told.items c.args.maker.now c.in-Good.kept b)) one))
    c.in_ok-next-in-Good-made.ensures (rw c.in-Good.is at h) (rw (c.in-Good.is, c.in-Good-made.is) at stands)

pub returns-in_ok-outer-in-Faulty-made-clause-stands : goal.returns-in_ok-outer-in-Faulty-made-clause-stands
returns-in_ok-outer-in-Faulty-made-clause-stands g c = λ told writer reader nodes id at vs v h stands.
    faulty_item (g.M.Make.items_stand_for c.args.maker.now) (g.M.Make.stands_for c.args.maker.now) writer reader nodes id vs v at c.in-Good.kept c.in-Good.count
    c.in-Good.field-2 c.in-Good.field-3 c.in-Good.field-4 c.in-Faulty-made.fault c.in_ok-outer-in-Faulty-made.outer c.in_ok-outer-in-Faulty-made.ensures (rw c.in-Good.is at h) (rw (c.in-Good.is, c.in-Faulty-made.is) at stands)

pub returns-in-Nothing-made-clause-stands : goal.returns-in-Nothing-made-clause-stands
returns-in-Nothing-made-clause-stands g c = λ told writer reader nodes id at vs v h stands.
    no_item (g.M.Make.items_stand_for c.args.maker.now) (g.M.Make.stands_for c.args.maker.now) writer reader nodes id vs v at c.in-Good.kept c.in-Good.count
    c.in-Good.field-2 c.in-Good.field-3 c.in-Good.field-4 (rw c.in-Good.is at h) (rw (c.in-Good.is, c.in-Nothing-made.is) at stands)
