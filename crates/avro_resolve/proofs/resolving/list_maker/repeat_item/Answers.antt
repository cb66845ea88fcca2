use Rattle.std.proofs.Common.{subst, sym}
use Rattle.avro_schema.specs.Node.{node_at}
use Rattle.avro_resolve.proofs.ArrayItems.{good_items, items_after_fault}
use Rattle.avro_resolve.proofs.resolving.list_maker.repeat_item.Goals as goal

pub returns-in-Good-made-clause-added : goal.returns-in-Good-made-clause-added
returns-in-Good-made-clause-added g c = λ told writer reader nodes id at vs v all h stands.
    let b = c.in-Good.field-4.0 in
    let S = g.M.Make.stands_for c.args.maker.now in
    good_items (g.M.Make.items_stand_for c.args.maker.now) S writer reader nodes id vs v c.args.count at c.in-Good.kept c.repeat_good.new.kept c.in-Good.known c.repeat_good.new.known
    c.in-Good.field-2 c.in-Good.field-3 c.in-Good.field-4 c.in-Good-made.out
    (λ place us u so_far one. c.repeat_good.ensures.added reader b place us u all so_far (subst (λ to. S reader (node_at reader b) to c.in-Good-made.out u) (sym (told.items c.args.maker.now c.in-Good.kept b)) one))
    (c.repeat_good.ensures.some all) (c.repeat_good.ensures.counted all) (rw c.in-Good.is at h) (rw (c.in-Good.is, c.in-Good-made.is) at stands)

pub returns-in-Faulty-clause-added : goal.returns-in-Faulty-clause-added
returns-in-Faulty-clause-added g c = λ told writer reader nodes id at vs v all h stands.
    rw c.in-Faulty.is (items_after_fault (g.M.Make.items_stand_for c.args.maker.now) (g.M.Make.stands_for c.args.maker.now) writer reader nodes id vs v c.args.count at c.in-Faulty.field-0 (rw c.in-Faulty.is at h))
