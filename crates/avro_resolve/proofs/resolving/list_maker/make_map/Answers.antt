use Rattle.std.proofs.Common.{subst, sym}
use Rattle.avro_schema.specs.Seen.{entries_from}
use Rattle.avro_schema.specs.Value.{Value}
use Rattle.avro_binary.specs.Places.{placed}
use Rattle.avro_resolve.proofs.MapEntries.{good_map, faulty_map}
use Rattle.avro_resolve.proofs.resolving.list_maker.make_map.Goals as goal

pub returns-in_ok-out-in-Good-clause-stands : goal.returns-in_ok-out-in-Good-clause-stands
returns-in_ok-out-in-Good-clause-stands g c = λ told writer reader nodes id at vs h.
    let branch = c.in-Good.branch in
    good_map (g.M.Make.entries_stand_for c.args.maker.now) (g.M.Make.stands_for c.args.maker.now) writer reader nodes id vs at c.in-Good.kept c.in-Good.field-1 branch c.in-Good.field-3 c.in-Good.field-4
    (g.M.Make.stands_for c.into_branch.new.maker) c.into_branch.result
    (λ r q us to is stand. c.into_branch.ensures.stands reader r q (Value.map_of (entries_from us)) told to
    (subst (λ n. g.M.Make.stands_for c.map.new.self reader n (placed branch q) c.in_ok-out-in-Good.out (Value.map_of (entries_from us))) (sym is)
    (c.in_ok-out-in-Good.ensures.stands reader c.in-Good.field-4.0 (placed branch q) us stand)))
    (rw c.in-Good.is at h)

pub returns-in-Faulty-clause-stands : goal.returns-in-Faulty-clause-stands
returns-in-Faulty-clause-stands g c = λ told writer reader nodes id at vs h.
    faulty_map (g.M.Make.entries_stand_for c.args.maker.now) (g.M.Make.stands_for c.args.maker.now) writer reader nodes id vs at c.in-Faulty.fault (rw c.in-Faulty.is at h)
