use Rattle.std.proofs.Common.{subst, sym}
use Rattle.avro_schema.specs.Node.{node_at}
use Rattle.avro_binary.specs.Places.{alone}
use Rattle.avro_resolve.proofs.Arriving.{branch_led, own_led}
use Rattle.avro_resolve.proofs.resolving.leaves.into_branch.Goals as goal

pub returns-in_ok-outer-in-Some-clause-stands : goal.returns-in_ok-outer-in-Some-clause-stands
returns-in_ok-outer-in-Some-clause-stands g c = λ nodes r q v told to h.
    let S = g.M.Make.stands_for c.args.maker.now in
    let k = c.in-Some.branch in
    branch_led S (g.M.Make.stands_for c.branch-maker.new.self) nodes r q c.args.branch k v c.args.out c.in_ok-outer-in-Some.outer c.in-Some.is to h
    (λ ids got plain stand. c.in_ok-outer-in-Some.ensures.stands nodes ids q (alone r) v got plain
    (subst (λ at. S nodes (node_at nodes q) at c.args.out v) (sym (told.branches c.args.maker.now (alone r) k q)) stand))

pub returns-in-None-clause-stands : goal.returns-in-None-clause-stands
returns-in-None-clause-stands g c = λ nodes r q v told to h.
    own_led (g.M.Make.stands_for c.args.maker.now) nodes r q c.args.branch v c.args.out c.in-None.is to h
