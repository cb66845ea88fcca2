use Rattle.std.proofs.Common.{subst, sym}
use Rattle.avro_schema.specs.Node.{node_at}
use Rattle.avro_schema.specs.SeenSchema.{schema_nodes}
use Rattle.avro_binary.specs.LeafValue.{leaf_value}
use Rattle.avro_compare.specs.Fault.{fault_here}
use Rattle.avro_compare.specs.Seen.{cause_of}
use Rattle.avro_resolve.proofs.Arriving.{leaf_into, leaf_bad, leaf_lost}
use Rattle.avro_resolve.proofs.Telling.{on_then}
use Rattle.avro_resolve.proofs.resolving.leaves.make_leaf.Goals as goal

pub returns-in_ok-out-in-Ok-clause-stands : goal.returns-in_ok-out-in-Ok-clause-stands
returns-in_ok-out-in-Ok-clause-stands g c = λ nodes n told fit.
    let writer = schema_nodes c.args.plan.now.0 in
    let reader = schema_nodes c.args.plan.now.1 in
    let q = c.in-To.q in
    let u = leaf_value c.in-Ok.taken in
    leaf_into (g.M.Make.stands_for c.into_branch.new.maker) writer reader nodes n c.args.part.at c.in-Pair.w c.in-Pair.r c.args.leaf c.in-Pair.is c.in-To.branch q u c.into_branch.result
    c.target.ensures.formed fit c.in-To.ensures.leads c.in-To.ensures.arrives.into c.in-Ok.ensures
    (λ fit_there. c.into_branch.ensures.stands reader c.in-Pair.r.0 q.0 u told c.in-To.ensures.arrives.into (c.in_ok-out-in-Ok.ensures.stands reader (node_at reader q.0) fit_there))

pub returns-in_ok-out-in-Ok-clause-kept : goal.returns-in_ok-out-in-Ok-clause-kept
returns-in_ok-out-in-Ok-clause-kept g c =
    on_then (g.M.Make.keeps c.leaf.new.self c.into_branch.new.maker) (g.M.Make.keeps c.args.maker.now c.into_branch.new.maker) c.into_branch.result
    (λ on. g.met.M.Make.keeps_on c.args.maker.now c.leaf.new.self c.into_branch.new.maker c.in_ok-out-in-Ok.ensures.kept on) c.into_branch.ensures.kept

pub returns-in_ok-bad-in-Err-clause-stands : goal.returns-in_ok-bad-in-Err-clause-stands
returns-in_ok-bad-in-Err-clause-stands g c = λ nodes n told fit.
    leaf_bad (g.M.Make.stands_for c.args.maker.now) (schema_nodes c.args.plan.now.0) (schema_nodes c.args.plan.now.1) nodes n c.args.part.at c.in-Pair.w c.in-Pair.r c.args.leaf c.in-Pair.is c.in-To.branch c.in-To.q
    c.in_ok-bad-in-Err.bad (fault_here (cause_of c.in-Err.kind)) c.in-To.ensures.leads c.in-Err.ensures c.in_ok-bad-in-Err.ensures

pub returns-in_ok-lost-in-Fault-clause-stands : goal.returns-in_ok-lost-in-Fault-clause-stands
returns-in_ok-lost-in-Fault-clause-stands g c = λ nodes n told fit.
    leaf_lost (g.M.Make.stands_for c.args.maker.now) (schema_nodes c.args.plan.now.0) (schema_nodes c.args.plan.now.1) nodes n c.args.part.at c.in-Pair.w c.in-Pair.r c.args.leaf c.in-Pair.is
    c.in-Fault.kind c.in_ok-lost-in-Fault.lost c.in-Fault.ensures.leads c.in_ok-lost-in-Fault.ensures
