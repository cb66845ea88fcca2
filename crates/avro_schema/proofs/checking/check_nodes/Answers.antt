use Rattle.std.proofs.lemmas.Result.{err_from_is_err_and}
use Rattle.avro_schema.specs.Seen.{nodes_of}
use Rattle.avro_schema.proofs.public.NodeFaults.{somewhere-there}
use Rattle.avro_schema.proofs.checking.check_nodes.Goals as goal

pub returns-in_err-check_each-clause-faulty : goal.returns-in_err-check_each-clause-faulty
returns-in_err-check_each-clause-faulty c =
    let p = err_from_is_err_and c.from_residual.result c.from_residual.ensures.1 in
    rw (p.1, p.2) (somewhere-there c.in_err-check_each.field-0.0 (nodes_of c.args.nodes.now) c.in_err-check_each.ensures.broken)
