use Rattle.std.proofs.lemmas.Result.{err_from_is_err_and}
use Rattle.avro_schema.specs.SeenSchema.{draft_nodes}
use Rattle.avro_schema.proofs.public.NodeFaults.{only_memory}
use Rattle.avro_schema.proofs.draft.Draft.finish.Goals as goal

pub returns-in_err-check_nodes-clause-succeeds : goal.returns-in_err-check_nodes-clause-succeeds
returns-in_err-check_nodes-clause-succeeds c = λ formed.
    let p = err_from_is_err_and c.from_residual.result c.from_residual.ensures.1 in
    let faulty = rw c.deref.ensures.value at c.in_err-check_nodes.ensures.faulty in
    rw (p.1, p.2) (only_memory (draft_nodes c.args.self) c.in_err-check_nodes.field-0.0 faulty formed)
