use Rattle.std.proofs.Common.{sym, rules}
use Rattle.std.proofs.lemmas.List.Sorted.{answers_always}
use Rattle.avro_resolve.proofs.Places.{search_ends, search_parts}
use Rattle.avro_resolve.proofs.plan.plan_pair.source_at.Goals as goal

pub returns-in-Ok : goal.returns-in-Ok
returns-in-Ok c = λ ascend.
    let facts = c.in-Ok.ensures in
    search_ends c.args.sources.now c.args.index ascend c.in-Ok.at _ facts.bound (facts.position (λ entry. entry.0) (answers_always _ _ _ (λ f a r g called. search rules)))

pub returns-in-Err : goal.returns-in-Err
returns-in-Err c = λ ascend.
    sym (search_parts c.args.sources.now c.args.index ascend _ (c.in-Err.ensures.position (λ entry. entry.0) (answers_always _ _ _ (λ f a r g called. search rules))))
