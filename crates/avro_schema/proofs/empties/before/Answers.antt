use Rattle.std.proofs.lemmas.Option.{IfSome_then}
use Rattle.avro_schema.proofs.EmptyData.{one_more}
use Rattle.avro_schema.proofs.empties.before.Goals as goal

pub returns-in-Some : goal.returns-in-Some
returns-in-Some c = λ nodes ids are others.
    IfSome_then c.with.result c.with.ensures (λ e sums.
    one_more nodes c.args.id.0 ids c.in-Some.first.nodes c.in-Some.first.depth c.args.others.nodes c.args.others.depth e.nodes e.depth
    (are c.args.id.0 c.in-Some.first c.in-Some.ensures) others sums.0 sums.1)
