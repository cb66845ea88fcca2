use Rattle.avro_schema.proofs.Unique.{distinct-answer}
use Rattle.avro_schema.proofs.uniqueness.are_unique.Goals as goal

pub returns : goal.returns
returns g c =
    let order = g.T.Ord.cmp in
    let sorted = c.sort.new.self.items in
    distinct-answer order g.met.T.Ord.total c.args.items.items sorted c.in_ok-sort.ensures.permutation c.rise.result c.in_ok-sort.ensures.sorted
    (rw c.deref.ensures.value at c.rise.ensures)
