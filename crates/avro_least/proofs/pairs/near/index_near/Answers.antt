use Rattle.std.proofs.Common.{sym}
use Rattle.indexmap.specs.IndexSet.{keys}
use Rattle.avro_least.proofs.Taken.{position_is}
use Rattle.avro_least.proofs.pairs.near.index_near.Goals as goal

pub returns-then-is_at-clause-index : goal.returns-then-is_at-clause-index
returns-then-is_at-clause-index c = sym (position_is (keys c.args.known.now) c.args.near c.args.key c.len.ensures.unique (c.is_at.ensures c.if-is_at.true))
