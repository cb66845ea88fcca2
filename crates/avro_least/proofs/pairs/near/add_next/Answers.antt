use Rattle.std.proofs.Common.{sym}
use Rattle.indexmap.specs.IndexSet.{keys}
use Rattle.avro_least.proofs.public.Keys.{key_stays}
use Rattle.avro_least.proofs.pairs.near.add_next.Goals as goal

pub returns-then-is_at : goal.returns-then-is_at
returns-then-is_at c = sym (key_stays (keys c.args.known.now) c.args.next.now c.args.key (c.is_at.ensures c.if-is_at.true))
