use Rattle.std.proofs.Common.{rules}
use Rattle.avro_compare.proofs.public.Planning.{kept_here}
use Rattle.avro_compare.proofs.symbols.symbol_kept.Goals as goal

pub returns-then-index-kept : goal.returns-then-index-kept
returns-then-index-kept c = c.requires c.args.index _ (kept_here c.args.kept.now c.args.index _ (search rules) c.if-index-kept.true)
