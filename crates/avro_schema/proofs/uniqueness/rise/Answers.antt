use Rattle.avro_schema.proofs.Unique.{no_rise}
use Rattle.avro_schema.proofs.uniqueness.rise.Goals as goal

pub returns-in_default : goal.returns-in_default
returns-in_default g c =
    no_rise g.T.Ord.cmp c.args.items.now c.loop-i.i c.index-items-i.result c.index-items-i-in-loop-i.result c.cmp.result
    c.loop-i.auto.i c.loop-i-test.true c.index-items-i.is c.index-items-i-in-loop-i.is c.cmp.ensures c.in_default.not-Less
