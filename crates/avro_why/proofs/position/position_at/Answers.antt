use Rattle.std.proofs.Common.{sym, arith}
use Rattle.avro_why.proofs.position.position_at.Goals as goal

pub returns : goal.returns
returns c = rw (sym c.min.ensures) (record {
  inside = omega arith;
  ends = rw (sym c.split_at.ensures.front) c.end_of.ensures;
})
