-- The bytes were put, and then none.
use Rattle.std.proofs.Common.{inl, refl, ◌∙◌}
use Rattle.avro_lines.proofs.Parts.{fails-after, front-all, put-then}
use Rattle.avro_lines.proofs.holding.put_flushed.Goals as goal

pub returns-in-Err : goal.returns-in-Err
returns-in-Err g c = record { front = c.in-Err.ensures.front; error = refl; fails = c.in-Err.ensures.cause }

pub returns-in-Ok-flush : goal.returns-in-Ok-flush
returns-in-Ok-flush g c = record {
  put = put-then g.O.Output.keeps g.met.O.Output.chain c.args.output.now c.put_all.new.output c.flush.new.self c.args.bytes.now c.in-Ok.ensures.put c.flush.ensures.none;
  flushes = c.in-Ok-flush.ensures.told;
  works = c.in-Ok-flush.ensures.works ∙ c.in-Ok.ensures.works;
}

pub returns-in-Err-flush : goal.returns-in-Err-flush
returns-in-Err-flush g c = record {
  front = front-all g.O.Output.keeps c.args.output.now c.flush.new.self c.args.bytes.now
      (put-then g.O.Output.keeps g.met.O.Output.chain c.args.output.now c.put_all.new.output c.flush.new.self c.args.bytes.now c.in-Ok.ensures.put c.flush.ensures.none);
  error = refl;
  fails = fails-after g.O.Output.failures g.O.Output.stuck c.args.output.now c.put_all.new.output c.flush.new.self c.in-Ok.ensures.works (inl c.in-Err-flush.ensures.fails);
}
