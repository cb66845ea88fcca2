use Rattle.std.proofs.Common.{◌∙◌, sym, arith}
use Rattle.avro_least.proofs.Entries.{first_alone}
use Rattle.avro_least.proofs.pairs.parts.find_entry.Goals as goal

pub returns : goal.returns
returns c = c.first_entry.ensures ∙ first_alone c.loop-left.left.now c.args.index (omega (arith, c.loop-left-test.false)) ∙ sym c.loop-left.invariant.1
