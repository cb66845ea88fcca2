-- A call after an error takes nothing.
use Rattle.std.proofs.Common.{[]}
use Rattle.avro_file.proofs.block.blocks.Blocks.next.Goals as goal

pub returns-then-self-clause-lost : goal.returns-then-self-clause-lost
returns-then-self-clause-lost g c = ([], g.met.I.Input.none c.args.input.now)
