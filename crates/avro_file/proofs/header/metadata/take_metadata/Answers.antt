-- One block more, and what stops the next.
use Rattle.std.proofs.Common.{ap, arith}
use Rattle.std.specs.List.{list_any}
use Rattle.avro_file.specs.Held.{held}
use Rattle.avro_file.specs.Parts.{properties_of}
use Rattle.avro_file.proofs.Behind.{then_refused, takes_none}
use Rattle.avro_file.proofs.MetadataTaken.{metadata_start}
use Rattle.avro_file.proofs.header.metadata.take_metadata.Goals as goal

pub loop-end-init : goal.loop-end-init
loop-end-init g c = (
  takes_none g.I.Input.gives g.I.Input.failures g.met.I.Input.none c.args.reach.limit _ (held c.args.buffer.now),
  c.requires.begins,
  omega arith,
  metadata_start (held c.args.buffer.now) _ _ c.requires.begins (λ word. ap (list_any _) c.new-2.ensures.empty) (ap properties_of c.new.ensures.items),
)

pub returns-in-Err-clause-lost : goal.returns-in-Err-clause-lost
returns-in-Err-clause-lost g c =
    then_refused g.I.Input.gives g.I.Input.failures g.met.I.Input.chain c.args.reach.limit _ _ _ (held c.args.buffer.now) (held c.loop-end.buffer) (held c.take_metadata_block.new.buffer)
    c.in-Err.error c.loop-end.invariant.0 c.in-Err.ensures.lost
