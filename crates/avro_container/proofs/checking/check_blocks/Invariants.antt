-- The blocks so far are counted, and both readers go by the header.
use Rattle.std.proofs.Common.{◌≡◌, ◌*◌, ◌-◌, ◌≤◌, false}
use Rattle.avro_file.specs.BlockFails.{max_blocks}
use Rattle.avro_file.specs.HeaderTaken.{header_value}
use Rattle.avro_container.specs.Checking.{Takes}
use Rattle.avro_container.specs.inside.BlocksChecked.{AreCounted}
use Rattle.avro_container.proofs.checking.check_blocks.Given as goal

abbrev pub invariant-loop-blocks : goal.invariant-loop-blocks
invariant-loop-blocks g l = record {
  counted : Takes g.I.Input.gives l.initial.input l.input (AreCounted l.limits (header_value l.header) l.counts.items l.counts.blocks);
  works : g.I.Input.failures l.input ≡ g.I.Input.failures l.initial.input;
  header : l.blocks.header.now ≡ l.header;
  limits : l.blocks.limits ≡ l.limits;
  failed : l.blocks.failed ≡ false;
  ended : l.blocks.ended ≡ false;
  checks : l.checker ≡ (l.header, l.limits);
  number : l.blocks.number ≡ l.counts.blocks;
  few : l.counts.blocks ≤ max_blocks;
  items_few : l.counts.items ≤ l.counts.blocks * 4294967295;
}

abbrev pub decreases-loop-blocks : goal.decreases-loop-blocks
decreases-loop-blocks g l = max_blocks - l.counts.blocks
