-- The blocks so far were shown.
use Rattle.std.proofs.Common.{◌≡◌, ◌-◌, ◌≤◌, [], false}
use Rattle.avro_file.specs.BlockFails.{max_blocks}
use Rattle.avro_lines.specs.inside.BlocksShown.{Goes, IsAll, Leaves, Shows}
use Rattle.avro_lines.specs.inside.OpenedSeen.{header_for, limits_for, reader_for}
use Rattle.avro_lines.proofs.successive.show_blocks.Given as goal

abbrev pub invariant-loop-left : goal.invariant-loop-left
invariant-loop-left g l = record {
  shown : Goes g.I.Input.gives g.I.Input.failures g.O.Output.keeps g.O.Output.failures l.initial.input l.input l.initial.output l.output
      (Shows (limits_for l.opened) (reader_for l.opened) (header_for l.opened) l.fn.limit 0 [] l.lines.text (IsAll (Leaves l.fn.limit l.blocks.number l.left)));
  header : l.blocks.header.now ≡ l.opened.header.now;
  limits : l.blocks.limits ≡ l.opened.task.now.limits;
  failed : l.blocks.failed ≡ false;
  ended : l.blocks.ended ≡ false;
  few : l.blocks.number ≤ max_blocks;
}

abbrev pub decreases-loop-left : goal.decreases-loop-left
decreases-loop-left g l = max_blocks - l.blocks.number
