use Rattle.std.proofs.Common.{false, ◌++◌}
use Rattle.serde_json.specs.Data.{Members}
use Rattle.serde_json.specs.Written.{members_text}
use Rattle.avro_show.specs.Spans.{AreMembersAt}
use Rattle.avro_show.proofs.Composed.{EntriesLeft}
use Rattle.avro_show.proofs.composing.append_entries.Given as goal

abbrev pub invariant-loop-key : goal.invariant-loop-key
invariant-loop-key l = (ms : Members) → AreMembersAt l.text l.entries.entries ms → EntriesLeft l.text (l.initial.whole ++ members_text false ms) l.whole l.later l.key-iterator
