use Rattle.std.proofs.Common.{◌≡◌, drop}
use Rattle.serde_json.specs.Data.{no_members}
use Rattle.serde_json.specs.View.{members_view}
use Rattle.avro_file.specs.Parts.{properties_of}
use Rattle.avro_tool.specs.HeaderText.{put_properties}
use Rattle.avro_tool.proofs.commands.header.tree_of.Given as goal

abbrev pub invariant-loop-key : goal.invariant-loop-key
invariant-loop-key l = put_properties (properties_of (drop l.key-index l.metadata)) (members_view l.members.entries) ≡ put_properties (properties_of l.metadata) no_members
