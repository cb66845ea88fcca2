use Rattle.avro_schema_json.proofs.Words.{AreMemberMarks, members_view}
use Rattle.avro_schema_json.proofs.WalkSeen.{AreLeft}
use Rattle.avro_schema_json.proofs.defaults.walk.marks_of_members.Given as goal

abbrev pub invariant-loop-key : goal.invariant-loop-key
invariant-loop-key l = record {
  left : AreLeft l.members.entries l.key-iterator l.index;
  known : AreMemberMarks l.walk (members_view l.members.entries) l.marks;
}
