use Rattle.avro_schema.specs.Seen.{seen_fields}
use Rattle.std.proofs.Common.{map}
use Rattle.avro_display.specs.inside.Tables.{AreNamed, seen_place}
use Rattle.avro_display.proofs.Tables.{AreMade}
use Rattle.avro_display.proofs.members.members_in.Given as goal

abbrev pub invariant-loop-name : goal.invariant-loop-name
invariant-loop-name l = AreNamed (seen_fields l.fields) (map seen_place l.order.entries) → AreMade (seen_fields l.fields) l.order.entries l.name-iterator l.members.items l.opener
