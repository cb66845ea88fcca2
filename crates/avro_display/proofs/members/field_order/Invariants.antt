use Rattle.std.proofs.Common.{map}
use Rattle.avro_schema.specs.Seen.{seen_fields}
use Rattle.avro_display.specs.inside.Tables.{AreNamed, seen_place}
use Rattle.avro_display.proofs.Tables.{AreLeft, names_past}
use Rattle.avro_display.proofs.members.field_order.Given as goal

abbrev pub invariant-loop-i : goal.invariant-loop-i
invariant-loop-i l = AreLeft (names_past l.fields 0) l.i (names_past l.fields l.i) l.order.entries × AreNamed (seen_fields l.fields) (map seen_place l.order.entries)
