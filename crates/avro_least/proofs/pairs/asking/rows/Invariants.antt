use Rattle.std.proofs.Common.{◌≡◌, drop, ◌++◌}
use Rattle.avro_schema.specs.Node.{field_ids}
use Rattle.avro_schema.specs.Seen.{seen_fields}
use Rattle.avro_least.specs.SeenAsk.{rows_by, rows_of}
use Rattle.avro_least.proofs.pairs.asking.rows.Given as goal

abbrev pub invariant-loop-i : goal.invariant-loop-i
invariant-loop-i l = rows_by l.parts 0 (field_ids (seen_fields l.writer))
    ≡ rows_of l.rows.items ++ rows_by l.left l.i (field_ids (seen_fields (drop l.i l.writer)))
