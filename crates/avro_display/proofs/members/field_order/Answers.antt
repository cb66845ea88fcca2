use Rattle.std.proofs.Common.{◌≡◌, ◌<◌, ◌+◌, length}
use Rattle.avro_schema.specs.Seen.{seen_fields}
use Rattle.avro_display.specs.Table.{field_name}
use Rattle.avro_display.proofs.Tables.{name_at, name_here, names_past, placed_more}
use Rattle.avro_display.proofs.members.field_order.Goals as goal

pub loop-i-preserved : goal.loop-i-preserved
loop-i-preserved c =
    let fields = c.args.fields.now in
    let i = c.loop-i.i in
    placed_more (λ e. (e.1 < length (seen_fields fields)) × (e.0 ≡ field_name (seen_fields fields) e.1)) (names_past fields 0) (names_past fields i) (names_past fields (i + 1)) i
    c.loop-i.order.entries c.insert.new.self.entries c.as_str.result (name_here fields i c.index-fields-i.result c.as_str.result.now c.loop-i-test.true c.as_str.ensures.value) c.in_ok-insert.ensures.entries
    (name_at fields i c.index-fields-i.result c.as_str.result.now c.loop-i-test.true c.as_str.ensures.value) c.loop-i.invariant
