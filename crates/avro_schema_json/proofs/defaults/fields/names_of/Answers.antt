use Rattle.avro_schema_json.proofs.Words.{bytes_eq, list_any, hash_map_updates_str, fields_seen}
use Rattle.std.specs.Prelude.{is_some}
use Rattle.indexmap.specs.IndexMap.{get_by}
use Rattle.avro_schema_json.proofs.NamesSeen.{is_named, name_next, names_end}
use Rattle.avro_schema_json.proofs.RawSeen.{field_item, fields_past}
use Rattle.avro_schema_json.proofs.defaults.fields.names_of.Goals as goal

pub loop-field-preserved : goal.loop-field-preserved
loop-field-preserved c = λ name.
    let l = c.loop-field in
    let fs = c.args.fields.now in
    let fields = fields_seen fs in
    let key = c.as_str.result.now in
    let got = field_item fs l.field-index c.field-item.result key c.loop-field-test.true c.field-item.is c.as_str.ensures.value in
    let put = hash_map_updates_str key l.names c.insert.new.self _ c.in_ok-insert.ensures.updates name in
    name_next fields l.field-index key c.field-item.result.node.0 (get_by (λ k. bytes_eq name k.now) l.names)
    (get_by (λ k. bytes_eq name k.now) c.insert.new.self) name (list_any (is_named name) fields) got put (l.invariant name)

pub returns : goal.returns
returns c = λ name.
    let fs = c.args.fields.now in
    names_end (fields_seen fs) c.loop-field.field-index (is_some (get_by (λ k. bytes_eq name k.now) c.loop-field.names)) name
    (list_any (is_named name) (fields_seen fs)) (fields_past fs c.loop-field.field-index c.loop-field-test.false) (c.loop-field.invariant name)
