use Rattle.avro_schema_json.proofs.Words.{drop, ids_of, items_view, branches_of, field_meanings, in_turn, made_at, state_of, Keeps, raw_fields_of}
use Rattle.avro_schema_json.proofs.TypesRead.{IsReading}
use Rattle.avro_schema_json.proofs.declarations.progress.Progress.+types.Given as goal

abbrev pub invariant-read_union-loop-branch : goal.invariant-read_union-loop-branch
invariant-read_union-loop-branch l =
    Keeps l.initial.self l.self × IsReading (made_at (in_turn (branches_of (items_view l.branches))) l.enclosing.namespace (state_of l.initial.self))
    (made_at (in_turn (branches_of (items_view (drop l.branch-index l.branches)))) l.enclosing.namespace (state_of l.self))
    (state_of l.initial.self) (state_of l.self) (ids_of l.ids.items)

abbrev pub invariant-read_fields-loop-item : goal.invariant-read_fields-loop-item
invariant-read_fields-loop-item l =
    Keeps l.initial.self l.self × IsReading (made_at (in_turn (field_meanings (items_view l.item-items))) l.enclosing.namespace (state_of l.initial.self))
    (made_at (in_turn (field_meanings (items_view (drop l.item-index l.item-items)))) l.enclosing.namespace (state_of l.self))
    (state_of l.initial.self) (state_of l.self) (raw_fields_of l.fields.items)
