use Rattle.avro_schema_json.proofs.Words.{◌≡◌, length, Data, items_view, members_view}
use Rattle.avro_schema_json.proofs.MarksSeen.{Gathers}
use Rattle.avro_schema_json.proofs.WalkSeen.{AreLeft}
use Rattle.avro_schema_json.proofs.defaults.marks.+marks.Given as goal

abbrev pub invariant-mark_array-loop-item : goal.invariant-mark_array-loop-item
invariant-mark_array-loop-item l = record {
  count : length l.parts.items ≡ l.item-index;
  gathers : Gathers l.tables (Data.array (items_view l.items.items)) l.fn.marks l.marks l.fn.row.value.words l.row.value.words l.parts.items;
}

abbrev pub invariant-mark_object-loop-key : goal.invariant-mark_object-loop-key
invariant-mark_object-loop-key l = record {
  left : AreLeft l.members.entries l.key-iterator (length l.parts.items);
  gathers : Gathers l.tables (Data.object (members_view l.members.entries)) l.fn.marks l.marks l.fn.row.value.words l.row.value.words l.parts.items;
}
