use Rattle.avro_schema_json.proofs.Words.{◌≡◌, drop, items_view, members_view, items_have_float, members_have_float}
use Rattle.avro_schema_json.proofs.survey.Survey.+floats.Given as goal

abbrev pub invariant-items_have_float-loop-item : goal.invariant-items_have_float-loop-item
invariant-items_have_float-loop-item l = items_have_float (items_view l.item-items) ≡ items_have_float (items_view (drop l.item-index l.item-items))

abbrev pub invariant-members_have_float-loop-value : goal.invariant-members_have_float-loop-value
invariant-members_have_float-loop-value l = members_have_float (members_view l.members.entries) ≡ members_have_float (members_view l.value-iterator)
