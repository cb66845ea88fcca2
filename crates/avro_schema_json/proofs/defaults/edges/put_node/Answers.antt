use Rattle.avro_schema_json.proofs.Words.{arith, List, sym, subst, on_ok_weaker, all_without_defaults, without_defaults, fields_seen, AreFields, IsParent, KeptField as RawField, KeptNode as RawNode}
use Rattle.avro_schema_json.proofs.ParentsSeen.{array-parent, map-parent, record-parent}
use Rattle.avro_schema_json.proofs.defaults.edges.put_node.Goals as goal

pub returns-in-Array-clause-added : goal.returns-in-Array-clause-added
returns-in-Array-clause-added c = grind (arith, array-parent, on_ok_weaker)

pub returns-in-Map-clause-added : goal.returns-in-Map-clause-added
returns-in-Map-clause-added c =
    let nodes = all_without_defaults c.args.raws.now in
    let new = c.put_part-in-Map.new.parents in
    on_ok_weaker c.put_part-in-Map.result
    (λ parts. subst (λ (raw : RawNode). IsParent nodes c.args.last c.args.labels.now new (without_defaults raw) c.args.parent) (sym c.in-Map.is)
    (map-parent nodes c.args.last c.args.labels.now new c.args.parent c.in-Map.values.0 parts)) c.put_part-in-Map.ensures.added

pub returns-in-Record-clause-added : goal.returns-in-Record-clause-added
returns-in-Record-clause-added c =
    let nodes = all_without_defaults c.args.raws.now in
    let labels = c.put_fields.new.labels in
    let new = c.put_fields.new.parents in
    on_ok_weaker c.put_fields.result
    (λ fields. subst (λ (raw : RawNode). IsParent nodes c.args.last labels new (without_defaults raw) c.args.parent) (sym c.in-Record.is)
    (record-parent nodes c.args.last labels new c.args.parent _ _ _
    (subst (λ (fs : List RawField). AreFields nodes c.args.last labels new (fields_seen fs) c.args.parent) c.deref.ensures.value fields))) c.put_fields.ensures.added
