use Rattle.avro_schema_json.proofs.Words.{arith, ◌∷◌, [], List, Option, IfOk, IfErr, codes, refl, sym, ap, ◌∙◌, subst, map-append, err_from_is_err_and, Node, ids_of, view, members_view, view-Array, view-Object, SchemaError, RawNode, RawField, Meaning, meaning_of, in_turn, field_meaning, fields_under, made_at, Reads, Refuses, fields_meaning, state_of, raw_field_of, raw_fields_of}
use Rattle.avro_schema_json.proofs.DefinitionsRead.{record-definition, unbegun, misnamed, part-refused, definition-read}
use Rattle.avro_schema_json.proofs.ObjectsRead.{member-found, member-missing, refuses-faulty, object-array, object-no_items, object-map, object-no_values, fields-found, fields-missing, field-unnamed, field-refused, field-untyped, field-read}
use Rattle.avro_schema_json.proofs.TypesRead.{held-added, node_with-read, node_with-part, reading-begun, item-read, item-refused, items-read, branch_meanings, list_meanings, next_branch, next_field}
use Rattle.avro_schema_json.proofs.declarations.progress.Progress.+types.Goals as goal

pub read_array-returns-in_err-part-clause-refused : goal.read_array-returns-in_err-part-clause-refused
read_array-returns-in_err-part-clause-refused t c =
    let p = err_from_is_err_and c.from_residual-in_err-part.result c.from_residual-in_err-part.ensures.1 in
    rw (p.1, p.2) (node_with-part (meaning_of (view c.args.items.now)) c.args.enclosing.now.namespace (held-added c.in_ok-id.ensures.added)
    (λ id. RawNode.plain (Node.array id)) [] c.in_err-part.field-0.0 c.in_err-part.ensures.refused)

pub read_array-returns-clause-read : goal.read_array-returns-clause-read
read_array-returns-clause-read t c =
    node_with-read (meaning_of (view c.args.items.now)) c.args.enclosing.now.namespace (held-added c.in_ok-id.ensures.added) (λ id. RawNode.plain (Node.array id)) []
    (state_of c.read_type.new.self) (state_of c.put.new.self) c.in_ok-part.part.0 refl c.in_ok-part.ensures.read c.put.ensures.nodes c.put.ensures.names

pub read_map-returns-in_err-part-clause-refused : goal.read_map-returns-in_err-part-clause-refused
read_map-returns-in_err-part-clause-refused t c =
    let p = err_from_is_err_and c.from_residual-in_err-part.result c.from_residual-in_err-part.ensures.1 in
    rw (p.1, p.2) (node_with-part (meaning_of (view c.args.values.now)) c.args.enclosing.now.namespace (held-added c.in_ok-id.ensures.added)
    (λ id. RawNode.plain (Node.map_of id)) [] c.in_err-part.field-0.0 c.in_err-part.ensures.refused)

pub read_map-returns-clause-read : goal.read_map-returns-clause-read
read_map-returns-clause-read t c =
    node_with-read (meaning_of (view c.args.values.now)) c.args.enclosing.now.namespace (held-added c.in_ok-id.ensures.added) (λ id. RawNode.plain (Node.map_of id)) []
    (state_of c.read_type.new.self) (state_of c.put.new.self) c.in_ok-part.part.0 refl c.in_ok-part.ensures.read c.put.ensures.nodes c.put.ensures.names

pub read_field-returns-in_err-name-clause-refused : goal.read_field-returns-in_err-name-clause-refused
read_field-returns-in_err-name-clause-refused t c = grind (arith, err_from_is_err_and, field-unnamed, view-Object)

pub read_field-returns-in_err-node-in-Some-clause-refused : goal.read_field-returns-in_err-node-in-Some-clause-refused
read_field-returns-in_err-node-in-Some-clause-refused t c =
    let p = err_from_is_err_and c.from_residual-in_err-node-in-Some.result c.from_residual-in_err-node-in-Some.ensures.1 in
    let ms = members_view c.in-Object.members.entries in
    let seen = ap view c.in-Object.is ∙ view-Object c.in-Object.members in
    rw (p.1, p.2, seen) (field-refused ms c.args.enclosing.now.namespace (state_of c.args.self.now) (view c.in-Some.tree.now) c.in_err-node-in-Some.field-0.0
    (member-found (codes "type") c.in-Object.members c.in-Some.tree.now c.in-Some.ensures.value) c.in_err-node-in-Some.ensures.refused)

pub read_field-returns-in-None-clause-refused : goal.read_field-returns-in-None-clause-refused
read_field-returns-in-None-clause-refused t c =
    let ms = members_view c.in-Object.members.entries in
    let seen = ap view c.in-Object.is ∙ view-Object c.in-Object.members in
    rw seen (field-untyped ms c.args.enclosing.now.namespace (state_of c.args.self.now) (member-missing (codes "type") c.in-Object.members c.in-None.ensures.value))

pub read_field-returns-clause-read : goal.read_field-returns-clause-read
read_field-returns-clause-read t c =
    let ms = members_view c.in-Object.members.entries in
    let seen = ap view c.in-Object.is ∙ view-Object c.in-Object.members in
    rw seen (field-read ms c.args.enclosing.now.namespace (state_of c.args.self.now) (view c.in-Some.tree.now) (state_of c.read_type.new.self) _ _
    c.in_ok-node-in-Some.node.0 _ c.in_ok-name.ensures.found c.in_ok-aliases.ensures.found
    (member-found (codes "type") c.in-Object.members c.in-Some.tree.now c.in-Some.ensures.value) c.in_ok-node-in-Some.ensures.read c.member.ensures)

pub read_fields-loop-item-init : goal.read_fields-loop-item-init
read_fields-loop-item-init t c = grind (arith, reading-begun)

pub read_fields-returns-in_err-read_field-clause-refused : goal.read_fields-returns-in_err-read_field-clause-refused
read_fields-returns-in_err-read_field-clause-refused t c =
    let p = err_from_is_err_and c.from_residual-in_err-read_field.result c.from_residual-in_err-read_field.ensures.1 in
    let seen = ap view c.in-Array.is ∙ view-Array c.in-Array.items in
    rw (p.1, p.2, seen, ← c.deref-item-items.ensures.value)
    (item-refused (λ v. field_meaning (view v)) list_meanings next_field refl _ c.args.enclosing.now.namespace (state_of c.args.self.now)
    (state_of c.loop-item.self) (raw_fields_of c.loop-item.fields.items) c.deref-item-items.result.now c.loop-item.item-index c.loop-item.invariant.1
    c.item-item.result c.loop-item-test.true c.item-item.is c.in_err-read_field.field-0.0 c.in_err-read_field.ensures.refused)

pub read_fields-loop-item-preserved : goal.read_fields-loop-item-preserved
read_fields-loop-item-preserved t c =
    let pushed = ap raw_fields_of c.in_ok-push.ensures.items ∙ map-append raw_field_of c.loop-item.fields.items (c.in_ok-read_field.field-0 ∷ []) in
    rw pushed (
      (λ namespace number h. c.in_ok-read_field.ensures.kept namespace number (c.loop-item.invariant.0 namespace number h)),
      item-read (λ v. field_meaning (view v)) list_meanings next_field refl _ c.args.enclosing.now.namespace (state_of c.args.self.now)
          (state_of c.loop-item.self) (raw_fields_of c.loop-item.fields.items) c.deref-item-items.result.now c.loop-item.item-index c.loop-item.invariant.1
          c.item-item.result c.loop-item-test.true c.item-item.is (state_of c.read_field.new.self) (raw_field_of c.in_ok-read_field.field-0) c.in_ok-read_field.ensures.read,
    )

pub read_fields-returns-clause-read : goal.read_fields-returns-clause-read
read_fields-returns-clause-read t c =
    let seen = ap view c.in-Array.is ∙ view-Array c.in-Array.items in
    rw (seen, ← c.deref-item-items.ensures.value)
    (items-read (λ v. field_meaning (view v)) list_meanings next_field refl _ c.args.enclosing.now.namespace (state_of c.args.self.now)
    (state_of c.loop-item.self) (raw_fields_of c.loop-item.fields.items) c.deref-item-items.result.now c.loop-item.item-index c.loop-item.invariant.1 c.loop-item-test.false)

pub read_object-returns-in-Some-clause-read : goal.read_object-returns-in-Some-clause-read
read_object-returns-in-Some-clause-read t c =
    let ms = members_view c.args.members.now.entries in
    let is = object-array ms (view c.in-Some.items.now) c.in-Array.ensures (member-found (codes "items") c.args.members.now c.in-Some.items.now c.in-Some.ensures.value) in
    subst (λ (m : Meaning _). IfOk c.read_array.result (λ id. Reads m c.args.enclosing.now.namespace (state_of c.args.self.now) (state_of c.read_array.new.self) id.0))
    (sym is) c.read_array.ensures.read

pub read_object-returns-in-Some-clause-refused : goal.read_object-returns-in-Some-clause-refused
read_object-returns-in-Some-clause-refused t c =
    let ms = members_view c.args.members.now.entries in
    let is = object-array ms (view c.in-Some.items.now) c.in-Array.ensures (member-found (codes "items") c.args.members.now c.in-Some.items.now c.in-Some.ensures.value) in
    subst (λ (m : Meaning _). IfErr c.read_array.result (Refuses m c.args.enclosing.now.namespace (state_of c.args.self.now))) (sym is) c.read_array.ensures.refused

pub read_object-returns-in-None-clause-refused : goal.read_object-returns-in-None-clause-refused
read_object-returns-in-None-clause-refused t c = grind (arith, member-missing, object-no_items, refuses-faulty)

pub read_object-returns-in-Some-get-clause-read : goal.read_object-returns-in-Some-get-clause-read
read_object-returns-in-Some-get-clause-read t c =
    let ms = members_view c.args.members.now.entries in
    let is = object-map ms (view c.in-Some-get.values.now) c.in-Map.ensures (member-found (codes "values") c.args.members.now c.in-Some-get.values.now c.in-Some-get.ensures.value) in
    subst (λ (m : Meaning _). IfOk c.read_map.result (λ id. Reads m c.args.enclosing.now.namespace (state_of c.args.self.now) (state_of c.read_map.new.self) id.0))
    (sym is) c.read_map.ensures.read

pub read_object-returns-in-Some-get-clause-refused : goal.read_object-returns-in-Some-get-clause-refused
read_object-returns-in-Some-get-clause-refused t c =
    let ms = members_view c.args.members.now.entries in
    let is = object-map ms (view c.in-Some-get.values.now) c.in-Map.ensures (member-found (codes "values") c.args.members.now c.in-Some-get.values.now c.in-Some-get.ensures.value) in
    subst (λ (m : Meaning _). IfErr c.read_map.result (Refuses m c.args.enclosing.now.namespace (state_of c.args.self.now))) (sym is) c.read_map.ensures.refused

pub read_object-returns-in-None-get-clause-refused : goal.read_object-returns-in-None-get-clause-refused
read_object-returns-in-None-get-clause-refused t c = grind (arith, member-missing, object-no_values, refuses-faulty)

pub read_record-returns-in_err-id-clause-refused : goal.read_record-returns-in_err-id-clause-refused
read_record-returns-in_err-id-clause-refused t c =
    let p = err_from_is_err_and c.from_residual.result c.from_residual.ensures.1 in
    let ms = members_view c.args.members.now.entries in
    rw (p.1, p.2) (unbegun (record-definition ms (fields_under (codes "fields") ms)) c.args.enclosing.now.namespace (state_of c.args.self.now) _ c.in_err-id.ensures.refused)

pub read_record-returns-in_err-aliases-clause-refused : goal.read_record-returns-in_err-aliases-clause-refused
read_record-returns-in_err-aliases-clause-refused t c =
    let p = err_from_is_err_and c.from_residual-in_err-aliases.result c.from_residual-in_err-aliases.ensures.1 in
    let ms = members_view c.args.members.now.entries in
    rw (p.1, p.2) (misnamed (record-definition ms (fields_under (codes "fields") ms)) _ _ c.in_ok-id.ensures.begun c.in_ok-id.ensures.namespace _ c.in_err-aliases.ensures.refused)

pub read_record-returns-in_err-fields-in-Some-clause-refused : goal.read_record-returns-in_err-fields-in-Some-clause-refused
read_record-returns-in_err-fields-in-Some-clause-refused t c =
    let p = err_from_is_err_and c.from_residual-in_err-fields-in-Some.result c.from_residual-in_err-fields-in-Some.ensures.1 in
    let ms = members_view c.args.members.now.entries in
    let found = fields-found ms (view c.in-Some.list.now) (member-found (codes "fields") c.args.members.now c.in-Some.list.now c.in-Some.ensures.value) in
    let refused = subst (λ (fields : Option (List (Meaning RawField))). Refuses (fields_meaning fields) c.in_ok-id.field-0.space.namespace (state_of c.begin.new.self) c.in_err-fields-in-Some.field-0.0)
    (sym found) c.in_err-fields-in-Some.ensures.refused in
    rw (p.1, p.2) (part-refused (record-definition ms (fields_under (codes "fields") ms)) _ _ c.in_ok-id.ensures.begun c.in_ok-id.ensures.namespace _ refused)

pub read_record-returns-in-None-clause-refused : goal.read_record-returns-in-None-clause-refused
read_record-returns-in-None-clause-refused t c =
    let ms = members_view c.args.members.now.entries in
    let missing = fields-missing ms (member-missing (codes "fields") c.args.members.now c.in-None.ensures.value) in
    let refused = subst (λ (fields : Option (List (Meaning RawField))). Refuses (fields_meaning fields) c.in_ok-id.field-0.space.namespace (state_of c.begin.new.self) SchemaError.InvalidDeclaration)
    (sym missing) (refuses-faulty {A = List RawField} [] SchemaError.InvalidDeclaration c.in_ok-id.field-0.space.namespace (state_of c.begin.new.self)) in
    part-refused (record-definition ms (fields_under (codes "fields") ms)) _ _ c.in_ok-id.ensures.begun c.in_ok-id.ensures.namespace _ refused

pub read_record-returns-clause-kept : goal.read_record-returns-clause-kept
read_record-returns-clause-kept t c = λ namespace number h.
    c.put.ensures.kept namespace number (c.in_ok-fields-in-Some.ensures.kept namespace number (c.begin.ensures.kept namespace number h))

pub read_record-returns-clause-read : goal.read_record-returns-clause-read
read_record-returns-clause-read t c =
    let ms = members_view c.args.members.now.entries in
    let found = fields-found ms (view c.in-Some.list.now) (member-found (codes "fields") c.args.members.now c.in-Some.list.now c.in-Some.ensures.value) in
    let fields = raw_fields_of c.in_ok-fields-in-Some.fields.items in
    let read = subst (λ (declared : Option (List (Meaning RawField))). Reads (fields_meaning declared) c.in_ok-id.field-0.space.namespace (state_of c.begin.new.self) (state_of c.read_fields.new.self) fields)
    (sym found) c.in_ok-fields-in-Some.ensures.read in
    definition-read (record-definition ms (fields_under (codes "fields") ms)) _ _ c.in_ok-id.ensures.begun c.in_ok-id.ensures.namespace (state_of c.read_fields.new.self)
    (state_of c.put.new.self) c.in_ok-aliases.aliases.items tt fields c.in_ok-aliases.ensures.found (record { no_faults = refl; value_is = refl }) read c.put.ensures.nodes c.put.ensures.names

pub read_union-returns-in_err-read_type-clause-refused : goal.read_union-returns-in_err-read_type-clause-refused
read_union-returns-in_err-read_type-clause-refused t c =
    let p = err_from_is_err_and c.from_residual-in_err-read_type.result c.from_residual-in_err-read_type.ensures.1 in
    let items = c.args.branches.now in
    let refused = item-refused (λ v. meaning_of (view v)) branch_meanings next_branch refl _ c.args.enclosing.now.namespace (state_of c.reserve.new.self)
    (state_of c.loop-branch.self) (ids_of c.loop-branch.ids.items) items c.loop-branch.branch-index c.loop-branch.invariant.1
    c.branch-item.result c.loop-branch-test.true c.branch-item.is c.in_err-read_type.field-0.0 c.in_err-read_type.ensures.refused in
    rw (p.1, p.2) (node_with-part (in_turn (branch_meanings items)) c.args.enclosing.now.namespace (held-added c.in_ok-id.ensures.added)
    (λ ids. RawNode.plain (Node.union ids)) [] c.in_err-read_type.field-0.0 refused)

pub read_union-returns-clause-read : goal.read_union-returns-clause-read
read_union-returns-clause-read t c =
    let items = c.args.branches.now in
    let read = items-read (λ v. meaning_of (view v)) branch_meanings next_branch refl (made_at (in_turn (branch_meanings items)) c.args.enclosing.now.namespace (state_of c.reserve.new.self))
    c.args.enclosing.now.namespace (state_of c.reserve.new.self) (state_of c.loop-branch.self) (ids_of c.loop-branch.ids.items) items c.loop-branch.branch-index
    c.loop-branch.invariant.1 c.loop-branch-test.false in
    node_with-read (in_turn (branch_meanings items)) c.args.enclosing.now.namespace (held-added c.in_ok-id.ensures.added) (λ ids. RawNode.plain (Node.union ids)) []
    (state_of c.loop-branch.self) (state_of c.put.new.self) (ids_of c.loop-branch.ids.items) refl read c.put.ensures.nodes c.put.ensures.names
