use Rattle.std.proofs.Common.{◌≡◌, ℕ, ◌+◌, ◌-◌, ◌<◌, List, [], ◌∷◌, ◌++◌, take, length, get_or, sym, ◌∙◌, ap, subst, arith, map}
use Rattle.std.proofs.lemmas.List.{take_more, map-append, take_all}
use Rattle.avro_schema.specs.Value.{Value}
use Rattle.avro_schema.specs.Seen.{node_of, ids_of, seen_fields, field_of, value_of}
use Rattle.avro_schema.specs.SeenSchema.{schema_nodes}
use Rattle.avro_schema.specs.Node.{Node as SeenNode, FieldNode, field_ids}
use Rattle.avro_schema.specs.declared.datum.Datum.{Datum}
use Rattle.avro_schema.specs.declared.schema.Field.{Field}
use Rattle.avro_schema.specs.declared.schema.NodeId.{NodeId}
use Rattle.avro_least.specs.Tables.{LeastTable}
use Rattle.avro_least.specs.SeenLeast.{table_of}
use Rattle.avro_least.specs.inside.Built.{Builds, BuildsAll, BuildsRecord}
use Rattle.avro_least.proofs.Built.{leaf_builds, branch_builds, record_builds, builds_more, none_builds, plain_kept}
use Rattle.avro_least.proofs.datum.least.+build.Goals as goal

pub build-returns-then-left-eq0 : goal.build-returns-then-left-eq0
build-returns-then-left-eq0 t c = none_builds (schema_nodes c.args.schema.now) (table_of c.args.table.now) c.args.left c.args.id.0 (value_of Datum.Null) c.if-left-eq0.true

pub build-returns-in_ok-value-in-Union : goal.build-returns-in_ok-value-in-Union
build-returns-in_ok-value-in-Union t c = λ limit formed low shown within few.
    c.in_ok-value-in-Union.ensures limit c.args.id.0 formed low shown within
    (sym c.get.ensures.node ∙ ap node_of c.in-Union.is ∙ ap (λ (xs : List NodeId). SeenNode.union (ids_of xs)) (sym c.deref.ensures.value))
    (omega (arith, few, c.if-left-eq0.false))

pub build-returns-in_ok-value-in-Record : goal.build-returns-in_ok-value-in-Record
build-returns-in_ok-value-in-Record t c = λ limit formed low shown within few.
    c.in_ok-value-in-Record.ensures c.in-Record.record.name c.in-Record.record.aliases.items limit c.args.id.0 formed low shown within
    (sym c.get.ensures.node ∙ ap node_of c.in-Record.is ∙ ap (λ (xs : List Field). SeenNode.record_of c.in-Record.record.name c.in-Record.record.aliases.items (seen_fields xs)) (sym c.deref-in-Record.ensures.value))
    (omega (arith, few, c.if-left-eq0.false))

pub build-returns-in_ok-value-in_default : goal.build-returns-in_ok-value-in_default
build-returns-in_ok-value-in_default t c = λ limit formed low shown within few.
    let plain = plain_kept c.get.result.now c.in_default.not-Union c.in_default.not-Record in
    leaf_builds (schema_nodes c.args.schema.now) (table_of c.args.table.now) (c.args.left - 1) (node_of c.get.result.now) (value_of c.in_ok-value-in_default.value)
    plain.0 plain.1 c.in_ok-value-in_default.ensures limit c.args.id.0 formed low shown within (sym c.get.ensures.node) (omega (arith, few, c.if-left-eq0.false))

pub build_branch-returns : goal.build_branch-returns
build_branch-returns t c =
    branch_builds (schema_nodes c.args.schema.now) (table_of c.args.table.now) c.args.left (ids_of c.args.ids.now) c.best_index-k.result (value_of c.in_ok-value.value) (value_of c.in_ok-whole.whole)
    c.in_ok-whole.ensures
    (λ h. let b = c.best_index-k.ensures h in
    (b.0, b.1, b.2, subst (λ (q : ℕ). Builds (schema_nodes c.args.schema.now) (table_of c.args.table.now) c.args.left q (value_of c.in_ok-value.value)) (c.id_at.ensures b.0 b.1) c.in_ok-value.ensures))

more_built : (nodes : List SeenNode) (table : LeastTable) (left i : ℕ) (fields : List Field) (f : Field) (old new : List Datum) (v : Datum) → i < length fields
    → BuildsAll nodes table left (field_ids (seen_fields (take i fields))) (map value_of old) → Builds nodes table left (get_or fields i f).node.0 (value_of v)
    → new ≡ old ++ v ∷ [] → BuildsAll nodes table left (field_ids (seen_fields (take (i + 1) fields))) (map value_of new)
more_built nodes table left i fields f old new v within before own is =
    subst (λ (ps : List ℕ). BuildsAll nodes table left ps (map value_of new))
    (sym (ap (λ (fs : List Field). field_ids (seen_fields fs)) (take_more fields i f within)
    ∙ ap field_ids (map-append field_of (take i fields) (get_or fields i f ∷ []))
    ∙ map-append (λ (g : FieldNode). g.node) (seen_fields (take i fields)) (field_of (get_or fields i f) ∷ [])))
    (subst (λ (vs : List Value). BuildsAll nodes table left (field_ids (seen_fields (take i fields)) ++ (get_or fields i f).node.0 ∷ []) vs)
    (sym (ap (map value_of) is ∙ map-append value_of old (v ∷ [])))
    (builds_more nodes table left (field_ids (seen_fields (take i fields))) (map value_of old) (get_or fields i f).node.0 (value_of v) before own))

pub build_record-loop-i-preserved : goal.build_record-loop-i-preserved
build_record-loop-i-preserved t c = more_built (schema_nodes c.args.schema.now) (table_of c.args.table.now) c.args.left c.loop-i.i c.args.fields.now _ c.loop-i.values.items _ c.in_ok-value.value
    c.loop-i-test.true c.loop-i.invariant c.in_ok-value.ensures c.in_ok-push.ensures.items

pub build_record-returns : goal.build_record-returns
build_record-returns t c =
    subst (λ (v : Value). BuildsRecord (schema_nodes c.args.schema.now) (table_of c.args.table.now) c.args.left (seen_fields c.args.fields.now) v) (sym c.make_record.ensures)
    (record_builds (schema_nodes c.args.schema.now) (table_of c.args.table.now) c.args.left (seen_fields c.args.fields.now) (map value_of c.loop-i.values.items)
    (subst (λ (fs : List Field). BuildsAll (schema_nodes c.args.schema.now) (table_of c.args.table.now) c.args.left (field_ids (seen_fields fs)) (map value_of c.loop-i.values.items))
    (take_all c.loop-i.i c.args.fields.now (omega (arith, c.loop-i-test.false))) c.loop-i.invariant))
