use Rattle.avro_schema_json.proofs.Words.{◌≡◌, [], ◌∷◌, length, length-append, option_map, sym, ap, ◌∙◌, arith, rules, node_at, value_of, Data, view, items_view, members_view, view-lookup, each_default, entries_default, fields_seen, member_at, nodes_of}
use Rattle.std.specs.Vec.{vec_len}
use Rattle.avro_schema.proofs.public.DatumViews.{value_of-Map}
use Rattle.avro_schema_json.proofs.DefaultsSeen.{default-no_union, default-union, entries_end}
use Rattle.avro_schema_json.proofs.DefaultSteps.{item_next, items_end, entry_next, fields_left, field_next, field_stop, field_missing, fields_end}
use Rattle.avro_schema_json.proofs.MarksSeen.{item-at}
use Rattle.avro_schema_json.proofs.RawSeen.{field_item, fields_past}
use Rattle.avro_schema_json.proofs.WalkSeen.{branch-pass, begins_late, left-first, left-pushed}
use Rattle.avro_schema_json.proofs.defaults.+defaults.Goals as goal

pub known_default-returns-in-Some-clause-default : goal.known_default-returns-in-Some-clause-default
known_default-returns-in-Some-clause-default t c = grind (arith, default-union)

pub known_default-returns-in-None-clause-default : goal.known_default-returns-in-None-clause-default
known_default-returns-in-None-clause-default t c = grind (arith, default-no_union)

pub branch_default-loop-i-init : goal.branch_default-loop-i-init
branch_default-loop-i-init t c =
    let nodes = nodes_of c.args.walk.now in
    let d = view c.args.tree.now in
    record {
      firsts = c.in_ok-start.ensures.firsts;
      left = begins_late nodes d c.args.ids.now c.in_ok-start.start (c.in_ok-start.ensures.first d c.requires.known);
    }

pub branch_default-loop-i-preserved-then-is_ruled_out : goal.branch_default-loop-i-preserved-then-is_ruled_out
branch_default-loop-i-preserved-then-is_ruled_out t c =
    let d = view c.args.tree.now in
    record {
      firsts = c.loop-i.invariant.firsts;
      left = branch-pass (nodes_of c.args.walk.now) d c.args.ids.now c.loop-i.i _ _ c.loop-i-test.true (c.is_ruled_out.ensures c.if-is_ruled_out.true d c.requires.known)
          c.loop-i.invariant.left;
    }

pub item_defaults-part_mark-part-requires : goal.item_defaults-part_mark-part-requires
item_defaults-part_mark-part-requires t c =
    let l = c.loop-item in
    let counted : vec_len l.values ≡ length l.values.items = search rules in
    let at = item-at c.deref-item-items.result.now c.args.items.now.items l.item-index c.len-index.result c.item-item.result c.deref-item-items.ensures.value
    (c.len-index.ensures ∙ counted ∙ l.invariant.count) c.loop-item-test.true c.item-item.is in
    (Data.array (items_view c.args.items.now.items), c.requires.known, at)

pub item_defaults-loop-item-preserved : goal.item_defaults-loop-item-preserved
item_defaults-loop-item-preserved t c =
    let l = c.loop-item in
    let nodes = nodes_of c.args.walk.now in
    let n = node_at nodes c.args.id.0 in
    let xs = c.deref-item-items.result.now in
    let x = c.item-item.result in
    let v = c.in-Some.value in
    let read = ap (option_map value_of) (sym c.in-Some.is) ∙ c.in_ok-value.ensures.default in
    rw c.in_ok-push.ensures.items (record {
      firsts = c.in_ok-value.ensures.firsts;
      count = omega (arith, length-append l.values.items (v ∷ []), l.invariant.count);
      left = item_next nodes n xs l.item-index x (each_default nodes (items_view xs) n) l.values.items v c.loop-item-test.true c.item-item.is l.invariant.left read;
    })

pub item_defaults-returns-clause-default : goal.item_defaults-returns-clause-default
item_defaults-returns-clause-default t c =
    let l = c.loop-item in
    let nodes = nodes_of c.args.walk.now in
    let n = node_at nodes c.args.id.0 in
    let xs = c.deref-item-items.result.now in
    items_end nodes n xs l.item-index (each_default nodes (items_view xs) n) l.values.items c.loop-item-test.false l.invariant.left
    ∙ ap (λ ys. each_default nodes (items_view ys) n) c.deref-item-items.ensures.value

pub entry_defaults-part_mark-part-requires : goal.entry_defaults-part_mark-part-requires
entry_defaults-part_mark-part-requires t c =
    let l = c.loop-key in
    let es = c.args.members.now.entries in
    let counted : vec_len l.entries ≡ length l.entries.items = search rules in
    let first = left-first es l.key-iterator c.next.new.self (length l.entries.items) c.in-Some.key.now c.in-Some.tree.now c.in-Some.ensures.steps l.invariant.order in
    (Data.object (members_view es), c.requires.known, ap (λ k. member_at k (members_view es)) (c.len-index.ensures ∙ counted) ∙ first.1)

pub entry_defaults-loop-key-preserved : goal.entry_defaults-loop-key-preserved
entry_defaults-loop-key-preserved t c =
    let l = c.loop-key in
    let nodes = nodes_of c.args.walk.now in
    let n = node_at nodes c.args.id.0 in
    let read = ap (option_map value_of) (sym c.in-Some-2.is) ∙ c.in_ok-value.ensures.default in
    let copied = c.in_ok-copy_of_text.ensures ∙ c.as_str.ensures.value in
    rw c.in_ok-push.ensures.items (record {
      firsts = c.in_ok-value.ensures.firsts;
      order = left-pushed c.args.members.now.entries l.key-iterator c.next.new.self (c.in-Some.key.now, c.in-Some.tree.now) l.entries.items _ c.in-Some.ensures.steps l.invariant.order;
      left = entry_next nodes n l.key-iterator c.next.new.self c.in-Some.key.now c.in_ok-copy_of_text.field-0 c.in-Some.tree.now
          (entries_default nodes (members_view c.args.members.now.entries) n) l.entries.items c.in-Some-2.value c.in-Some.ensures.steps copied l.invariant.left read;
    })

pub entry_defaults-returns-clause-default : goal.entry_defaults-returns-clause-default
entry_defaults-returns-clause-default t c =
    let l = c.loop-key in
    let nodes = nodes_of c.args.walk.now in
    let n = node_at nodes c.args.id.0 in
    entries_end (entries_default nodes (members_view c.args.members.now.entries) n) l.entries.items (entries_default nodes (members_view l.key-iterator) n)
    l.invariant.left (ap (λ es. entries_default nodes (members_view es) n) c.in-None.ensures.steps.0)

pub field_defaults-returns-in_default-clause-default : goal.field_defaults-returns-in_default-clause-default
field_defaults-returns-in_default-clause-default t c =
    let l = c.loop-field in
    let nodes = nodes_of c.args.walk.now in
    let es = c.args.members.now.entries in
    let fs = c.args.fields.now in
    let key = c.as_str-name.result.now in
    let f = c.field-item.result in
    let got = field_item fs l.field-index f key c.loop-field-test.true c.field-item.is c.as_str-name.ensures.value in
    let member = ap (option_map view) c.in_default.ensures.value ∙ view-lookup key es in
    field_missing nodes es (fields_seen fs) l.field-index key f.node.0 (fields_left nodes es (fields_seen fs)) l.values.items got member l.invariant.left

pub field_defaults-returns-in_default-2-clause-default : goal.field_defaults-returns-in_default-2-clause-default
field_defaults-returns-in_default-2-clause-default t c =
    let l = c.loop-field in
    let nodes = nodes_of c.args.walk.now in
    let es = c.args.members.now.entries in
    let fs = c.args.fields.now in
    let key = c.as_str-name.result.now in
    let f = c.field-item.result in
    let got = field_item fs l.field-index f key c.loop-field-test.true c.field-item.is c.as_str-name.ensures.value in
    let member = ap (option_map view) c.in-Some.ensures.value ∙ view-lookup key es in
    let none = ap (option_map value_of) (sym c.in_default-2.is) ∙ c.in_ok-value.ensures.default in
    field_stop nodes es (fields_seen fs) l.field-index key f.node.0 (view c.in-Some.tree.now) (fields_left nodes es (fields_seen fs)) l.values.items
    got member l.invariant.left none

pub field_defaults-member_mark-part-requires-clause-member : goal.field_defaults-member_mark-part-requires-clause-member
field_defaults-member_mark-part-requires-clause-member t c =
    sym (ap (option_map view) c.in-Some.ensures.value ∙ view-lookup c.as_str-name.result.now c.args.members.now.entries)

pub field_defaults-loop-field-preserved : goal.field_defaults-loop-field-preserved
field_defaults-loop-field-preserved t c =
    let l = c.loop-field in
    let nodes = nodes_of c.args.walk.now in
    let es = c.args.members.now.entries in
    let fs = c.args.fields.now in
    let key = c.as_str-name.result.now in
    let f = c.field-item.result in
    let got = field_item fs l.field-index f key c.loop-field-test.true c.field-item.is c.as_str-name.ensures.value in
    let member = ap (option_map view) c.in-Some.ensures.value ∙ view-lookup key es in
    let read = ap (option_map value_of) (sym c.in-Some-2.is) ∙ c.in_ok-value.ensures.default in
    rw c.in_ok-push.ensures.items (record {
      firsts = c.in_ok-value.ensures.firsts;
      left = field_next nodes es (fields_seen fs) l.field-index key f.node.0 (view c.in-Some.tree.now) (fields_left nodes es (fields_seen fs))
          l.values.items c.in-Some-2.value got member l.invariant.left read;
    })

pub field_defaults-returns-clause-default : goal.field_defaults-returns-clause-default
field_defaults-returns-clause-default t c =
    let l = c.loop-field in
    let nodes = nodes_of c.args.walk.now in
    let es = c.args.members.now.entries in
    let fs = c.args.fields.now in
    fields_end nodes es (fields_seen fs) l.field-index (fields_left nodes es (fields_seen fs)) l.values.items (fields_past fs l.field-index c.loop-field-test.false) l.invariant.left

pub object_default-returns-in-Some-clause-default : goal.object_default-returns-in-Some-clause-default
object_default-returns-in-Some-clause-default t c = grind (arith, value_of-Map)
