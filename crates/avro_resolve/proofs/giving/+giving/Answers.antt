use Rattle.std.proofs.Common.{◌≡◌, ◌∷◌, ◌++◌, [], ℕ, List, length, true, refl, ap, sym, ◌∙◌, subst, arith, rules, FitsSigned, w32, w64}
use Rattle.std.specs.Prelude.{IfOk, slice_get}
use Rattle.std.proofs.lemmas.Int.{to_z-of_z}
use Rattle.std.specs.Prelude.{unwrap_or}
use Rattle.avro_schema.specs.Value.{Value}
use Rattle.avro_schema.specs.Fits.{fits, each_fits, entries_fit, fields_fit}
use Rattle.avro_schema.specs.SeenSchema.{schema_nodes}
use Rattle.avro_schema.specs.Node.{FieldNode, Node, node_at, field_ids}
use Rattle.avro_schema.specs.Seen.{value_of, values_of, values_from, entries_of, entries_from, pair_of, seen_fields}
use Rattle.avro_schema.proofs.public.DatumViews.{value_of-Int, value_of-Long, value_of-Map}
use Rattle.avro_schema.proofs.public.FitsParts.{ArrayFits-from_fits, MapFits-from_fits, UnionFits-from_fits, RecordFits-from_fits}
use Rattle.avro_compare.proofs.public.Lists.{one_longer}
use Rattle.avro_compare.proofs.public.Rules.{MeetRules-from_is_schema}
use Rattle.avro_compare.specs.Pairs.{branch_id, item_id, value_id}
use Rattle.avro_compare.specs.Resolve.{fields_at}
use Rattle.avro_resolve.proofs.GivenParts.{array_parts, map_parts, no_union_within, value_of-Array, value_of-Record, value_of-Union, stands_same, all_before, all_entries_before, one_before, item_fits, field_fits, one_entry_before, entry_fits}
use Rattle.avro_resolve.proofs.giving.+giving.Goals as goal

pub give-returns-in-Int-clause-stands : goal.give-returns-in-Int-clause-stands
give-returns-in-Int-clause-stands g t c = λ fit.
    let nodes = schema_nodes c.args.schema.now in
    let n = node_at nodes c.args.id.0 in
    let i = c.in-Int.value in
    let same : value_of c.args.datum.now ≡ Value.int i = ap value_of c.in-Int.is ∙ value_of-Int i in
    let whole : FitsSigned w32 i = search rules in
    let back = to_z-of_z w32 i whole in
    stands_same (λ m. g.M.Make.stands_for c.leaf-in-Int.new.self nodes m c.args.at) n n (value_of c.args.datum.now) (Value.int i) c.leaf-in-Int.result refl same
    (subst (λ j. IfOk c.leaf-in-Int.result (λ out. g.M.Make.stands_for c.leaf-in-Int.new.self nodes n c.args.at out (Value.int j))) back
    (c.leaf-in-Int.ensures.stands nodes n (subst (λ j. fits nodes n (Value.int j) ≡ true) (sym back) (subst (λ v. fits nodes n v ≡ true) same fit))))

pub give-returns-in-Long-clause-stands : goal.give-returns-in-Long-clause-stands
give-returns-in-Long-clause-stands g t c = λ fit.
    let nodes = schema_nodes c.args.schema.now in
    let n = node_at nodes c.args.id.0 in
    let i = c.in-Long.value in
    let same : value_of c.args.datum.now ≡ Value.long i = ap value_of c.in-Long.is ∙ value_of-Long i in
    let whole : FitsSigned w64 i = search rules in
    let back = to_z-of_z w64 i whole in
    stands_same (λ m. g.M.Make.stands_for c.leaf-in-Long.new.self nodes m c.args.at) n n (value_of c.args.datum.now) (Value.long i) c.leaf-in-Long.result refl same
    (subst (λ j. IfOk c.leaf-in-Long.result (λ out. g.M.Make.stands_for c.leaf-in-Long.new.self nodes n c.args.at out (Value.long j))) back
    (c.leaf-in-Long.ensures.stands nodes n (subst (λ j. fits nodes n (Value.long j) ≡ true) (sym back) (subst (λ v. fits nodes n v ≡ true) same fit))))

pub give-returns-in-Array-clause-stands : goal.give-returns-in-Array-clause-stands
give-returns-in-Array-clause-stands g t c = λ fit.
    let nodes = schema_nodes c.args.schema.now in
    let n = node_at nodes c.args.id.0 in
    let items = Value.array (values_of c.deref-in-Array.result.now) in
    let same : value_of c.args.datum.now ≡ items =
    ap value_of c.in-Array.is ∙ value_of-Array c.in-Array.items ∙ ap (λ es. Value.array (values_of es)) (sym c.deref-in-Array.ensures.value) in
    let fit_here = subst (λ v. fits nodes n v ≡ true) same fit in
    let f = ArrayFits-from_fits nodes n (values_of c.deref-in-Array.result.now) fit_here in
    let is = f.is_array ∙ ap (λ (i : ℕ). Node.array i) (sym (c.items_of.ensures ∙ ap item_id f.is_array)) in
    stands_same (λ m. g.M.Make.stands_for c.give_items.new.maker nodes m c.args.at) n (Node.array c.items_of.result.0) (value_of c.args.datum.now) items c.give_items.result
    is same (c.give_items.ensures.stands (subst (λ m. fits nodes m items ≡ true) is fit_here))

pub give-returns-in-Record-clause-stands : goal.give-returns-in-Record-clause-stands
give-returns-in-Record-clause-stands g t c = λ fit.
    let nodes = schema_nodes c.args.schema.now in
    let n = node_at nodes c.args.id.0 in
    let same : value_of c.args.datum.now ≡ Value.record_of (values_of c.deref-in-Record.result.now) =
    ap value_of c.in-Record.is ∙ value_of-Record c.in-Record.values ∙ ap (λ es. Value.record_of (values_of es)) (sym c.deref-in-Record.ensures.value) in
    stands_same (λ m. g.M.Make.stands_for c.give_fields.new.maker nodes m c.args.at) n n (value_of c.args.datum.now) (Value.record_of (values_of c.deref-in-Record.result.now)) c.give_fields.result
    refl same (c.give_fields.ensures.stands (subst (λ v. fits nodes n v ≡ true) same fit))

pub give-returns-in-Map-clause-stands : goal.give-returns-in-Map-clause-stands
give-returns-in-Map-clause-stands g t c = λ fit.
    let nodes = schema_nodes c.args.schema.now in
    let n = node_at nodes c.args.id.0 in
    let entries = Value.map_of (entries_of c.deref-in-Map.result.now) in
    let same : value_of c.args.datum.now ≡ entries =
    ap value_of c.in-Map.is ∙ value_of-Map c.in-Map.entries ∙ ap (λ es. Value.map_of (entries_of es)) (sym c.deref-in-Map.ensures.value) in
    let fit_here = subst (λ v. fits nodes n v ≡ true) same fit in
    let f = MapFits-from_fits nodes n (entries_of c.deref-in-Map.result.now) fit_here in
    let is = f.is_map ∙ ap (λ (i : ℕ). Node.map_of i) (sym (c.values_of.ensures ∙ ap value_id f.is_map)) in
    stands_same (λ m. g.M.Make.stands_for c.give_entries.new.maker nodes m c.args.at) n (Node.map_of c.values_of.result.0) (value_of c.args.datum.now) entries c.give_entries.result
    is same (c.give_entries.ensures.stands (subst (λ m. fits nodes m entries ≡ true) is fit_here))

pub give-returns-in-Union-clause-stands : goal.give-returns-in-Union-clause-stands
give-returns-in-Union-clause-stands g t c = λ fit.
    let nodes = schema_nodes c.args.schema.now in
    let n = node_at nodes c.args.id.0 in
    let k = c.in-Union.branch in
    let v = value_of c.deref-in-Union.result.now in
    let same : value_of c.args.datum.now ≡ Value.union k v = ap value_of c.in-Union.is ∙ value_of-Union k c.in-Union.value ∙ ap (λ d. Value.union k (value_of d)) (sym c.deref-in-Union.ensures) in
    stands_same (λ m. g.M.Make.stands_for c.give_branch.new.maker nodes m c.args.at) n n (value_of c.args.datum.now) (Value.union k v) c.give_branch.result
    refl same (c.give_branch.ensures.stands (subst (λ x. fits nodes n x ≡ true) same fit))

-- ---- Unions

pub give_branch-returns-clause-stands : goal.give_branch-returns-clause-stands
give_branch-returns-clause-stands g t c = λ fit.
    let nodes = schema_nodes c.args.schema.now in
    let n = node_at nodes c.args.id.0 in
    let k = c.args.branch in
    let v = value_of c.args.value.now in
    let at = c.args.at in
    let S = g.M.Make.stands_for c.give.new.maker in
    let f = UnionFits-from_fits nodes n k v fit in
    let there : c.branch_of-node.result.0 ≡ f.id = c.branch_of-node.ensures ∙ ap (λ (m : Node). branch_id m k) f.is_union ∙ ap (λ o. unwrap_or o 0) f.is_branch in
    let fit_there = subst (λ (i : ℕ). fits nodes (node_at nodes i) v ≡ true) (sym there) f.fitting in
    let part = c.branch_at-part.ensures ∙ g.met.M.Make.branch_at_kept c.args.maker.now c.give.new.maker at k c.branch_of-node.result.0 c.in_ok-made.ensures.kept in
    let made = subst (λ (i : ℕ). S nodes (node_at nodes i) (g.M.Make.branch_at c.give.new.maker at k i) c.in_ok-made.made v) there
    (subst (λ a. S nodes (node_at nodes c.branch_of-node.result.0) a c.in_ok-made.made v) part (c.in_ok-made.ensures.stands fit_there)) in
    stands_same (λ m. g.M.Make.stands_for c.branch-maker.new.self nodes m at) n (Node.union f.ids) (Value.union k v) (Value.union k v) c.branch-maker.result
    f.is_union refl (c.branch-maker.ensures.stands nodes f.ids f.id at v f.is_branch (no_union_within nodes c.args.id.0 f.ids k f.id (MeetRules-from_is_schema nodes c.root-root.ensures.formed) f.is_union f.is_branch) made)

-- ---- Arrays

pub give_items-loop-index-init : goal.give_items-loop-index-init
give_items-loop-index-init g t c =
    let nodes = schema_nodes c.args.schema.now in (
      c.in_ok-made.ensures.kept,
      λ fit. ([], c.in_ok-made.ensures.stands nodes c.args.node.0, refl, array_parts nodes c.args.node.0 (values_of c.args.items.now) fit),
    )

pub give_items-loop-index-preserved : goal.give_items-loop-index-preserved
give_items-loop-index-preserved g t c =
    let nodes = schema_nodes c.args.schema.now in
    let id = c.args.node.0 in
    let make = g.met.M.Make in
    let old = c.loop-index.maker in
    let new = c.give.new.maker in
    let made = c.loop-index.made in
    let datum = c.index-items-index.result in
    let kept = c.in_ok-value.ensures.kept in (
      make.keeps_on c.args.maker.now new c.item.new.self (make.keeps_on c.args.maker.now old new c.loop-index.invariant.0 kept) c.in_ok-item.ensures.kept,
      λ fit.
          let so_far = c.loop-index.invariant.1 fit in
          let us = so_far.0 in
          let here = item_fits c.args.items.now c.loop-index.index datum c.loop-index-test.true c.index-items-index.is nodes (node_at nodes id) so_far.3 in
          let part = c.item_at-part.ensures ∙ make.item_at_kept old new made id kept in
          let value = subst (λ a. g.M.Make.stands_for new nodes (node_at nodes id) a c.in_ok-value.value (value_of datum)) part (c.in_ok-value.ensures.stands here.0) in (
            us ++ value_of datum ∷ [],
            c.in_ok-item.ensures.stands nodes id c.args.at us (value_of datum) (make.items_kept old new nodes id c.args.at made us kept so_far.1) value,
            one_before c.args.items.now c.loop-index.index datum c.loop-index-test.true c.index-items-index.is us so_far.2,
            here.1,
          ),
    )

pub give_items-returns-clause-stands : goal.give_items-returns-clause-stands
give_items-returns-clause-stands g t c = λ fit.
    let nodes = schema_nodes c.args.schema.now in
    let so_far = c.loop-index.invariant.1 fit in
    let all = all_before so_far.0 c.args.items.now c.loop-index.index c.loop-index-test.false so_far.2 in
    let n = Node.array c.args.node.0 in
    stands_same (λ m. g.M.Make.stands_for c.array.new.self nodes m c.args.at) n n (Value.array (values_of c.args.items.now)) (Value.array (values_from so_far.0)) c.array.result
    refl (ap (λ us. Value.array (values_from us)) (sym all)) (c.array.ensures.stands nodes c.args.node.0 c.args.at so_far.0 so_far.1)

-- ---- Maps

pub give_entries-loop-index-init : goal.give_entries-loop-index-init
give_entries-loop-index-init g t c =
    let nodes = schema_nodes c.args.schema.now in (
      c.in_ok-made.ensures.kept,
      λ fit. ([], c.in_ok-made.ensures.stands nodes c.args.node.0, refl, map_parts nodes c.args.node.0 (entries_of c.args.entries.now) fit),
    )

pub give_entries-loop-index-preserved : goal.give_entries-loop-index-preserved
give_entries-loop-index-preserved g t c =
    let nodes = schema_nodes c.args.schema.now in
    let id = c.args.node.0 in
    let make = g.met.M.Make in
    let old = c.loop-index.maker in
    let new = c.give.new.maker in
    let made = c.loop-index.made in
    let entry = c.index-entries-index.result in
    let kept = c.in_ok-value.ensures.kept in (
      make.keeps_on c.args.maker.now new c.entry.new.self (make.keeps_on c.args.maker.now old new c.loop-index.invariant.0 kept) c.in_ok-entry.ensures.kept,
      λ fit.
          let so_far = c.loop-index.invariant.1 fit in
          let us = so_far.0 in
          let here = entry_fits c.args.entries.now c.loop-index.index entry c.loop-index-test.true c.index-entries-index.is nodes (node_at nodes id) so_far.3 in
          let part = c.entry_at-part.ensures ∙ make.entry_at_kept old new made id kept in
          let value = subst (λ a. g.M.Make.stands_for new nodes (node_at nodes id) a c.in_ok-value.value (value_of entry.1)) part (c.in_ok-value.ensures.stands here.0) in
          let more = c.in_ok-entry.ensures.stands nodes id c.args.at us (value_of entry.1) (make.entries_kept old new nodes id c.args.at made us kept so_far.1) value in (
            us ++ pair_of entry ∷ [],
            subst (λ key. g.M.Make.entries_stand_for c.entry.new.self nodes id c.args.at c.entry.new.entries (us ++ (key, value_of entry.1) ∷ [])) c.as_str.ensures.value more,
            one_entry_before c.args.entries.now c.loop-index.index entry c.loop-index-test.true c.index-entries-index.is us so_far.2,
            here.1,
          ),
    )

pub give_entries-returns-clause-stands : goal.give_entries-returns-clause-stands
give_entries-returns-clause-stands g t c = λ fit.
    let nodes = schema_nodes c.args.schema.now in
    let so_far = c.loop-index.invariant.1 fit in
    let all = all_entries_before so_far.0 c.args.entries.now c.loop-index.index c.loop-index-test.false so_far.2 in
    let n = Node.map_of c.args.node.0 in
    stands_same (λ m. g.M.Make.stands_for c.map.new.self nodes m c.args.at) n n (Value.map_of (entries_of c.args.entries.now)) (Value.map_of (entries_from so_far.0)) c.map.result
    refl (ap (λ us. Value.map_of (entries_from us)) (sym all)) (c.map.ensures.stands nodes c.args.node.0 c.args.at so_far.0 so_far.1)

-- ---- Records

pub give_fields-loop-index-init : goal.give_fields-loop-index-init
give_fields-loop-index-init g t c =
    let nodes = schema_nodes c.args.schema.now in (
      c.in_ok-made.ensures.kept,
      λ fit.
          let f = RecordFits-from_fits nodes (node_at nodes c.args.id.0) (values_of c.args.values.now) fit in
          (f, [], refl, c.in_ok-made.ensures.stands nodes f.fields, refl, f.fitting),
    )

pub give_fields-loop-index-preserved : goal.give_fields-loop-index-preserved
give_fields-loop-index-preserved g t c =
    let nodes = schema_nodes c.args.schema.now in
    let make = g.met.M.Make in
    let old = c.loop-index.maker in
    let new = c.give.new.maker in
    let made = c.loop-index.made in
    let datum = c.index-values-index.result in
    let node = c.node_of_field-node.result.0 in
    let kept = c.in_ok-value.ensures.kept in (
      make.keeps_on c.args.maker.now new c.field.new.self (make.keeps_on c.args.maker.now old new c.loop-index.invariant.0 kept) c.in_ok-field.ensures.kept,
      λ fit.
          let so_far = c.loop-index.invariant.1 fit in
          let us = so_far.1 in
          let fs = so_far.0.fields in
          let counted : length us ≡ c.loop-index.index = so_far.2 in
          let here = field_fits c.args.values.now c.loop-index.index datum c.loop-index-test.true c.index-values-index.is nodes (field_ids fs) so_far.5 in
          let id = here.0 in
          let of_record : seen_fields c.fields_of-fields.result.now ≡ fs = c.fields_of-fields.ensures.seen ∙ ap fields_at so_far.0.is_record in
          let there : node ≡ id = c.node_of_field-node.ensures ∙ ap (λ (gs : List FieldNode). unwrap_or (slice_get (field_ids gs) c.loop-index.index) 0) of_record ∙ ap (λ o. unwrap_or o 0) here.1 in
          let part = c.field_at-part.ensures ∙ make.field_at_kept old new made node kept in
          let whole = subst (λ (i : ℕ). fits nodes (node_at nodes i) (value_of datum) ≡ true) (sym there) here.2 in
          let value = subst (λ (i : ℕ). g.M.Make.stands_for new nodes (node_at nodes i) (g.M.Make.field_at new made i) c.in_ok-value.value (value_of datum)) there
          (subst (λ a. g.M.Make.stands_for new nodes (node_at nodes node) a c.in_ok-value.value (value_of datum)) part (c.in_ok-value.ensures.stands whole)) in (
            so_far.0,
            us ++ value_of datum ∷ [],
            omega (arith, one_longer us (value_of datum), counted),
            c.in_ok-field.ensures.stands nodes fs id c.args.at us (value_of datum) (make.fields_kept old new nodes fs c.args.at made us kept so_far.3) (ap (slice_get (field_ids fs)) counted ∙ here.1) value,
            one_before c.args.values.now c.loop-index.index datum c.loop-index-test.true c.index-values-index.is us so_far.4,
            here.3,
          ),
    )

pub give_fields-returns-clause-stands : goal.give_fields-returns-clause-stands
give_fields-returns-clause-stands g t c = λ fit.
    let nodes = schema_nodes c.args.schema.now in
    let n = node_at nodes c.args.id.0 in
    let so_far = c.loop-index.invariant.1 fit in
    let f = so_far.0 in
    let us = so_far.1 in
    let all = all_before us c.args.values.now c.loop-index.index c.loop-index-test.false so_far.4 in
    stands_same (λ m. g.M.Make.stands_for c.record.new.self nodes m c.args.at) n (Node.record_of f.name f.aliases f.fields) (Value.record_of (values_of c.args.values.now)) (Value.record_of (values_from us)) c.record.result
    f.is_record (ap (λ vs. Value.record_of (values_from vs)) (sym all))
    (c.record.ensures.stands nodes f.name f.aliases f.fields c.args.at us so_far.3 (subst (λ vs. fields_fit nodes (field_ids f.fields) (values_from vs) ≡ true) (sym all) f.fitting))
