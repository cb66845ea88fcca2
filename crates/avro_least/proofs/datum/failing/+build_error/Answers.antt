use Rattle.std.proofs.Common.{◌≡◌, ℕ, zero, suc, ◌+◌, ◌-◌, ◌<◌, ◌≤◌, true, List, [], ◌∷◌, ◌++◌, Some, take, length, get_or, refl, sym, ◌∙◌, ap, subst, arith, map, ◌==◌}
use Rattle.std.proofs.lemmas.List.{take_more, map-append, length-map, take_all}
use Rattle.avro_schema.specs.Value.{Value}
use Rattle.avro_schema.specs.Seen.{ids_of, value_of}
use Rattle.avro_schema.specs.SeenSchema.{schema_nodes}
use Rattle.avro_schema.specs.Node.{Node as SeenNode, node_at}
use Rattle.avro_schema.specs.declared.datum.Datum.{Datum}
use Rattle.avro_schema.specs.declared.schema.NodeId.{NodeId}
use Rattle.avro_least.specs.declared.pairs.asking.Ask.{Ask}
use Rattle.avro_least.specs.declared.pairs.asking.FieldAsk.{FieldAsk}
use Rattle.avro_least.specs.Asked.{Asked, Row, asked}
use Rattle.avro_least.specs.Tables.{LeastTable, ErringTable}
use Rattle.avro_least.specs.SeenAsk.{row_of, rows_by, rows_of}
use Rattle.avro_least.specs.BuiltErrors.{BuildsError, BuildsAsked, BuildsRow, BuildsRows}
use Rattle.avro_least.specs.Asks.{view_of}
use Rattle.avro_least.specs.inside.Parts.{nodes_of}
use Rattle.avro_least.proofs.AskedBuilds.{whole_builds, lone_builds, part_builds, branches_builds, fields_builds, same_builds, rows_more}
use Rattle.avro_schema.specs.WellFormed.{is_schema}
use Rattle.avro_certificate.proofs.public.Shapes.{plain_branch}
use Rattle.avro_least.proofs.AskedKinds.{asks}
use Rattle.avro_least.proofs.datum.failing.+build_error.Invariants.{behind}
use Rattle.avro_least.specs.SeenTables.{erring_in, least_in}
use Rattle.avro_least.proofs.datum.failing.+build_error.Goals as goal

-- what a pair asks for is what its view says
view_is : (ids : List ℕ) (ask own : Ask) (a : Asked) → ask ≡ own → view_of ids ask ≡ a → view_of ids own ≡ a
view_is ids ask own a is shown = ap (view_of ids) (sym is) ∙ shown

pub build_asked-returns-in_ok-value-in-Whole : goal.build_asked-returns-in_ok-value-in-Whole
build_asked-returns-in_ok-value-in-Whole t c =
    whole_builds (schema_nodes c.args.tables.now.writer.now) (schema_nodes c.args.tables.now.reader.now) c.args.tables.now.limit (least_in c.args.tables.now) (erring_in c.args.tables.now) c.args.left c.args.pair.now.w.0 c.args.pair.now.r.0 (value_of c.in_ok-value-in-Whole.value) c.in_ok-value-in-Whole.ensures refl (view_is _ c.ask_of_pair.result _ _ c.in-Whole.is c.ask_of_pair.ensures.shown)

pub build_asked-returns-in_ok-value-in-Lone : goal.build_asked-returns-in_ok-value-in-Lone
build_asked-returns-in_ok-value-in-Lone t c =
    lone_builds (schema_nodes c.args.tables.now.writer.now) (schema_nodes c.args.tables.now.reader.now) c.args.tables.now.limit (least_in c.args.tables.now) (erring_in c.args.tables.now) c.args.left c.args.pair.now.w.0 c.args.pair.now.r.0 (value_of c.in_ok-value-in-Lone.value) c.in_ok-value-in-Lone.ensures refl (view_is _ c.ask_of_pair.result _ _ c.in-Lone.is c.ask_of_pair.ensures.shown)

pub build_asked-returns-in_ok-value-in-Same : goal.build_asked-returns-in_ok-value-in-Same
build_asked-returns-in_ok-value-in-Same t c =
    same_builds (schema_nodes c.args.tables.now.writer.now) (schema_nodes c.args.tables.now.reader.now) c.args.tables.now.limit (least_in c.args.tables.now) (erring_in c.args.tables.now) c.args.left c.args.pair.now.w.0 c.args.pair.now.r.0 c.in-Same.q.0 (value_of c.in_ok-value-in-Same.value) (view_is _ c.ask_of_pair.result _ _ c.in-Same.is c.ask_of_pair.ensures.shown) c.in_ok-value-in-Same.ensures

pub build_asked-returns-in_ok-value-in-Part : goal.build_asked-returns-in_ok-value-in-Part
build_asked-returns-in_ok-value-in-Part t c =
    subst (λ (v : Value). BuildsError (schema_nodes c.args.tables.now.writer.now) (schema_nodes c.args.tables.now.reader.now) c.args.tables.now.limit (least_in c.args.tables.now) (erring_in c.args.tables.now) c.args.left c.args.pair.now.w.0 c.args.pair.now.r.0 v) (sym c.in_ok-value-in-Part.ensures)
    (part_builds (schema_nodes c.args.tables.now.writer.now) (schema_nodes c.args.tables.now.reader.now) c.args.tables.now.limit (least_in c.args.tables.now) (erring_in c.args.tables.now) c.args.left (c.args.left - 1) c.args.pair.now.w.0 c.args.pair.now.r.0 c.in-Part.a.0 c.in-Part.b.0 (value_of c.in_ok-part-in-Part.part) (omega arith) c.in_ok-part-in-Part.ensures refl (view_is _ c.ask_of_pair.result _ _ c.in-Part.is c.ask_of_pair.ensures.shown))

pub build_asked-returns-in_ok-value-in-Branches : goal.build_asked-returns-in_ok-value-in-Branches
build_asked-returns-in_ok-value-in-Branches t c =
    c.in_ok-value-in-Branches.ensures c.args.pair.now.w.0 c.args.left (omega arith) refl (view_is _ c.ask_of_pair.result _ _ c.in-Branches.is c.ask_of_pair.ensures.shown)

pub build_asked-returns-in_ok-value-in-Fields : goal.build_asked-returns-in_ok-value-in-Fields
build_asked-returns-in_ok-value-in-Fields t c =
    c.in_ok-value-in-Fields.ensures c.args.pair.now.w.0 c.args.pair.now.r.0 c.args.left (omega arith) refl
    (ap Asked.fields (ap rows_of c.deref.ensures.value ∙ c.in_ok-rows-in-Fields.ensures ∙ ap (λ (n : SeenNode). rows_by c.in-Fields.parts.now 0 (nodes_of n)) c.get.ensures.node)
    ∙ view_is _ c.ask_of_pair.result _ _ c.in-Fields.is c.ask_of_pair.ensures.shown)

-- the pair of a union's branch comes after the union's
comes_after : (writer reader : List SeenNode) (w r q : ℕ) → is_schema reader ≡ true → Asked.same q ≡ asked writer reader (node_at writer w) (node_at reader r)
    → behind reader q + 1 < behind reader r
comes_after writer reader w r q formed is =
    let into = asks writer reader (node_at writer w) (node_at reader r) (Asked.same q) is in
    rw (into.is, plain_branch reader r into.ids into.branch q formed into.is into.here) (omega arith)

pub build_asked-build_error-requires : goal.build_asked-build_error-requires
build_asked-build_error-requires t c =
    let after = comes_after (schema_nodes c.args.tables.now.writer.now) (schema_nodes c.args.tables.now.reader.now) c.args.pair.now.w.0 c.args.pair.now.r.0 c.in-Same.q.0 c.ask_of_pair.ensures.formed
    (view_is _ c.ask_of_pair.result _ _ c.in-Same.is c.ask_of_pair.ensures.shown) in
    (omega (arith, c.decreases, after), (c.requires.few, c.requires.found))

pub build_error-returns-in_ok-value-in-Some : goal.build_error-returns-in_ok-value-in-Some
build_error-returns-in_ok-value-in-Some t c = rw (sym c.in-Some.ensures.1, sym c.in-Some.ensures.2) c.in_ok-value-in-Some.ensures

pub build_error-returns-in_ok-value-in-None : goal.build_error-returns-in_ok-value-in-None
build_error-returns-in_ok-value-in-None t c = rw (sym c.in_ok-pair-in-None.ensures.1, sym c.in_ok-pair-in-None.ensures.2) c.in_ok-value-in-None.ensures

pub build_branches-returns : goal.build_branches-returns
build_branches-returns t c w more few =
    branches_builds (schema_nodes c.args.tables.now.writer.now) (schema_nodes c.args.tables.now.reader.now) c.args.tables.now.limit (least_in c.args.tables.now) (erring_in c.args.tables.now) more c.args.left w c.args.r.0 (ids_of c.args.ids.now) c.best_error_index-k.result (value_of c.in_ok-value.value) (value_of c.in_ok-whole.whole)
    (omega (arith, few)) c.in_ok-whole.ensures
    (λ h. let b = c.best_error_index-k.ensures h in
    (b.0, b.1, b.2, subst (λ (q : ℕ). BuildsError (schema_nodes c.args.tables.now.writer.now) (schema_nodes c.args.tables.now.reader.now) c.args.tables.now.limit (least_in c.args.tables.now) (erring_in c.args.tables.now) c.args.left q c.args.r.0 (value_of c.in_ok-value.value)) (c.id_at.ensures b.0 b.1) c.in_ok-value.ensures))

pub build_row-returns-in_ok-value-in-Some : goal.build_row-returns-in_ok-value-in-Some
build_row-returns-in_ok-value-in-Some t c = record {
  errs = λ h q is. subst (λ (n : ℕ). BuildsError (schema_nodes c.args.tables.now.writer.now) (schema_nodes c.args.tables.now.reader.now) c.args.tables.now.limit (least_in c.args.tables.now) (erring_in c.args.tables.now) c.args.left c.args.row.node.0 n (value_of c.in_ok-value-in-Some.value))
      (theirs_is c.args.row c.in-Some.theirs q c.in-Some.is is) c.in_ok-value-in-Some.ensures;
  fits_in = λ h. absurd (grind (arith, h, c.if-chosen.true));
}
  where
    theirs_is : (row : FieldAsk) (theirs : NodeId) (q : ℕ) → row.theirs ≡ Some theirs → (row_of row).theirs ≡ Some q → theirs.0 ≡ q
    theirs_is row theirs q e is = cc

more_rows : (writer reader : List SeenNode) (limit : ℕ) (table : LeastTable) (erring : ErringTable) (less k i : ℕ) (rows : List FieldAsk) (row : FieldAsk) (old new : List Datum) (v : Datum) → i < length rows
    → BuildsRows writer reader limit table erring less k 0 (rows_of (take i rows)) (map value_of old) → BuildsRow writer reader limit table erring less (i == k) (row_of (get_or rows i row)) (value_of v)
    → new ≡ old ++ v ∷ [] → BuildsRows writer reader limit table erring less k 0 (rows_of (take (i + 1) rows)) (map value_of new)
more_rows writer reader limit table erring less k i rows row old new v within before own is =
    subst (λ (rs : List Row). BuildsRows writer reader limit table erring less k 0 rs (map value_of new))
    (sym (ap rows_of (take_more rows i row within) ∙ map-append row_of (take i rows) (get_or rows i row ∷ [])))
    (subst (λ (vs : List Value). BuildsRows writer reader limit table erring less k 0 (rows_of (take i rows) ++ row_of (get_or rows i row) ∷ []) vs)
    (sym (ap (map value_of) is ∙ map-append value_of old (v ∷ [])))
    (rows_more writer reader limit table erring less k 0 (rows_of (take i rows)) (map value_of old) (row_of (get_or rows i row)) (value_of v) before
    (subst (λ (n : ℕ). BuildsRow writer reader limit table erring less (n == k) (row_of (get_or rows i row)) (value_of v)) index own)))
  where
    index : i ≡ 0 + length (rows_of (take i rows))
    index = let count = length-map (take i rows) row_of in let all = taken i rows (omega (arith, within)) in omega (arith, count, all)
      where
        taken : (i : ℕ) (rs : List FieldAsk) → i ≤ length rs → length (take i rs) ≡ i
        taken zero [] h = refl
        taken (suc i) [] h = absurd (omega (arith, h))
        taken zero (r ∷ rs) h = refl
        taken (suc i) (r ∷ rs) h = ap suc (taken i rs (omega (arith, h)))

pub build_rows-loop-i-preserved : goal.build_rows-loop-i-preserved
build_rows-loop-i-preserved t c = more_rows (schema_nodes c.args.tables.now.writer.now) (schema_nodes c.args.tables.now.reader.now) c.args.tables.now.limit (least_in c.args.tables.now) (erring_in c.args.tables.now) c.args.left c.in_ok-k.k c.loop-i.i c.args.rows.now _ c.loop-i.values.items _ c.in_ok-value.value
    c.loop-i-test.true c.loop-i.invariant c.in_ok-value.ensures c.in_ok-push.ensures.items

pub build_rows-returns : goal.build_rows-returns
build_rows-returns t c w r more few =
    subst (λ (v : Value). BuildsAsked (schema_nodes c.args.tables.now.writer.now) (schema_nodes c.args.tables.now.reader.now) c.args.tables.now.limit (least_in c.args.tables.now) (erring_in c.args.tables.now) more w r (Asked.fields (rows_of c.args.rows.now)) v) (sym c.make_record.ensures)
    (fields_builds (schema_nodes c.args.tables.now.writer.now) (schema_nodes c.args.tables.now.reader.now) c.args.tables.now.limit (least_in c.args.tables.now) (erring_in c.args.tables.now) more c.args.left w r (rows_of c.args.rows.now) c.in_ok-k.k (map value_of c.loop-i.values.items) (omega (arith, few))
    (subst (λ (rs : List FieldAsk). BuildsRows (schema_nodes c.args.tables.now.writer.now) (schema_nodes c.args.tables.now.reader.now) c.args.tables.now.limit (least_in c.args.tables.now) (erring_in c.args.tables.now) c.args.left c.in_ok-k.k 0 (rows_of rs) (map value_of c.loop-i.values.items))
    (take_all c.loop-i.i c.args.rows.now (omega (arith, c.loop-i-test.false))) c.loop-i.invariant)
    (λ j within same. let count = length-map c.args.rows.now row_of in
    let found = c.in_ok-k.ensures j (omega (arith, within, count)) same in (omega (arith, found.0, count), found.1)))
