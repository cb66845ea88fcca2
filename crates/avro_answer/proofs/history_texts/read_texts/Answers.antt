use Rattle.std.proofs.Common.{◌≡◌, ◌+◌, ◌++◌, [], ◌∷◌, ◌∙◌, sym, ap, subst, map, refl}
use Rattle.std.proofs.lemmas.List.{map-append}
use Rattle.std.proofs.lemmas.Result.{err_from_is_err_and}
use Rattle.avro_schema.specs.SeenSchema.{schema_nodes}
use Rattle.avro_answer.proofs.HistoryTexts.{ReadSoFar, read_none, read_one, one_refused, has_schema, all_read}
use Rattle.avro_answer.proofs.history_texts.read_texts.Goals as goal

pub loop-index-init : goal.loop-index-init
loop-index-init c =
    let T = c.args.texts.now in
    let L = c.args.lengths.now in
    subst (ReadSoFar T L T 0) (sym (ap (map schema_nodes) c.new-schemas.ensures.items)) (read_none T L)

pub loop-index-preserved : goal.loop-index-preserved
loop-index-preserved c =
    let T = c.args.texts.now in
    let L = c.args.lengths.now in
    let S = map schema_nodes c.loop-index.schemas.items in
    let pushed : map schema_nodes c.push.new.self.items ≡ S ++ (schema_nodes c.in_ok-schema.schema ∷ []) =
    ap (map schema_nodes) c.in_ok-push.ensures.items ∙ map-append schema_nodes c.loop-index.schemas.items (c.in_ok-schema.schema ∷ []) in
    subst (ReadSoFar T L c.cut.result.1.now (c.loop-index.index + 1)) (sym pushed)
    (read_one T L c.loop-index.rest.now c.loop-index.index S c.loop-index.invariant c.cut.result.0.now c.cut.result.1.now c.loop-index-test.true
    c.cut.ensures.front c.cut.ensures.back (schema_nodes c.in_ok-schema.schema) c.in_ok-schema.ensures.found)

pub returns-in_err-schema-clause-refused : goal.returns-in_err-schema-clause-refused
returns-in_err-schema-clause-refused c =
    let p = err_from_is_err_and c.from_residual.result c.from_residual.ensures.1 in
    rw (p.1, p.2) (one_refused c.args.texts.now c.args.lengths.now c.loop-index.rest.now c.loop-index.index (map schema_nodes c.loop-index.schemas.items) c.loop-index.invariant
    c.cut.result.0.now c.cut.result.1.now c.loop-index-test.true c.cut.ensures.front c.cut.ensures.back _ refl
    c.in_err-schema.field-0.0 c.in_err-schema.ensures.last c.in_err-schema.ensures.other)

pub returns-in_err-schema-clause-complete : goal.returns-in_err-schema-clause-complete
returns-in_err-schema-clause-complete c =
    let p = err_from_is_err_and c.from_residual.result c.from_residual.ensures.1 in
    λ all. rw (p.1, p.2) (c.in_err-schema.ensures.complete
    (has_schema c.args.texts.now c.args.lengths.now c.loop-index.rest.now c.loop-index.index (map schema_nodes c.loop-index.schemas.items) c.loop-index.invariant
    c.cut.result.0.now c.cut.result.1.now c.loop-index-test.true c.cut.ensures.front c.cut.ensures.back all))

pub returns-clause-found : goal.returns-clause-found
returns-clause-found c =
    all_read c.args.texts.now c.args.lengths.now c.loop-index.rest.now c.loop-index.index (map schema_nodes c.loop-index.schemas.items) c.loop-index.invariant
    c.loop-index-test.false
