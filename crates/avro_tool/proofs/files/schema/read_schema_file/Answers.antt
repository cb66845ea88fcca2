use Rattle.std.proofs.Common.{◌≡◌, ℕ, List, take, Err, ap, subst, sym}
use Rattle.std.proofs.lemmas.Result.{err_from_is_err_and}
use Rattle.std.specs.Option.{IfSome}
use Rattle.avro_schema.specs.SeenSchema.{schema_nodes}
use Rattle.avro_schema_json.specs.declared.error.SchemaError.{SchemaError}
use Rattle.avro_tool.proofs.KnownTexts.{schema_known}
use Rattle.avro_tool.proofs.Refusing.{nothing_schema, schema_refused}
use Rattle.avro_tool.proofs.files.schema.read_schema_file.Goals as goal

pub returns-in-Ok-clause-found : goal.returns-in-Ok-clause-found
returns-in-Ok-clause-found g c =
    let known = g.T.Texts.known c.args.texts.now c.args.word.now in
    let bytes = c.deref.result.now in
    schema_known known bytes (schema_nodes c.in-Ok.schema) c.in-Ok.schema SchemaError.LimitExceeded
    (subst (λ (b : List ℕ). IfSome known (λ (all : List ℕ). b ≡ take 1048577 all)) (sym c.deref.ensures.value) c.in_ok-bytes.ensures.found) c.in-Ok.ensures.too_long c.in-Ok.ensures.found

pub returns-clause-refused : goal.returns-clause-refused
returns-clause-refused g c =
    let known = g.T.Texts.known c.args.texts.now in
    schema_refused known c.args.word c.deref.result.now c.in-Err.e c.of_schema.result
    (subst (λ (b : List ℕ). IfSome (known c.args.word.now) (λ (all : List ℕ). b ≡ take 1048577 all)) (sym c.deref.ensures.value) c.in_ok-bytes.ensures.found)
    c.in-Err.ensures.refused (λ is. (c.in-Err.ensures.not_json.0 (ap Err is)).2) (λ long. let same = c.in-Err.ensures.too_long long in cc) c.of_schema.ensures.memory c.of_schema.ensures.refused

pub returns-in_err-bytes-clause-refused : goal.returns-in_err-bytes-clause-refused
returns-in_err-bytes-clause-refused g c =
    let p = err_from_is_err_and c.from_residual.result c.from_residual.ensures.1 in
    rw (p.1, p.2) (nothing_schema (g.T.Texts.known c.args.texts.now) c.args.word.now c.in_err-bytes.field-0.0 c.in_err-bytes.ensures.fails)
