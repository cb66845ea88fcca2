-- Why a text is not a schema.
use Rattle.std.proofs.Common.{◌≢◌, Err, ap, sym, rules}
use Rattle.std.proofs.lemmas.Option.{same_Some}
use Rattle.avro_schema_json.specs.declared.error.SchemaError.{SchemaError}
use Rattle.avro_file.proofs.header.schema_and_codec.schema_in.Goals as goal

pub returns-else-eq-clause-refused : goal.returns-else-eq-clause-refused
returns-else-eq-clause-refused c = λ f is.
    let other : c.in-Err.error ≢ SchemaError.OutOfMemory = search rules in
    (c.in-Err.error, sym (same_Some _ _ is), (other, (λ p. (c.in-Err.ensures.not_json.0 (ap Err p)).2), c.in-Err.ensures.refused))
