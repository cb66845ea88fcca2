use Rattle.avro_schema_json.proofs.Words.{◌≡◌, Some, arith, name_of, SchemaError}
use Rattle.std.proofs.lemmas.Grind.{common_steps}
use Rattle.avro_schema_json.proofs.PartsRead.{ok-or_memory, some-from_ok_or}
use Rattle.avro_schema_json.proofs.declarations.attributes.full_names.Goals as goal

pub loop-text-preserved : goal.loop-text-preserved
loop-text-preserved c =
    let named : name_of c.deref.result.now c.args.namespace.now ≡ Some c.in_ok-full_name.field-0 =
    some-from_ok_or _ _ SchemaError.InvalidName (ok-or_memory _ _ c.in_ok-full_name.ensures) in
    grind (arith, common_steps)
