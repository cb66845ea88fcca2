-- Which refusal a name that cannot be read gives.
use Rattle.avro_name.specs.declared.error.NameError.{NameError}
use Rattle.avro_schema_json.specs.declared.error.SchemaError.{SchemaError}

abbrev pub refusal_of_name : NameError → SchemaError
refusal_of_name NameError.EmptyPart = SchemaError.InvalidName
refusal_of_name NameError.BadCharacter = SchemaError.InvalidName
refusal_of_name NameError.PrimitiveName = SchemaError.InvalidName
refusal_of_name NameError.OutOfMemory = SchemaError.OutOfMemory
