-- Which refusals are returned, and their codes.
use Rattle.std.specs.Prelude.{ℕ, List, Result, IsErrOf, codes, option_map, unwrap_or}
use Rattle.avro_schema.specs.Faulty.{NodeFault, unknown_node, duplicate_name, invalid_name, invalid_union, invalid_symbols, duplicate_field, invalid_default, limit_exceeded, fault_of}
use Rattle.avro_schema.specs.declared.fault.DraftError.{DraftError}
use Rattle.avro_schema_json.specs.declared.error.SchemaError.{SchemaError}

-- the refusal that names a fault of nodes
abbrev pub refusal_of_fault : NodeFault → SchemaError
refusal_of_fault unknown_node = SchemaError.UnknownName
refusal_of_fault duplicate_name = SchemaError.DuplicateName
refusal_of_fault invalid_name = SchemaError.InvalidName
refusal_of_fault invalid_union = SchemaError.InvalidUnion
refusal_of_fault invalid_symbols = SchemaError.InvalidSymbols
refusal_of_fault duplicate_field = SchemaError.DuplicateField
refusal_of_fault invalid_default = SchemaError.InvalidDefault
refusal_of_fault limit_exceeded = SchemaError.LimitExceeded

-- a draft's error names a fault, or memory ran out
abbrev pub refusal_of : DraftError → SchemaError
refusal_of e = unwrap_or (option_map refusal_of_fault (fault_of e)) SchemaError.OutOfMemory

-- memory did not run out
abbrev pub HasMemory : {T : Type 0} → Result T SchemaError → Type 0
HasMemory result = ¬ (IsErrOf result SchemaError.OutOfMemory)

-- the code of a refusal
abbrev pub schema_code : SchemaError → List ℕ
schema_code SchemaError.NotJson = codes "S1"
schema_code SchemaError.UnknownName = codes "S2"
schema_code SchemaError.DuplicateName = codes "S3"
schema_code SchemaError.InvalidName = codes "S4"
schema_code SchemaError.InvalidDeclaration = codes "S5"
schema_code SchemaError.InvalidUnion = codes "S6"
schema_code SchemaError.InvalidSymbols = codes "S7"
schema_code SchemaError.DuplicateField = codes "S8"
schema_code SchemaError.InvalidDefault = codes "S9"
schema_code SchemaError.UnsupportedType = codes "S10"
schema_code SchemaError.UnsupportedNumber = codes "S11"
schema_code SchemaError.LimitExceeded = codes "S12"
schema_code SchemaError.OutOfMemory = codes "S13"
