-- Faults of texts that declare no schema: computed.
use Rattle.avro_schema_json.proofs.Words.{◌≡◌, refl, [], ◌∷◌, Some, codes, SchemaError}
use Rattle.serde_json.proofs.OnLiterals.{serde_json_on_literals}
use Rattle.avro_schema_json.proofs.RowsDeclared.{faults_by, AllHave}

-- types that are not supported
unsupported_types : AllHave SchemaError.UnsupportedType (codes "\"float\""
    ∷ codes "{\"type\":\"double\"}"
    ∷ codes "{\"type\":\"error\",\"name\":\"E\",\"fields\":[]}"
    ∷ [])
unfolding serde_json_on_literals
unsupported_types = refl

-- references: to no definition, to a later one, and from a namespace to the null one
unknown_names : AllHave SchemaError.UnknownName (codes "\"Foo\""
    ∷ codes "[\"F\",{\"type\":\"fixed\",\"name\":\"F\",\"size\":1}]"
    ∷ codes "{\"type\":\"record\",\"name\":\"E\",\"fields\":[{\"name\":\"r\",\"type\":{\"type\":\"record\",\"name\":\"a.R\",\"fields\":[{\"name\":\"e\",\"type\":\"E\"}]}}]}"
    ∷ codes "\"error\""
    ∷ [])
unfolding serde_json_on_literals
unknown_names = refl

-- a fullname twice
names_twice : AllHave SchemaError.DuplicateName (codes "[{\"type\":\"fixed\",\"name\":\"F\",\"size\":1},{\"type\":\"array\",\"items\":{\"type\":\"enum\",\"name\":\"F\",\"symbols\":[\"A\"]}}]"
    ∷ codes "{\"type\":\"record\",\"name\":\"R\",\"fields\":[{\"name\":\"f\",\"type\":{\"type\":\"fixed\",\"name\":\"R\",\"size\":1}}]}"
    ∷ [])
unfolding serde_json_on_literals
names_twice = refl

-- names that are none
invalid_names : AllHave SchemaError.InvalidName (codes "{\"type\":\"enum\",\"name\":\"int\",\"symbols\":[\"A\"]}"
    ∷ codes "\"a.int\""
    ∷ codes "\"\""
    ∷ codes "{\"type\":\"fixed\",\"name\":\"F\",\"namespace\":\"a..b\",\"size\":1}"
    ∷ codes "{\"type\":\"fixed\",\"name\":\"F\",\"aliases\":[\"a.b-c\"],\"size\":1}"
    ∷ codes "{\"type\":\"enum\",\"name\":\"E\",\"symbols\":[\"A\",\"1\"]}"
    ∷ codes "{\"type\":\"record\",\"name\":\"R\",\"fields\":[{\"name\":\"a.b\",\"type\":\"int\"}]}"
    ∷ [])
unfolding serde_json_on_literals
invalid_names = refl

-- JSON that is not a schema, and attributes that are missing or ill-typed
invalid_declarations : AllHave SchemaError.InvalidDeclaration (codes "{\"type\":{\"type\":\"int\"}}"
    ∷ codes "{}"
    ∷ codes "[\"null\",1]"
    ∷ codes "{\"type\":\"fixed\",\"name\":\"F\",\"size\":\"16\"}"
    ∷ codes "{\"type\":\"fixed\",\"name\":\"F\",\"size\":-1}"
    ∷ codes "{\"type\":\"array\"}"
    ∷ codes "{\"type\":\"record\",\"name\":\"R\"}"
    ∷ codes "{\"type\":\"record\",\"fields\":[]}"
    ∷ codes "{\"type\":\"fixed\",\"name\":\"F\",\"namespace\":null,\"size\":1}"
    ∷ codes "{\"type\":\"fixed\",\"name\":\"F\",\"aliases\":null,\"size\":1}"
    ∷ codes "{\"type\":\"enum\",\"name\":\"E\",\"symbols\":[\"A\"],\"default\":null}"
    ∷ codes "{\"type\":\"record\",\"name\":\"R\",\"fields\":[\"f\"]}"
    ∷ codes "{\"type\":\"record\",\"name\":\"R\",\"fields\":[{\"name\":\"f\"}]}"
    ∷ [])
unfolding serde_json_on_literals
invalid_declarations = refl

-- unions
invalid_unions : AllHave SchemaError.InvalidUnion (codes "[]"
    ∷ codes "[\"int\",\"int\"]"
    ∷ codes "[\"int\",[\"null\"]]"
    ∷ codes "[{\"type\":\"fixed\",\"name\":\"F\",\"size\":1},\"F\"]"
    ∷ [])
unfolding serde_json_on_literals
invalid_unions = refl

-- symbols
invalid_symbols : AllHave SchemaError.InvalidSymbols (codes "{\"type\":\"enum\",\"name\":\"E\",\"symbols\":[]}"
    ∷ codes "{\"type\":\"enum\",\"name\":\"E\",\"symbols\":[\"A\",\"A\"]}"
    ∷ codes "{\"type\":\"enum\",\"name\":\"E\",\"symbols\":[\"A\"],\"default\":\"?\"}"
    ∷ [])
unfolding serde_json_on_literals
invalid_symbols = refl

-- fields
fields_twice : AllHave SchemaError.DuplicateField (codes "{\"type\":\"record\",\"name\":\"R\",\"fields\":[{\"name\":\"x\",\"type\":\"int\",\"aliases\":[\"x\"]}]}"
    ∷ codes "{\"type\":\"record\",\"name\":\"R\",\"fields\":[{\"name\":\"x\",\"type\":\"int\"},{\"name\":\"x\",\"type\":\"int\"}]}"
    ∷ [])
unfolding serde_json_on_literals
fields_twice = refl

-- limits
too_long_fixed : faults_by (codes "{\"type\":\"fixed\",\"name\":\"F\",\"size\":1048577}")
    ≡ Some (SchemaError.LimitExceeded ∷ [])
unfolding serde_json_on_literals
too_long_fixed = refl

-- numbers that are not whole, also where nothing looks at them
unsupported_numbers : AllHave SchemaError.UnsupportedNumber (codes "{\"type\":\"int\",\"doc\":[1.0]}"
    ∷ codes "{\"type\":\"fixed\",\"name\":\"F\",\"size\":1e3}"
    ∷ codes "{\"type\":\"int\",\"x\":18446744073709551616}"
    ∷ codes "{\"type\":\"fixed\",\"name\":\"F\",\"size\":-0}"
    ∷ [])
unfolding serde_json_on_literals
unsupported_numbers = refl

-- several faults
three_faults : faults_by (codes "[\"Foo\",{\"type\":\"float\"},{\"type\":\"fixed\",\"name\":\"F\"}]")
    ≡ Some (SchemaError.UnknownName ∷ SchemaError.UnsupportedType ∷ SchemaError.InvalidDeclaration ∷ [])
unfolding serde_json_on_literals
three_faults = refl
