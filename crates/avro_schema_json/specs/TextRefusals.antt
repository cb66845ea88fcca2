-- Which refusals of a text are returned.
use Rattle.std.specs.Prelude.{◌≡◌, ◌⊎◌, ◌<◌, ℕ, List, length}
use Rattle.serde_json.specs.Data.{Data}
use Rattle.avro_schema_json.specs.declared.error.SchemaError.{SchemaError}
use Rattle.avro_schema_json.specs.Declaration.{max_text, HasTree}
use Rattle.avro_schema_json.specs.DeclaredFaults.{HasFault}

-- memory; no JSON; too long a text; or a fault that is there in the text's tree
abbrev pub IsRefusalOf : List ℕ → SchemaError → Type 0
IsRefusalOf text e =
    (e ≡ SchemaError.OutOfMemory) ⊎ (e ≡ SchemaError.NotJson) ⊎ ((e ≡ SchemaError.LimitExceeded) × (max_text < length text))
    ⊎ ((tree : Data) × HasTree text tree × HasFault tree e)
