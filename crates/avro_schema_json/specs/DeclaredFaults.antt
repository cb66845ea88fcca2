-- Which faults are there in a JSON tree that declares no schema (Avro 1.11, "Schema Declaration").
use Rattle.std.specs.Prelude.{not, List, [], ◌∷◌, map, Contains}
use Rattle.avro_schema.specs.Faulty.{faults_of_nodes}
use Rattle.avro_schema.specs.Node.{Node}
use Rattle.serde_json.specs.Data.{Data}
use Rattle.serde_json.specs.Written.{has_float}
use Rattle.avro_schema_json.specs.declared.error.SchemaError.{SchemaError}
use Rattle.avro_schema_json.specs.DeclaredAttributes.{unless}
use Rattle.avro_schema_json.specs.Declares.{made_of}
use Rattle.avro_schema_json.specs.DeclaredSchema.{completed_nodes, are_all_defaults_read}
use Rattle.avro_schema_json.specs.Refusals.{refusal_of_fault}

-- what keeps nodes from being a schema
abbrev pub refusals_of_nodes : List Node → List SchemaError
refusals_of_nodes nodes = map refusal_of_fault (faults_of_nodes nodes)

-- the first of two lists, unless it is empty
abbrev pub or_else : {A : Type 0} → List A → List A → List A
or_else [] ys = ys
or_else (x ∷ xs) ys = x ∷ xs

-- The faults of a tree: those of its numbers, or else of its declarations, or else of its nodes, or else of defaults
-- that are not data.
abbrev pub faults_of : Data → List SchemaError
faults_of tree =
    or_else (unless (not (has_float tree)) SchemaError.UnsupportedNumber)
    (or_else (made_of tree).faults
    (or_else (refusals_of_nodes (completed_nodes (made_of tree).nodes))
    (unless (are_all_defaults_read (made_of tree).nodes) SchemaError.InvalidDefault)))

-- A fault is there. Each comes from one of these places:
-- S2, a reference: its name is not defined before it;
-- S3, a definition: its fullname is defined before it;
-- S4, a name, namespace or alias, where it is read, and a symbol or a field's name, in the rules of its kind;
-- S5, an attribute: it is missing or ill-typed; JSON that is not a schema or not a field;
-- S6, the rules of a union whose edges are good;
-- S7 and S8, the rules of symbols and of field names; S7 also a default that is no symbol;
-- S9, a default that is not a datum;
-- S10, `float`, `double` and `error`;
-- S11, a number that is not whole;
-- S12, a node, a symbol or a byte of a fixed past its limit.
abbrev pub HasFault : Data → SchemaError → Type 0
HasFault tree fault = Contains (faults_of tree) fault
