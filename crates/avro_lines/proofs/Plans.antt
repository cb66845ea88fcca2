-- What is read by the plan is read for the reader, and shown by its schema.
use Rattle.std.proofs.Common.{◌≡◌, List, Option, Some, None, sym, ap, subst, ◌∙◌}
use Rattle.std.specs.Prelude.{option_map, unwrap_or}
use Rattle.std.proofs.lemmas.Option.{none-some, same_Some}
use Rattle.avro_schema.specs.Node.{Node}
use Rattle.avro_schema.specs.SeenSchema.{schema_nodes}
use Rattle.avro_schema.specs.declared.schema.Schema.{Schema}
use Rattle.avro_file.specs.DataRead.{read_nodes}

-- what is said of the writer and the reader of a plan
pub planned-said : (P : List Node → Option (List Node) → Type 0) (schema : Schema) (reader : Option Schema) (plan : Schema × Schema)
    → Some plan ≡ option_map (λ r. (schema, r)) reader → P (schema_nodes plan.0) (Some (schema_nodes plan.1))
    → P (schema_nodes schema) (option_map schema_nodes reader)
planned-said P schema None plan e said = absurd (none-some plan (sym e))
planned-said P schema (Some r) plan e said =
    subst (λ (p : Schema × Schema). P (schema_nodes p.0) (Some (schema_nodes p.1))) (same_Some _ _ e) said

-- what is said of a schema where there is no plan
pub alone-said : (P : List Node → Option (List Node) → Type 0) (schema : Schema) (reader : Option Schema) → ◌≡◌ {A = Option (Schema × Schema)} None (option_map (λ r. (schema, r)) reader)
    → P (schema_nodes schema) None → P (schema_nodes schema) (option_map schema_nodes reader)
alone-said P schema None e said = said
alone-said P schema (Some r) e said = let pair : Schema × Schema = (schema, r) in absurd (none-some pair e)

-- the schema that is shown
pub table-planned : (schema table : Schema) (reader : Option Schema) (plan : Schema × Schema) → Some plan ≡ option_map (λ r. (schema, r)) reader
    → table ≡ unwrap_or reader schema → schema_nodes table ≡ schema_nodes plan.1
table-planned schema table None plan e shown = absurd (none-some plan (sym e))
table-planned schema table (Some r) plan e shown = ap schema_nodes (shown ∙ ap (λ (p : Schema × Schema). p.1) (sym (same_Some _ _ e)))

pub table-alone : (schema table : Schema) (reader : Option Schema) → ◌≡◌ {A = Option (Schema × Schema)} None (option_map (λ r. (schema, r)) reader) → table ≡ unwrap_or reader schema
    → schema_nodes table ≡ schema_nodes schema
table-alone schema table None e shown = ap schema_nodes shown
table-alone schema table (Some r) e shown = let pair : Schema × Schema = (schema, r) in absurd (none-some pair e)

pub table-shown : (schema table : Schema) (reader : Option Schema) → table ≡ unwrap_or reader schema
    → schema_nodes table ≡ read_nodes (schema_nodes schema) (option_map schema_nodes reader)
table-shown schema table None shown = ap schema_nodes shown
table-shown schema table (Some r) shown = ap schema_nodes shown
