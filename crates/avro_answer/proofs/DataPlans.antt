-- What holds of a plan's schemas, by what a data plan keeps.
use Rattle.std.proofs.Common.{◌≡◌, ◌∙◌, List, Option, Some, None, sym, ap, subst}
use Rattle.std.specs.Prelude.{option_map}
use Rattle.std.specs.Option.{IfSome}
use Rattle.avro_schema.specs.Node.{Node}
use Rattle.avro_schema.specs.SeenSchema.{schema_nodes}
use Rattle.avro_schema.specs.declared.schema.Schema.{Schema}
use Rattle.avro_answer.specs.ReadAnswer.{nodes_for}

-- what contracts see
abbrev pub seen_plan : Schema → Option (Schema × Schema) → Schema × Option Schema
seen_plan w o = (w, option_map (λ q. q.1) o)

module _ (P : List Node → Option (List Node) → Type 0) (w : Schema) (view : Schema × Option Schema) where
  pub in_seen : (o : Option (Schema × Schema)) → seen_plan w o ≡ view → P (schema_nodes w) (option_map schema_nodes (option_map (λ q. q.1) o))
      → P (schema_nodes view.0) (option_map schema_nodes view.1)
  in_seen o seen h = subst (λ (v : Schema × Option Schema). P (schema_nodes v.0) (option_map schema_nodes v.1)) seen h

  -- for a reader
  pub in_plan : (o : Option (Schema × Schema)) (q : Schema × Schema) → seen_plan w o ≡ view → o ≡ Some q → IfSome o (λ q. q.0 ≡ w)
      → P (schema_nodes q.0) (Some (schema_nodes q.1)) → P (schema_nodes view.0) (option_map schema_nodes view.1)
  in_plan o q seen is of_writer h = in_seen o seen
      (subst (λ (x : Option (Schema × Schema)). P (schema_nodes w) (option_map schema_nodes (option_map (λ q. q.1) x))) (sym is)
      (subst (λ (s : Schema). P (schema_nodes s) (Some (schema_nodes q.1))) (subst (λ (x : Option (Schema × Schema)). IfSome x (λ q. q.0 ≡ w)) is of_writer) h))

  -- without one
  pub in_none : (o : Option (Schema × Schema)) → seen_plan w o ≡ view → o ≡ None → P (schema_nodes w) None → P (schema_nodes view.0) (option_map schema_nodes view.1)
  in_none o seen is h = in_seen o seen (subst (λ (x : Option (Schema × Schema)). P (schema_nodes w) (option_map schema_nodes (option_map (λ q. q.1) x))) (sym is) h)

-- whose schema the table has
module _ (w : Schema) (nodes : List Node) (o : Option (Schema × Schema)) (table : nodes ≡ nodes_for (schema_nodes w) (option_map schema_nodes (option_map (λ q. q.1) o))) where
  pub table_for : (q : Schema × Schema) → o ≡ Some q → nodes ≡ schema_nodes q.1
  table_for q is = table ∙ ap (λ (x : Option (Schema × Schema)). nodes_for (schema_nodes w) (option_map schema_nodes (option_map (λ q. q.1) x))) is

  pub table_plain : o ≡ None → nodes ≡ schema_nodes w
  table_plain is = table ∙ ap (λ (x : Option (Schema × Schema)). nodes_for (schema_nodes w) (option_map schema_nodes (option_map (λ q. q.1) x))) is
