use Rattle.std.proofs.Common.{◌+◌, ℕ, [], ◌∷◌, length, ◌∙◌, ap, subst}
use Rattle.std.proofs.lemmas.List.{length-append}
use Rattle.avro_schema.specs.Node.{Node}
use Rattle.avro_schema.specs.SeenSchema.{schema_nodes}
use Rattle.avro_least.specs.SeenLeast.{table_of}
use Rattle.avro_least.specs.inside.Parts.{nodes_of, AreOthersOf}
use Rattle.avro_least.proofs.Others.{others_more_nodes}
use Rattle.avro_least.proofs.pairs.parts.others.Goals as goal

pub loop-i-preserved : goal.loop-i-preserved
loop-i-preserved c =
    let inv = c.loop-i.invariant in record {
      one_each = ap length c.in_ok-push.ensures.items ∙ length-append c.loop-i.rows.items (c.in_ok-others_of_node.field-0 ∷ []) ∙ ap (λ (n : ℕ). n + 1) inv.one_each;
      each = others_more_nodes (schema_nodes c.args.writer.now) c.args.limit (table_of c.args.table.now) c.loop-i.rows.items _ c.in_ok-others_of_node.field-0 c.loop-i.i
          c.in_ok-push.ensures.items inv.one_each
          (subst (λ (n : Node). AreOthersOf c.args.limit (table_of c.args.table.now) (nodes_of n) c.in_ok-others_of_node.field-0.items) c.node-node.ensures c.in_ok-others_of_node.ensures) inv.each;
    }
