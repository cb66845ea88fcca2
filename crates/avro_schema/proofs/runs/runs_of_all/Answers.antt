use Rattle.std.proofs.Common.{◌≡◌, ◌+◌, ◌-◌, ◌∷◌, true, ℕ, List, drop, sym, subst, ◌∙◌, ap, arith}
use Rattle.std.proofs.Math.ListN.{get_or}
use Rattle.avro_schema.specs.Node.{field_ids}
use Rattle.avro_schema.specs.Runs.{is_run}
use Rattle.avro_schema.specs.Seen.{seen_fields}
use Rattle.avro_schema.specs.declared.schema.Field.{Field}
use Rattle.avro_schema.proofs.RunData.{ids_from}
use Rattle.avro_schema.proofs.runs.runs_of_all.Goals as goal

pub loop-left-preserved : goal.loop-left-preserved
loop-left-preserved c =
    let left : ℕ = c.loop-left.left in
    let ids : List ℕ = field_ids (seen_fields c.args.fields.now) in
    let next : left - 1 + 1 ≡ left = omega (arith, c.loop-left-test.true) in
    let field : Field = get_or c.args.fields.now (left - 1) c.index-fields-left.result in
    let here : drop (left - 1) ids ≡ field.node.0 ∷ drop left ids =
    ids_from c.args.fields.now (left - 1) c.index-fields-left.result (omega (arith, c.loop-left.invariant.few, c.loop-left-test.true))
    ∙ ap (λ (n : ℕ). field.node.0 ∷ drop n ids) next in record {
      few = omega (arith, c.loop-left.invariant.few);
      next = λ nodes are. subst (λ (rest : List ℕ). is_run nodes rest c.before-run.result ≡ true) (sym here)
          (c.before-run.ensures nodes (drop left ids) are (c.loop-left.invariant.next nodes are));
      kept = λ nodes are. c.put.ensures nodes ids (c.loop-left.invariant.kept nodes are)
          (subst (λ (rest : List ℕ). is_run nodes rest c.before-run.result ≡ true) (sym here)
          (c.before-run.ensures nodes (drop left ids) are (c.loop-left.invariant.next nodes are)));
    }
