use Rattle.std.proofs.Common.{◌≡◌, ◌+◌, ◌-◌, true, ℕ, List, ◌∷◌, drop, subst, sym, ◌∙◌, ap, arith}
use Rattle.std.proofs.Math.ListN.{get_or}
use Rattle.std.proofs.lemmas.List.{drop_more}
use Rattle.avro_schema.specs.Empties.{empty_datum, empty_parts, have_measure}
use Rattle.avro_schema.specs.Node.{node_at, field_ids}
use Rattle.avro_schema.specs.Seen.{seen_fields}
use Rattle.avro_schema.specs.declared.schema.Field.{Field}
use Rattle.avro_schema.proofs.empties.empty_fields.Goals as goal

pub loop-left-preserved : goal.loop-left-preserved
loop-left-preserved c = record {
  few = omega (arith, c.loop-left.invariant.few);
  found = λ nodes are.
      let i : ℕ = c.loop-left.left - 1 in
      let fields : List Field = c.args.fields.now in
      let next : i + 1 ≡ c.loop-left.left = omega (arith, c.loop-left-test.true) in
      let field : Field = get_or fields i c.index-fields-left.result in
      let here : drop i fields ≡ field ∷ drop c.loop-left.left fields =
      drop_more fields i c.index-fields-left.result (omega (arith, c.loop-left.invariant.few, c.loop-left-test.true)) ∙ ap (λ (n : ℕ). field ∷ drop n fields) next in
      subst (λ (fs : List Field). have_measure c.in-Some.more.nodes c.in-Some.more.depth (empty_parts (λ id. empty_datum c.in-Some.more.depth nodes (node_at nodes id)) (field_ids (seen_fields fs))) ≡ true)
      (sym here) (c.in-Some.ensures nodes (field_ids (seen_fields (drop c.loop-left.left fields))) are (c.loop-left.invariant.found nodes are));
}

pub returns : goal.returns
returns c = λ nodes are.
    let none : c.loop-left.left ≡ 0 = omega (arith, c.loop-left-test.false) in
    subst (λ (n : ℕ). have_measure c.loop-left.all.nodes c.loop-left.all.depth (empty_parts (λ id. empty_datum c.loop-left.all.depth nodes (node_at nodes id)) (field_ids (seen_fields (drop n c.args.fields.now)))) ≡ true)
    none (c.loop-left.invariant.found nodes are)
