-- No two verdicts hold of the same schemas.
use Rattle.std.proofs.Common.{◌≤◌, ℕ, List, arith}
use Rattle.avro_schema.specs.Node.{Node}
use Rattle.avro_schema.specs.Value.{Value, size, depth}
use Rattle.avro_certificate.specs.Compatible.{AreCompatible, IsLeastToErr, ErrsOnlyAbove, ErrsLeastDeep}

module _ (writer reader : List Node) where
  pub not_above : (limit : ℕ) → AreCompatible writer reader → ErrsOnlyAbove writer reader limit → ⊥
  not_above limit h above = h above.some.0 above.some.1.0 above.some.1.1

  pub not_deep : (limit deepest : ℕ) → AreCompatible writer reader → ErrsLeastDeep writer reader limit deepest → ⊥
  not_deep limit deepest h deep = h deep.some.0 deep.some.1.errs.0 deep.some.1.errs.1

  pub not_both : (limit deepest : ℕ) → ErrsOnlyAbove writer reader limit → ErrsLeastDeep writer reader limit deepest → ⊥
  not_both limit deepest above deep = omega (arith, above.above deep.some.0 deep.some.1.errs.0 deep.some.1.errs.1, deep.some.2)

  pub least_not_above : (limit : ℕ) (v : Value) → IsLeastToErr writer reader v → size v ≤ limit → ErrsOnlyAbove writer reader limit → ⊥
  least_not_above limit v least few above = omega (arith, few, above.above v least.errs.0 least.errs.1)

  pub least_not_deep : (limit deepest : ℕ) (v : Value) → IsLeastToErr writer reader v → depth v ≤ deepest → ErrsLeastDeep writer reader limit deepest → ⊥
  least_not_deep limit deepest v least flat deep = omega (arith, flat, deep.deep v least)

  pub not_least : (v : Value) → AreCompatible writer reader → IsLeastToErr writer reader v → ⊥
  not_least v h least = h v least.errs.0 least.errs.1
