use Rattle.std.proofs.Common.{ℕ, arith, length, sym, ◌∙◌, subst}
use Rattle.std.proofs.lemmas.Bool.{eqb-true}
use Rattle.avro_certificate.proofs.Decimal.{Begins, begins_more, no_digit, no_leading_zero, no_empty, begins_whole}
use Rattle.avro_certificate.proofs.lines.number_of.Goals as goal

pub returns-then-not-is_ascii_digit : goal.returns-then-not-is_ascii_digit
returns-then-not-is_ascii_digit c = grind (arith, no_digit)

pub loop-i-preserved : goal.loop-i-preserved
loop-i-preserved c = grind (arith, begins_more)

pub returns-then-is_empty : goal.returns-then-is_empty
returns-then-is_empty c = λ n. no_empty c.args.numeral.now n (eqb-true (length c.args.numeral.now) 0 (sym c.is_empty.ensures ∙ c.if-is_empty.true))

pub returns-then-number-eq0 : goal.returns-then-number-eq0
returns-then-number-eq0 c = λ n. no_leading_zero c.args.numeral.now c.loop-i.i n c.if-i-gt0.true c.loop-i-test.true
    (subst (λ (k : ℕ). Begins c.args.numeral.now c.loop-i.i k) c.if-number-eq0.true c.loop-i.invariant)

pub returns-else-is_empty : goal.returns-else-is_empty
returns-else-is_empty c = grind (arith, begins_whole)
