use Rattle.std.proofs.Common.{◌≡◌, ◌<◌, pos, ℤ, take, refl, subst, arith, Some, None}
use Rattle.std.proofs.lemmas.Result.{err_from_is_err_and}
use Rattle.avro_zigzag.specs.Number.{SpellsLong}
use Rattle.avro_cursor.specs.Breaks.{counted}
use Rattle.avro_cursor.specs.BlockHeads.{signed_count}
use Rattle.avro_cursor.proofs.public.HeadLaws.{head_found, head_refused}
use Rattle.avro_cursor.proofs.cursor.Cursor.head.Goals as goal

pub returns-in_err-is_sized : goal.returns-in_err-is_sized
returns-in_err-is_sized c =
    let p = err_from_is_err_and c.from_residual.result c.from_residual.ensures.1 in
    let refused = c.in_err-is_sized.ensures.refused in
    rw (p.1, p.2) (head_refused c.args.self.now c.in_err-is_sized.field-0.0 refused.0 refused.1 refused.2)

pub returns-then-count-eq0 : goal.returns-then-count-eq0
returns-then-count-eq0 c =
    let now = c.args.self.now in
    let stands = c.in_ok-is_sized.ensures.stands in
    let number : signed_count c.in_ok-is_sized.is_sized c.in_ok-is_sized.count ≡ pos 0 = (λ i. signed_count (c.if-is_sized.false i) (c.if-count-eq0.true i)) in
    head_found now c.pass.new.self None None (take c.in_ok-is_sized.len now.bytes)
    (subst (λ (v : ℤ). SpellsLong v (take c.in_ok-is_sized.len now.bytes)) number stands.spelled) c.pass.ensures.passed tt

pub returns : goal.returns
returns c =
    let now = c.args.self.now in
    let count = c.in_ok-is_sized.ensures in
    let not_zero = c.if-count-eq0.false in
    let number : signed_count c.in_ok-is_sized.is_sized c.in_ok-is_sized.count ≡ pos c.in_ok-is_sized.count = (λ i. signed_count (c.if-is_sized.false i) c.in_ok-is_sized.count) in
    let front = take c.in_ok-is_sized.len now.bytes in
    let some : 0 < c.in_ok-is_sized.count = omega arith in
    head_found now c.pass.new.self (Some (counted c.in_ok-is_sized.count front)) _ front
    ((some, count.small, count.within, subst (λ (v : ℤ). SpellsLong v front) number count.stands.spelled), refl) c.pass.ensures.passed (refl, refl)
