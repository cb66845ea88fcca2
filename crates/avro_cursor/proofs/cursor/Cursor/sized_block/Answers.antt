use Rattle.std.proofs.Common.{◌≡◌, ◌+◌, ◌-◌, ℕ, ℤ, ◌++◌, length, take, drop, refl, sym, ap, ◌∙◌, subst, arith, Some, length-take-le, length-drop}
use Rattle.std.proofs.lemmas.Result.{err_from_is_err_and}
use Rattle.avro_zigzag.specs.Number.{SpellsLong}
use Rattle.avro_cursor.specs.Breaks.{sized}
use Rattle.avro_cursor.proofs.public.HeadLaws.{head_found, head_refused, negated, take_both, long-below}
use Rattle.avro_cursor.proofs.cursor.Cursor.sized_block.Goals as goal

pub returns-in_err-bytes : goal.returns-in_err-bytes
returns-in_err-bytes c =
    let now = c.args.self.now in
    let p = err_from_is_err_and c.from_residual.result c.from_residual.ensures.1 in
    let k = negated c.args.count c.requires.some in
    let count = k.1 in
    let within = c.requires.within in
    let small = c.requires.small in
    let refused = c.in_err-bytes.ensures.refused k.0 (subst (λ (v : ℤ). SpellsLong v (take c.args.len now.bytes)) k.2 c.requires.spelled) (omega arith) (omega arith) in
    rw (p.1, p.2) (head_refused now c.in_err-bytes.field-0.0 refused.0 refused.1 refused.2)

pub returns : goal.returns
returns c =
    let now = c.args.self.now in
    let len = c.args.len in
    let both = c.in_ok-bytes.both in
    let inside = c.in_ok-bytes.ensures.inside in
    let stands = c.in_ok-bytes.ensures.stands in
    let size_bytes = take (both - len) (drop len now.bytes) in
    let front : take both now.bytes ≡ take len now.bytes ++ size_bytes = take_both len both now.bytes inside.0 in
    let count_length = length-take-le len now.bytes c.requires.inside in
    let size_length = length-take-le (both - len) (drop len now.bytes) (omega (arith, length-drop len now.bytes, inside.1)) in
    let at_size : c.offset_behind-offset.result ≡ now.offset + length (take len now.bytes) = c.offset_behind-offset.ensures ∙ ap (λ (n : ℕ). now.offset + n) (sym count_length) in
    let at_items : c.offset_behind-items.result ≡ now.offset + length (take len now.bytes) + length size_bytes =
    let e = c.offset_behind-items.ensures in omega (arith, count_length, size_length, inside.0) in
    head_found now c.pass.new.self (Some (sized c.args.count c.in_ok-bytes.bytes (take len now.bytes) size_bytes)) _ (take both now.bytes)
    ((c.requires.some, c.requires.small, c.requires.within, long-below c.in_ok-bytes.bytes stands.in_range, c.requires.spelled, stands.spelled), front)
    c.pass.ensures.passed (refl, λ i. Some (record { bytes = c.in_ok-bytes.bytes; offset = at_size i; items = at_items i }))
