use Rattle.std.proofs.Common.{◌≡◌, ◌+◌, ℕ, ap, sym, ◌∙◌, refl, rules, arith, w64, FitsSigned, ◌<ℤ◌, true, pos, Some, subst, List, length, take, drop, length-take-le}
use Rattle.std.proofs.lemmas.Int.{to_z-of_z, ints}
use lib.Signed.{lt_z}
use Rattle.avro_zigzag.specs.NumberFault.{LongFails}
use Rattle.avro_cursor.specs.Breaks.{StartsWithLong, number_fault}
use Rattle.avro_cursor.specs.Fault.{ReadFault, invalid_length, behind}
use Rattle.avro_cursor.proofs.CursorSteps.{starts_with_long}
use Rattle.avro_cursor.proofs.public.HeadLaws.{size_below, size_failed}
use Rattle.avro_cursor.proofs.public.Behind.{behind-add}
use Rattle.avro_cursor.proofs.cursor.Cursor.block_size.Goals as goal

pub returns-then-size-lt0-clause-refused : goal.returns-then-size-lt0-clause-refused
returns-then-size-lt0-clause-refused c = λ n spelled small few.
    let read = c.in-Ok.ensures in
    let now = c.args.self.now in
    let len = c.args.len in
    let fits : FitsSigned w64 c.in-Ok.size = search rules in
    let test : lt_z c.in-Ok.size (pos 0) ≡ true = rw (to_z-of_z w64 c.in-Ok.size fits) at c.if-size-lt0.true in
    let below : c.in-Ok.size <ℤ pos 0 = grind (arith, ints) in
    let back : c.split_at.result.1.now ≡ drop len now.bytes = c.split_at.ensures.back ∙ ap (λ (k : List ℕ). drop len k) c.rest.ensures in
    let starts : StartsWithLong c.in-Ok.size (drop len now.bytes) (take c.in-Ok.more (drop len now.bytes)) (drop c.in-Ok.more (drop len now.bytes)) =
    starts_with_long c.in-Ok.size (drop len now.bytes) c.in-Ok.more (rw (← back) read.found.1) read.in_range in (
      invalid_length (length (take len now.bytes)),
      size_below now.nodes now.bytes n len c.in-Ok.size _ _ spelled (omega arith) few starts below,
      ap (λ (k : ℕ). Some (invalid_length k)) (c.offset_behind.ensures ∙ ap (λ (k : ℕ). now.offset + k) (sym (length-take-le len now.bytes c.requires))),
    )

pub returns-in-Err-clause-refused : goal.returns-in-Err-clause-refused
returns-in-Err-clause-refused c = λ n spelled small few.
    let now = c.args.self.now in
    let len = c.args.len in
    let back : c.split_at.result.1.now ≡ drop len now.bytes = c.split_at.ensures.back ∙ ap (λ (k : List ℕ). drop len k) c.rest.ensures in
    let fault = number_fault c.in-Err.error in
    let at : c.offset_behind-in-Err.result ≡ now.offset + length (take len now.bytes) = c.offset_behind-in-Err.ensures ∙ ap (λ (k : ℕ). now.offset + k) (sym (length-take-le len now.bytes c.requires)) in (
      behind (length (take len now.bytes)) fault,
      size_failed now.nodes now.bytes n len fault spelled (omega arith) few
          (c.in-Err.error, subst (λ (b : List ℕ). LongFails b c.in-Err.error) back c.in-Err.ensures.refused, refl),
      c.number_error.ensures ∙ ap (λ (k : ℕ). Some (behind k fault)) at ∙ ap (λ (f : ReadFault). Some f) (behind-add now.offset (length (take len now.bytes)) fault),
    )
