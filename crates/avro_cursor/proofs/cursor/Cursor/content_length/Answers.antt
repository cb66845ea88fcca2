use Rattle.std.proofs.Common.{◌≡◌, ℕ, ap, ◌∙◌, refl, rules, arith, w64, FitsSigned, ◌<ℤ◌, ℤ, true, pos, Some, subst, List, take, drop}
use Rattle.std.proofs.lemmas.Int.{to_z-of_z, ints}
use lib.Signed.{lt_z}
use Rattle.avro_zigzag.specs.NumberFault.{LongFails}
use Rattle.avro_cursor.specs.Breaks.{StartsWithLong, number_fault, length_breaks}
use Rattle.avro_cursor.specs.CursorValue.{CursorValue}
use Rattle.avro_cursor.specs.Fault.{invalid_length, limit_exceeded, behind}
use Rattle.avro_cursor.proofs.CursorSteps.{starts_with_long, length_negative, length_over, from_front}
use Rattle.avro_cursor.proofs.cursor.Cursor.content_length.Goals as goal

pub returns-then-count-lt0-clause-refused : goal.returns-then-count-lt0-clause-refused
returns-then-count-lt0-clause-refused c = λ is_content.
    let read = c.in-Ok.ensures in
    let bytes = c.args.self.now.bytes in
    let len = c.in-Ok.len in
    let fits : FitsSigned w64 c.in-Ok.count = search rules in
    let test : lt_z c.in-Ok.count (pos 0) ≡ true = rw (to_z-of_z w64 c.in-Ok.count fits) at c.if-count-lt0.true in
    let below : c.in-Ok.count <ℤ pos 0 = grind (arith, ints) in
    let starts : StartsWithLong c.in-Ok.count bytes (take len bytes) (drop len bytes) = starts_with_long c.in-Ok.count bytes len (rw (← c.rest.ensures) read.found.1) read.in_range in (
      invalid_length 0,
      length_negative is_content c.args.self.now.blob bytes c.in-Ok.count (take len bytes) (drop len bytes) starts below,
      from_front invalid_length c.args.self.now.offset c.offset.result c.offset.ensures,
    )

pub returns-then-count-from-clause-refused : goal.returns-then-count-from-clause-refused
returns-then-count-from-clause-refused c = λ is_content.
    let read = c.in-Ok.ensures in
    let bytes = c.args.self.now.bytes in
    let len = c.in-Ok.len in
    let fits : FitsSigned w64 c.in-Ok.count = search rules in
    let limit_fits : FitsSigned w64 c.from.result = search rules in
    let limit : c.from.result ≡ pos c.args.self.now.blob = c.from.ensures ∙ ap (λ (v : CursorValue). pos v.blob) c.self.view_is in
    let test : lt_z c.from.result c.in-Ok.count ≡ true = rw (to_z-of_z w64 c.in-Ok.count fits, to_z-of_z w64 c.from.result limit_fits) at c.if-count-from.true in
    let above : pos c.args.self.now.blob <ℤ c.in-Ok.count = subst (λ (v : ℤ). v <ℤ c.in-Ok.count) limit (grind (arith, ints)) in
    let starts : StartsWithLong c.in-Ok.count bytes (take len bytes) (drop len bytes) = starts_with_long c.in-Ok.count bytes len (rw (← c.rest.ensures) read.found.1) read.in_range in
    (limit_exceeded, length_over is_content c.args.self.now.blob bytes c.in-Ok.count (take len bytes) (drop len bytes) starts above, refl)

pub returns-in-Err-clause-refused : goal.returns-in-Err-clause-refused
returns-in-Err-clause-refused c = λ is_content. (
  number_fault c.in-Err.error,
  length_breaks (c.in-Err.error, subst (λ (b : List ℕ). LongFails b c.in-Err.error) c.rest.ensures c.in-Err.ensures.refused, refl),
  c.number_error.ensures ∙ ap (λ (n : ℕ). Some (behind n (number_fault c.in-Err.error))) c.offset-in-Err.ensures,
)
