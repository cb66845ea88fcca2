use Rattle.std.proofs.Common.{◌≡◌, ◌≢◌, ◌<◌, ◌^◌, ◌-◌, ℕ, ap, sym, ◌∙◌, refl, rules, w64, FitsSigned, to_z, of_z, negsuc, nat_abs, Some, subst, List, take, drop}
use Rattle.std.proofs.lemmas.Int.{to_z-of_z}
use Rattle.avro_zigzag.specs.NumberFault.{LongFails}
use Rattle.avro_cursor.specs.Breaks.{StartsWithLong, number_fault, count_fails, count_over}
use Rattle.avro_cursor.specs.CursorValue.{CursorValue}
use Rattle.avro_cursor.specs.Fault.{invalid_length, limit_exceeded, behind}
use Rattle.avro_cursor.proofs.CursorSteps.{starts_with_long, from_front}
use Rattle.avro_cursor.proofs.public.HeadLaws.{least_count}
use Rattle.avro_cursor.proofs.cursor.Cursor.block_count.Goals as goal

pub returns-then-count-clause-refused : goal.returns-then-count-clause-refused
returns-then-count-clause-refused c =
    let read = c.in-Ok.ensures in
    let bytes = c.args.self.now.bytes in
    let len = c.in-Ok.len in
    let fits : FitsSigned w64 c.in-Ok.count = search rules in
    let same = to_z-of_z w64 c.in-Ok.count fits in
    let least : c.in-Ok.count ≡ negsuc (2 ^ 63 - 1) = sym same ∙ ap (to_z w64) c.if-count.true in
    let starts : StartsWithLong c.in-Ok.count bytes (take len bytes) (drop len bytes) = starts_with_long c.in-Ok.count bytes len (rw (← c.rest.ensures) read.found.1) read.in_range in (
      invalid_length 0,
      least_count c.args.self.now.nodes bytes c.in-Ok.count (take len bytes) (drop len bytes) starts least,
      from_front invalid_length c.args.self.now.offset c.offset.result c.offset.ensures,
    )

pub returns-then-magnitude-from-clause-refused : goal.returns-then-magnitude-from-clause-refused
returns-then-magnitude-from-clause-refused c =
    let read = c.in-Ok.ensures in
    let bytes = c.args.self.now.bytes in
    let len = c.in-Ok.len in
    let fits : FitsSigned w64 c.in-Ok.count = search rules in
    let same = to_z-of_z w64 c.in-Ok.count fits in
    let other : c.in-Ok.count ≢ negsuc (2 ^ 63 - 1) = λ e. c.if-count.false (ap (of_z w64) e) in
    let magnitude : c.unsigned_abs-magnitude.result ≡ nat_abs c.in-Ok.count = c.unsigned_abs-magnitude.ensures.value ∙ ap nat_abs same in
    let nodes : c.from.result ≡ c.args.self.now.nodes = c.from.ensures ∙ ap (λ (v : CursorValue). v.nodes) c.self.view_is in
    let over : c.args.self.now.nodes < nat_abs c.in-Ok.count = subst (λ (n : ℕ). n < nat_abs c.in-Ok.count) nodes (subst (λ (n : ℕ). c.from.result < n) magnitude c.if-magnitude-from.true) in
    let starts : StartsWithLong c.in-Ok.count bytes (take len bytes) (drop len bytes) = starts_with_long c.in-Ok.count bytes len (rw (← c.rest.ensures) read.found.1) read.in_range in
    (limit_exceeded, count_over c.in-Ok.count (take len bytes) (drop len bytes) starts other over, refl)

pub returns-in-Err-clause-refused : goal.returns-in-Err-clause-refused
returns-in-Err-clause-refused c = (
  number_fault c.in-Err.error,
  count_fails (c.in-Err.error, subst (λ (b : List ℕ). LongFails b c.in-Err.error) c.rest.ensures c.in-Err.ensures.refused, refl),
  c.number_error.ensures ∙ ap (λ (n : ℕ). Some (behind n (number_fault c.in-Err.error))) c.offset-in-Err.ensures,
)
