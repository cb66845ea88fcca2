use Rattle.std.proofs.Common.{◌<◌, ◌≤◌, ap, inl, inr, refl, arith, length}
use Rattle.avro_cursor.specs.Breaks.{FixedBreaks}
use Rattle.avro_cursor.specs.Elements.{IsFixed}
use Rattle.avro_cursor.specs.CursorValue.{CursorValue}
use Rattle.avro_cursor.specs.Fault.{limit_exceeded, end_of_input}
use Rattle.avro_cursor.specs.declared.error.ReadError.{ReadError}
use Rattle.avro_cursor.proofs.public.ElementLaws.{element_refused, fixed_part}
use Rattle.avro_cursor.proofs.CursorSteps.{from_front}
use Rattle.avro_cursor.proofs.cursor.Cursor.fixed.Goals as goal

pub returns-then-size-self : goal.returns-then-size-self
returns-then-size-self c =
    let blob = ap (λ (v : CursorValue). v.blob) c.self.view_is in
    let over : c.args.self.now.blob < c.args.size = omega arith in
    element_refused (λ content. content.now) (IsFixed c.args.size c.args.self.now.blob) (FixedBreaks c.args.size c.args.self.now.blob)
    (fixed_part c.args.size c.args.self.now.blob) c.args.self.now c.args.self.now ReadError.LimitExceeded limit_exceeded (inl (over, refl)) refl refl

pub returns-then-size-rest : goal.returns-then-size-rest
returns-then-size-rest c =
    let blob = ap (λ (v : CursorValue). v.blob) c.self.view_is in
    let rest = ap length c.rest.ensures in
    let under : c.args.size ≤ c.args.self.now.blob = omega arith in
    let short : length c.args.self.now.bytes < c.args.size = omega arith in
    element_refused (λ content. content.now) (IsFixed c.args.size c.args.self.now.blob) (FixedBreaks c.args.size c.args.self.now.blob)
    (fixed_part c.args.size c.args.self.now.blob) c.args.self.now c.args.self.now (ReadError.EndOfInput c.offset.result) (end_of_input 0)
    (inr (under, short, refl)) (from_front end_of_input c.args.self.now.offset c.offset.result c.offset.ensures) refl
