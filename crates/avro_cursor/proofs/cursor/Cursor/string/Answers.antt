use Rattle.std.proofs.Common.{refl, take}
use Rattle.std.specs.Str.{is_utf8}
use Rattle.std.proofs.lemmas.Result.{err_from_is_err_and}
use Rattle.avro_cursor.specs.Breaks.{StringBreaks}
use Rattle.avro_cursor.specs.Elements.{IsString}
use Rattle.avro_cursor.proofs.public.ElementLaws.{element_found, element_refused, content_part}
use Rattle.avro_cursor.proofs.CursorSteps.{content_is}
use Rattle.avro_cursor.proofs.cursor.Cursor.string.Goals as goal

pub returns : goal.returns
returns c =
    let now = c.args.self.now in
    element_found (λ text. text.now) (IsString now.blob) (StringBreaks now.blob) (content_part is_utf8 now.blob) now c.pass.new.self c.in_ok-text.text
    (take c.in_ok-text.len now.bytes) (content_is is_utf8 now.blob now.bytes c.in_ok-text.text.now c.in_ok-text.len c.in_ok-text.ensures.stands c.in_ok-text.ensures.valid) c.pass.ensures.passed

pub returns-in_err-text : goal.returns-in_err-text
returns-in_err-text c =
    let now = c.args.self.now in
    let p = err_from_is_err_and c.from_residual.result c.from_residual.ensures.1 in
    let refused = c.in_err-text.ensures.refused in
    rw (p.1, p.2) (element_refused (λ text. text.now) (IsString now.blob) (StringBreaks now.blob) (content_part is_utf8 now.blob) now now c.in_err-text.field-0.0
    refused.0 refused.1 refused.2 refl)
