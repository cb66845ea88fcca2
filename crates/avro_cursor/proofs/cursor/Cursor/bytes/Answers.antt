use Rattle.std.proofs.Common.{refl, true, take}
use Rattle.std.proofs.lemmas.Result.{err_from_is_err_and}
use Rattle.avro_cursor.specs.Breaks.{BytesBreaks}
use Rattle.avro_cursor.specs.Elements.{IsBytes}
use Rattle.avro_cursor.proofs.public.ElementLaws.{element_found, element_refused, content_part}
use Rattle.avro_cursor.proofs.CursorSteps.{content_is}
use Rattle.avro_cursor.proofs.cursor.Cursor.bytes.Goals as goal

pub returns : goal.returns
returns c =
    let now = c.args.self.now in
    element_found (λ content. content.now) (IsBytes now.blob) (BytesBreaks now.blob) (content_part (λ content. true) now.blob) now c.pass.new.self c.in_ok-content.content
    (take c.in_ok-content.len now.bytes) (content_is (λ content. true) now.blob now.bytes c.in_ok-content.content.now c.in_ok-content.len c.in_ok-content.ensures.stands refl) c.pass.ensures.passed

pub returns-in_err-content : goal.returns-in_err-content
returns-in_err-content c =
    let now = c.args.self.now in
    let p = err_from_is_err_and c.from_residual.result c.from_residual.ensures.1 in
    let refused = c.in_err-content.ensures.refused (λ content. true) in
    rw (p.1, p.2) (element_refused (λ content. content.now) (IsBytes now.blob) (BytesBreaks now.blob) (content_part (λ content. true) now.blob) now now c.in_err-content.field-0.0
    refused.0 refused.1 refused.2 refl)
