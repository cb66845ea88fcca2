use Rattle.std.proofs.Common.{ap, ◌∙◌}
use Rattle.std.specs.Str.{is_utf8}
use Rattle.avro_cursor.proofs.CursorSteps.{content_invalid}
use Rattle.avro_cursor.proofs.cursor.Cursor.text.Goals as goal

pub returns-in-Ok-clause-valid : goal.returns-in-Ok-clause-valid
returns-in-Ok-clause-valid c = let text = c.in-Ok.ensures.text in ap is_utf8 text.0 ∙ text.1

pub returns-in-Err-clause-refused : goal.returns-in-Err-clause-refused
returns-in-Err-clause-refused c =
    let now = c.args.self.now in
    content_invalid is_utf8 now.blob now.bytes c.in_ok-content.content.now c.in_ok-content.len now.offset c.offset_behind.result c.in_ok-content.ensures.stands
    c.in-Err.ensures.fault.0 c.offset_behind.ensures
