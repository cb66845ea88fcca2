use Rattle.std.proofs.lemmas.Str.{is_utf8-from_IsUtf8}
use Rattle.avro_cursor.proofs.CursorSteps.{not_utf8}
use Rattle.avro_cursor.proofs.text.text_of.Goals as goal

pub returns-in-Ok-clause-text : goal.returns-in-Ok-clause-text
returns-in-Ok-clause-text c = (c.in-Ok.ensures.cases.0, is_utf8-from_IsUtf8 c.args.bytes.now c.in-Ok.ensures.cases.1)

pub returns-in-Err-clause-fault : goal.returns-in-Err-clause-fault
returns-in-Err-clause-fault c = (not_utf8 c.args.bytes.now c.in-Err.ensures.cases.0, rw c.valid_up_to.ensures c.in-Err.ensures.cases.1)

pub returns-in-Ok-from_utf8-clause-text : goal.returns-in-Ok-from_utf8-clause-text
returns-in-Ok-from_utf8-clause-text c =
    (c.in-Ok-from_utf8.ensures.cases.0, is_utf8-from_IsUtf8 c.args.bytes.now c.in-Ok-from_utf8.ensures.cases.1)

pub returns-in-Err-from_utf8-clause-fault : goal.returns-in-Err-from_utf8-clause-fault
returns-in-Err-from_utf8-clause-fault c =
    (not_utf8 c.args.bytes.now c.in-Err-from_utf8.ensures.cases.0, rw c.valid_up_to-in-Err-from_utf8.ensures c.in-Err-from_utf8.ensures.cases.1)
