use Rattle.std.proofs.Common.{◌<◌, sym, arith}
use Rattle.avro_cursor.proofs.CursorSteps.{boolean_ended, boolean_refused}
use Rattle.avro_cursor.proofs.cursor.Cursor.boolean.Goals as goal

pub returns-in-None : goal.returns-in-None
returns-in-None c = boolean_ended c.args.self.now c.rest.result.now c.offset.result c.rest.ensures c.offset.ensures (sym c.in-None.ensures.value)

pub returns-in-Some : goal.returns-in-Some
returns-in-Some c =
    let s = c.in-Some in
    let high : 1 < c.in-Some.field-0.now = omega arith in
    boolean_refused c.args.self.now c.rest.result.now c.in-Some.field-0.now c.offset-in-Some.result c.rest.ensures c.offset-in-Some.ensures
    (sym c.in-Some.ensures.value) high
