use Rattle.std.proofs.Common.{rules, w32, FitsSigned}
use Rattle.std.proofs.lemmas.Int.{to_z-of_z}
use Rattle.avro_cursor.proofs.CursorSteps.{int_found, int_refused}
use Rattle.avro_cursor.proofs.cursor.Cursor.int.Goals as goal

pub returns-in-Ok : goal.returns-in-Ok
returns-in-Ok c =
    let read = c.in-Ok.ensures in
    let fits : FitsSigned w32 c.in-Ok.value = search rules in
    int_found c.args.self.now c.pass.new.self c.rest.result.now c.in-Ok.value _ c.in-Ok.len c.rest.ensures (to_z-of_z w32 c.in-Ok.value fits)
    read.found.1 read.in_range c.pass.ensures.passed

pub returns-in-Err : goal.returns-in-Err
returns-in-Err c =
    int_refused c.args.self.now c.rest.result.now c.in-Err.error c.number_error.result c.offset.result c.rest.ensures c.offset.ensures
    c.in-Err.ensures.refused c.number_error.ensures
