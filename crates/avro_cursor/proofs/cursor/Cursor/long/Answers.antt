use Rattle.std.proofs.Common.{rules, w64, FitsSigned}
use Rattle.std.proofs.lemmas.Int.{to_z-of_z}
use Rattle.avro_cursor.proofs.CursorSteps.{long_found, long_refused}
use Rattle.avro_cursor.proofs.cursor.Cursor.long.Goals as goal

pub returns-in-Ok : goal.returns-in-Ok
returns-in-Ok c =
    let read = c.in-Ok.ensures in
    let fits : FitsSigned w64 c.in-Ok.number = search rules in
    long_found c.args.self.now c.pass.new.self c.rest.result.now c.in-Ok.number _ c.in-Ok.len c.rest.ensures (to_z-of_z w64 c.in-Ok.number fits)
    read.found.1 read.in_range c.pass.ensures.passed

pub returns-in-Err : goal.returns-in-Err
returns-in-Err c =
    long_refused c.args.self.now c.rest.result.now c.in-Err.error c.number_error.result c.offset.result c.rest.ensures c.offset.ensures
    c.in-Err.ensures.refused c.number_error.ensures
