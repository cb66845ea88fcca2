use Rattle.std.proofs.Common.{rules, w32, FitsSigned, ◌∙◌, sym}
use Rattle.std.proofs.lemmas.Int.{to_z-of_z}
use Rattle.avro_cursor.proofs.CursorSteps.{index_found, index_refused, index_unknown}
use Rattle.avro_cursor.proofs.cursor.Cursor.index.Goals as goal

pub returns-in-Some : goal.returns-in-Some
returns-in-Some c =
    let read = c.in-Ok.ensures in
    let fits : FitsSigned w32 c.in-Ok.value = search rules in
    let index = c.in-Some.ensures.some in
    index_found c.args.self.now c.pass.new.self c.rest.result.now c.args.choices c.in-Ok.value c.in-Some.index c.in-Ok.len c.rest.ensures
    (sym (to_z-of_z w32 c.in-Ok.value fits) ∙ index.0) index.1 read.found.1 read.in_range c.pass.ensures.passed

pub returns-in-None : goal.returns-in-None
returns-in-None c =
    let read = c.in-Ok.ensures in
    let fits : FitsSigned w32 c.in-Ok.value = search rules in
    index_unknown c.args.self.now c.rest.result.now c.args.choices c.in-Ok.value c.in-Ok.len c.offset.result c.rest.ensures c.offset.ensures
    read.found.1 read.in_range (rw (← to_z-of_z w32 c.in-Ok.value fits) c.in-None.ensures.none)

pub returns-in-Err : goal.returns-in-Err
returns-in-Err c =
    index_refused c.args.self.now c.rest.result.now c.args.choices c.in-Err.error c.number_error.result c.offset-in-Err.result c.rest.ensures c.offset-in-Err.ensures
    c.in-Err.ensures.refused c.number_error.ensures
