-- All that was held was put, or a prefix.
use Rattle.std.proofs.Common.{◌≡◌, ◌≢◌, refl, rules}
use Rattle.avro_file.specs.declared.error.CopyError.{CopyError}
use Rattle.avro_lines.specs.inside.OutputTold.{PutsBefore}
use Rattle.avro_lines.proofs.holding.put_before.Goals as goal

pub returns-then-eq : goal.returns-then-eq
returns-then-eq g c =
    let failed : c.args.error ≡ CopyError.OutputFailed = search rules in
    PutsBefore.failed_before failed refl refl

pub returns-in-Ok : goal.returns-in-Ok
returns-in-Ok g c =
    let other : c.args.error ≢ CopyError.OutputFailed = search rules in
    PutsBefore.all_put other refl c.in-Ok.ensures.held.put c.in-Ok.ensures.held.works

pub returns-in-Err : goal.returns-in-Err
returns-in-Err g c =
    let other : c.args.error ≢ CopyError.OutputFailed = search rules in
    PutsBefore.fails_now other c.in-Err.ensures.held
