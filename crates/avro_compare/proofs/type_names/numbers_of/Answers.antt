use Rattle.std.proofs.Common.{◌≡◌, Some, rules}
use Rattle.std.specs.Prelude.{slice_get}
use Rattle.avro_compare.proofs.type_names.numbers_of.Goals as goal

pub returns-in-Some : goal.returns-in-Some
returns-in-Some c = λ writer are.
    let got : slice_get c.args.names.now.writes.items c.args.w.0 ≡ Some c.in-Some.full = search rules in are c.args.w.0 c.in-Some.full got
