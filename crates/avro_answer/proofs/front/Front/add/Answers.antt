use Rattle.std.proofs.Common.{refl, Result, Ok, Err}
use Rattle.std.specs.Prelude.{OnErr}
use Rattle.avro_answer.specs.inside.FrontKept.{keeps_same}
use Rattle.avro_answer.proofs.front.Front.add.Goals as goal

if_err : {T E P : Type 0} (r : Result T E) → P → OnErr r P
if_err (Ok value) p = tt
if_err (Err error) p = p

pub returns-in_err-extend_from_slice-clause-kept : goal.returns-in_err-extend_from_slice-clause-kept
returns-in_err-extend_from_slice-clause-kept c =
    if_err c.from_residual.result (keeps_same c.args.self.now _ refl c.in_err-extend_from_slice.ensures.items refl)
