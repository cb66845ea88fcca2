use Rattle.std.proofs.Common.{◌≡◌, sym, ap, arith, take, drop, to_z, of_z, w32, w64, ◌∙◌}
use Rattle.std.proofs.lemmas.Result.{err_from_is_err_and}
use Rattle.std.proofs.lemmas.List.{take-append-drop}
use Rattle.avro_zigzag.proofs.public.Faults.{number-excludes_fault, int-excludes_fault, one_fault}
use Rattle.avro_zigzag.proofs.Steps.{only_read, wide, narrow}
use Rattle.avro_zigzag.proofs.read.read_int.Goals as goal

pub returns-clause-only : goal.returns-clause-only
returns-clause-only c = λ v front rest h s e.
    let found = c.in_ok-number.ensures.found in
    let z = c.from_zigzag.result in
    let whole = wide z (omega (arith, c.from_zigzag.ensures, c.in_ok-number.ensures.below)) in
    let short : to_z w32 (of_z w32 (to_z w64 (of_z w64 z))) ≡ z = ap (λ y. to_z w32 (of_z w32 y)) whole ∙ narrow z (omega (arith, c.from_zigzag.ensures, c.in_ok-number.ensures.below)) in
    let same = only_read v z c.in_ok-number.number c.in_ok-number.len c.args.bytes.now front rest c.from_zigzag.ensures found.2 found.1 s e in cc

pub returns-clause-fails : goal.returns-clause-fails
returns-clause-fails c = λ e fails.
    let found = c.in_ok-number.ensures.found in
    let bytes = c.args.bytes.now in
    absurd (number-excludes_fault 5 15 c.in_ok-number.number bytes (take c.in_ok-number.len bytes) (drop c.in_ok-number.len bytes) e (omega arith) c.in_ok-number.ensures.below found.2
    (sym (take-append-drop c.in_ok-number.len bytes)) fails)

pub returns-in_err-number-clause-only : goal.returns-in_err-number-clause-only
returns-in_err-number-clause-only c = λ v front rest h s e.
    absurd (int-excludes_fault v c.args.bytes.now front rest c.in_err-number.field-0.0 h s e c.in_err-number.ensures.refused)

pub returns-in_err-number-clause-fails : goal.returns-in_err-number-clause-fails
returns-in_err-number-clause-fails c = λ e fails.
    let p = err_from_is_err_and c.from_residual.result c.from_residual.ensures.1 in
    let same = one_fault 5 15 c.args.bytes.now c.in_err-number.field-0.0 e c.in_err-number.ensures.refused fails in cc
