use Rattle.std.proofs.Common.{ℤ, w64, take, subst}
use Rattle.std.proofs.lemmas.Int.{to_z-of_z}
use Rattle.avro_zigzag.specs.Number.{IsShortest}
use Rattle.avro_zigzag.proofs.public.Spelling.{number_bytes-from_spelling}
use Rattle.avro_binary.proofs.write.write_number.Goals as goal

pub returns-clause-appended : goal.returns-clause-appended
returns-clause-appended c =
    let written = take c.write_long-len.result.1 c.write_long-len.result.0 in
    let same = to_z-of_z w64 c.args.value c.ranges.value in
    let spelled = subst (λ (z : ℤ). IsShortest z written) same c.write_long-len.ensures.spelled in
    rw (← number_bytes-from_spelling c.args.value written spelled) c.push_each.ensures.appended
