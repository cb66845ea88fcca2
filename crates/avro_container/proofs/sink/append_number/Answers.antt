use Rattle.std.proofs.Common.{ℤ, w64, take, subst, rules}
use Rattle.std.proofs.lemmas.Int.{to_z-of_z}
use Rattle.avro_zigzag.specs.Number.{IsShortest}
use Rattle.avro_zigzag.proofs.public.Spelling.{number_bytes-from_spelling}
use Rattle.avro_container.proofs.sink.append_number.Goals as goal

pub returns : goal.returns
returns c =
    let written = take c.write_long-len.result.1 c.write_long-len.result.0 in
    let same = to_z-of_z w64 c.args.value c.ranges.value in
    let spelled = subst (λ (z : ℤ). IsShortest z written) same c.write_long-len.ensures.spelled in
    rw (← number_bytes-from_spelling c.args.value written spelled) (search (rules, c.extend_from_slice.ensures.items))
