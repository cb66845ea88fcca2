use Rattle.std.proofs.Common.{◌≡◌, suc, arith}
use Rattle.avro_schema.proofs.RunData.{longer}
use Rattle.avro_schema.proofs.runs.one_more.Goals as goal

pub returns-in-Some-with : goal.returns-in-Some-with
returns-in-Some-with c = λ nodes id ids first others.
    let fields : c.in-Some.fields ≡ suc c.args.others.fields = omega (arith, c.in-Some.ensures.1) in
    longer nodes id ids c.args.first.nodes c.args.first.depth c.args.others (record { fields = c.in-Some.fields; nodes = c.in-Some-with.all.nodes; depth = c.in-Some-with.all.depth })
    first others fields c.in-Some-with.ensures.0 c.in-Some-with.ensures.1
