use Rattle.std.proofs.Common.{◌≡◌, ◌∙◌, ap, arith, replicate, false}
use Rattle.avro_schema.specs.SeenSchema.{schema_nodes}
use Rattle.avro_canonical.proofs.NamesWritten.{no_marks_yet}
use Rattle.avro_canonical.proofs.marks.no_marks.Goals as goal

pub returns : goal.returns
returns c =
    let nodes = schema_nodes c.args.schema.now in
    let ended : c.loop-id.id ≡ c.len-id-end.result = omega (arith, c.loop-id-test.false, c.loop-id.auto.id-end) in
    c.loop-id.invariant ∙ ap (λ k. replicate k false) (ended ∙ c.len-id-end.ensures.count) ∙ no_marks_yet nodes
