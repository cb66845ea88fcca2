use Rattle.avro_answer.proofs.ReadLaws.{after_yes}
use Rattle.avro_answer.proofs.laws.yes_is_read.Goals as goal

pub returns : goal.returns
returns c =
    after_yes c.args.writer.now c.args.reader.now c.args.limits.now c.args.form c.args.skip c.args.bytes.now c.read_text.result
    c.read_text.ensures.answered c.read_text.ensures.complete
