use Rattle.std.proofs.Common.{refl}
use Rattle.avro_answer.proofs.DataTexts.{error_told}
use Rattle.avro_answer.proofs.data_answers.refuse_data.Goals as goal

pub returns : goal.returns
returns c = error_told c.in_ok-text.text.items 3 refl c.args.error.now (c.is_memory.ensures.no c.if-is_memory.false) c.in_ok-text.ensures
