use Rattle.avro_compare.proofs.NumberedTexts.{number_is}
use Rattle.avro_compare.proofs.type_names.number.Goals as goal

pub returns : goal.returns
returns c = number_is c.args.texts.now c.args.text.now c.number.result c.number.ensures.numbered
