use Rattle.std.proofs.Common.{[]}
use Rattle.avro_texts.proofs.seeded.Seeded.of_text.Goals as goal

pub returns : goal.returns
returns c = c.seed.ensures c.args.text.now (c.take.ensures [] c.new-seeding.ensures)
