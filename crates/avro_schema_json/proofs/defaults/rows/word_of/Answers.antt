use Rattle.avro_schema_json.proofs.Words.{arith, ◌%◌}
use Rattle.std.proofs.lemmas.Nat.Bits.{bit_at_ones}
use Rattle.avro_schema_json.proofs.defaults.rows.word_of.Goals as goal

pub returns-else-word-lt64 : goal.returns-else-word-lt64
returns-else-word-lt64 c = λ p here. let bit = bit_at_ones 64 (p % 64) (omega arith) in grind (arith, c.if-word-lt64.false, here, bit)
