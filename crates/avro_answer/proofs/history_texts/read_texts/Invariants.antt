use Rattle.std.proofs.Common.{map}
use Rattle.avro_schema.specs.SeenSchema.{schema_nodes}
use Rattle.avro_answer.proofs.HistoryTexts.{ReadSoFar}
use Rattle.avro_answer.proofs.history_texts.read_texts.Given as goal

abbrev pub invariant-loop-index : goal.invariant-loop-index
invariant-loop-index l = ReadSoFar l.texts l.lengths l.rest l.index (map schema_nodes l.schemas.items)
