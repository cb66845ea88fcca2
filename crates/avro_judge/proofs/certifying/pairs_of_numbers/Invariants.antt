use Rattle.std.proofs.Common.{◌≡◌, ◌++◌, drop, length}
use Rattle.avro_schema.specs.SeenSchema.{schema_nodes}
use Rattle.avro_judge.specs.inside.Evidence.{pairs_at}
use Rattle.avro_certificate.specs.SeenPair.{pairs_of}
use Rattle.avro_judge.proofs.certifying.pairs_of_numbers.Given as goal

abbrev pub invariant-loop-number : goal.invariant-loop-number
invariant-loop-number l = pairs_at (length (schema_nodes l.reader)) l.numbers
    ≡ pairs_of l.pairs.items ++ pairs_at (length (schema_nodes l.reader)) (drop l.number-index l.numbers)
