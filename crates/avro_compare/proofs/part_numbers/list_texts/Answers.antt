use Rattle.std.proofs.Common.{arith}
use Rattle.avro_schema.specs.Seen.{texts_of}
use Rattle.avro_compare.proofs.Named.{texts_count}
use Rattle.avro_compare.proofs.NumberedNames.{none_where}
use Rattle.avro_compare.proofs.part_numbers.list_texts.Goals as goal

pub returns-then-names-eq0-clause-has : goal.returns-then-names-eq0-clause-has
returns-then-names-eq0-clause-has c = none_where (texts_of c.args.names.now) _ (texts_count c.args.names.now) (omega (arith, c.if-names-eq0.true))

pub returns-clause-has : goal.returns-clause-has
returns-clause-has c = record { list = c.in_ok-numbers.numbers; there = c.in_ok-id.ensures.there; are = c.in_ok-numbers.ensures.has }
