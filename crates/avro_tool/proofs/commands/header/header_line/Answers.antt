use Rattle.std.proofs.Common.{arith}
use Rattle.std.proofs.lemmas.Result.{err_from_is_err_and}
use Rattle.avro_tool.proofs.Headers.{lacks_schema}
use Rattle.avro_tool.proofs.commands.header.header_line.Goals as goal

pub returns-in_err-line-clause-refused : goal.returns-in_err-line-clause-refused
returns-in_err-line-clause-refused g c = grind (arith, err_from_is_err_and, lacks_schema)
