use Rattle.std.proofs.lemmas.Result.{err_from_is_err_and}
use Rattle.avro_tool.specs.PlainWords.{files_of}
use Rattle.avro_tool.proofs.command_line.request_of.Goals as goal

pub returns : goal.returns
returns c = record { plain = λ plain words_are free apart. c.request_by.ensures plain (c.in_ok-command.ensures plain (files_of plain) words_are) words_are free apart }

pub returns-in_err-command : goal.returns-in_err-command
returns-in_err-command c =
    let p = err_from_is_err_and c.from_residual.result c.from_residual.ensures.1 in
    record { plain = λ plain words_are free apart. rw p.1 (tt, p.2) }
