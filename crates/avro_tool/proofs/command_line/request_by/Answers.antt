use Rattle.std.proofs.Common.{◌≡◌}
use Rattle.avro_tool.proofs.FoundLemmas.{err_and_both, parsed_entered, parsed_taken}
use Rattle.avro_tool.specs.PlainWords.{AsksFor}
use Rattle.avro_tool.specs.declared.failure.Failure.TheVariants.{OutOfMemory}
use Rattle.avro_tool.proofs.command_line.request_by.Goals as goal

pub returns-in-Ok : goal.returns-in-Ok
returns-in-Ok c = λ plain app_is words_are free apart.
    c.request_found.ensures plain (parsed_entered plain _ _ c.in-Ok.matches app_is words_are free c.in-Ok.ensures.ok.2) apart

pub returns-in-Err : goal.returns-in-Err
returns-in-Err c = λ plain app_is words_are free apart.
    err_and_both c.refused_by.result (AsksFor plain) (λ failure. failure ≡ OutOfMemory) (c.refused_by.ensures (c.in-Err.ensures.passes (parsed_taken plain _ _ app_is words_are free)))
