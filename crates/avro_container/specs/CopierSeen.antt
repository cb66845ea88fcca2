-- How contracts see a copier, and what a step answers.
use Rattle.std.specs.Prelude.{option_map, Result, Ok, Err}
use Rattle.avro_container.specs.declared.copying.copier.Copier.{Copier}
use Rattle.avro_file.specs.declared.error.CopyError.{CopyError}
use Rattle.avro_container.specs.declared.copying.Step.{Step}
use Rattle.avro_file.specs.BlockFails.{FileLimitValues}
use Rattle.avro_file.specs.Copied.{Job}
use Rattle.avro_file.specs.FileSeen.{file_fault}
use Rattle.avro_file.specs.Held.{held}
use Rattle.avro_container.specs.Steps.{Stored, Outcome}
use Rattle.avro_file.specs.HeaderTaken.{header_value}
use Rattle.avro_container.specs.TaskSeen.{job_of}

-- what a copier of the program stores
abbrev pub stored_of : Copier → Stored
stored_of c = record {
  header = option_map (λ o. header_value o.0) c.opened;
  blocks = c.blocks;
  ahead = held c.store.buffer;
  ended = c.ended;
  failed = c.failed;
}

-- what is asked of it
abbrev pub job_in : Copier → Job
job_in c = job_of c.task

-- its limits
abbrev pub limits_in : Copier → FileLimitValues
limits_in c = c.task.limits

-- what a result of the program answers
abbrev pub outcome_of : Result Step CopyError → Outcome
outcome_of (Ok Step.Header) = Outcome.header
outcome_of (Ok (Step.Block n)) = Outcome.block n
outcome_of (Ok Step.End) = Outcome.at_end
outcome_of (Err e) = Outcome.refused (file_fault e)
