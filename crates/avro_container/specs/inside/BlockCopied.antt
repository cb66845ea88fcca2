-- What copying a block does.
use Rattle.std.specs.Prelude.{◌≡◌, ℕ, ◌+◌, ◌<◌, ◌≤◌, List, ◌++◌, length, Option}
use Rattle.avro_schema.specs.Value.{Values, values_count}
use Rattle.avro_cursor.specs.Encoding.{plain_values}
use Rattle.avro_file.specs.BlockFails.{FileLimitValues, max_blocks}
use Rattle.avro_file.specs.Copied.{Job, IsCopiedBlock}
use Rattle.avro_file.specs.File.{HeaderValue}
use Rattle.avro_file.specs.FileFault.{FileFault}
use Rattle.avro_container.specs.Steps.{IsBlockWithin, Outcome, Refusal, StepGives, Stored, most_ahead}

-- The block after `number` others was taken and put; it has `count` data. `old` and `new` are the bytes ahead.
pub record CopiesBlock (job : Job) (limits : FileLimitValues) (h : HeaderValue) (number count : ℕ) (old new taken put : List ℕ) : Type 0 where
  pub values : Values
  pub bytes : List ℕ
  pub is_block : IsBlockWithin limits h values bytes
  pub counted : values_count values ≡ count
  pub few : number < max_blocks
  pub split : old ++ taken ≡ bytes ++ new
  pub copied : IsCopiedBlock job h values put
  pub small : length (plain_values copied.0) ≤ limits.block
  pub held : length (old ++ taken) ≤ limits.block + 36

-- a refusal, with the bound on what is held
pub record RefusesWithin (job : Job) (limits : FileLimitValues) (ended : Type 0) (before : Stored) (fault : Option FileFault) (taken put : List ℕ) : Type 0 where
  pub refusal : Refusal job limits ended before taken put fault
  pub held : length (before.ahead ++ taken) ≤ most_ahead limits

-- what a step gives, with the bound on what is held
pub record GivesWithin (job : Job) (limits : FileLimitValues) (ended : Type 0) (before after : Stored) (outcome : Outcome) (taken put : List ℕ) : Type 0 where
  pub gives : StepGives job limits ended before after taken put outcome
  pub held : length (before.ahead ++ taken) ≤ most_ahead limits
