-- How private contracts see what a block is copied by.
use Rattle.avro_file.specs.BlockFails.{FileLimitValues, BlockReading}
use Rattle.avro_file.specs.Copied.{Job}
use Rattle.avro_file.specs.File.{HeaderValue}
use Rattle.avro_file.specs.HeaderTaken.{header_value}
use Rattle.avro_container.specs.Steps.{reading_of}
use Rattle.avro_container.specs.TaskSeen.{job_of}
use Rattle.avro_container.specs.declared.copying.state.BlockTask.{BlockTask}

abbrev pub job_for : BlockTask → Job
job_for block = job_of block.task.now

abbrev pub limits_for : BlockTask → FileLimitValues
limits_for block = block.task.now.limits

abbrev pub header_for : BlockTask → HeaderValue
header_for block = header_value block.header.now

abbrev pub reading_for : BlockTask → BlockReading
reading_for block = reading_of (job_for block) (limits_for block) (header_for block)
