-- The entries so far, each with what is put in its place.
use Rattle.std.proofs.Common.{◌≡◌, ◌++◌, drop, map}
use Rattle.avro_file.specs.Copied.{copied_property}
use Rattle.avro_file.specs.Parts.{properties_of}
use Rattle.avro_container.specs.TaskSeen.{job_of}
use Rattle.avro_container.proofs.copying.header.copied_metadata.Given as goal

abbrev pub invariant-loop-entry : goal.invariant-loop-entry
invariant-loop-entry l =
    properties_of l.all.items ++ map (copied_property (job_of l.task).text) (properties_of (drop l.entry-index l.metadata))
    ≡ map (copied_property (job_of l.task).text) (properties_of l.metadata)
