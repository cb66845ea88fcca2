-- How contracts see what is asked of a copy.
use Rattle.std.specs.Prelude.{ℕ, List, Option, option_map}
use Rattle.std.specs.Option.{option_copied}
use Rattle.std.specs.Borrow.{Bor}
use Rattle.avro_schema.specs.declared.schema.Schema.{Schema}
use Rattle.avro_schema.specs.SeenSchema.{schema_nodes}
use Rattle.avro_container.specs.declared.copying.state.Task.{Task}
use Rattle.avro_file.specs.Copied.{Job}
use Rattle.avro_file.specs.DataRead.{resolution}

-- a reader's text and schema, if there is one, and a marker
abbrev pub job_from : Option (Bor (List ℕ × Schema)) → Option (List ℕ) → Job
job_from reader sync = record {
  text = option_map (λ r. r.0) (option_copied reader);
  sync = sync;
  resolve = resolution (option_map (λ r. schema_nodes r.1) (option_copied reader));
}

-- what is asked by a task of the program
abbrev pub job_of : Task → Job
job_of task = job_from task.reader task.sync
