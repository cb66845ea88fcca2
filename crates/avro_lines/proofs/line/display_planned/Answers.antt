-- What is read is shown as what it is for the reader.
use Rattle.std.proofs.Common.{◌≡◌, subst}
use Rattle.avro_schema.specs.SeenSchema.{schema_nodes}
use Rattle.avro_schema.specs.declared.schema.Schema.{Schema}
use Rattle.avro_file.specs.Copied.{into}
use Rattle.avro_show.specs.Spans.{StandsIn}
use Rattle.avro_lines.specs.inside.DataShown.{Displays}
use Rattle.avro_lines.proofs.line.display_planned.Goals as goal

pub returns-in-Ok : goal.returns-in-Ok
returns-in-Ok c =
    let scratch = c.display_resolved.new.scratch in
    subst (λ (p : Schema × Schema). schema_nodes c.args.table.now ≡ schema_nodes p.1 → Displays (schema_nodes p.0) c.args.limits.now (into (schema_nodes p.1) (schema_nodes p.0))
    (schema_nodes c.args.table.now) c.args.bytes.now c.in-Ok.len (StandsIn scratch.text scratch.shown))
    c.by_ref.ensures
    (λ same.
    let found = c.in-Ok.ensures.found same in
    let reads = found.1 in
    (found.0, record { datum = reads.datum; in_bytes = reads.in_bytes; encoded = reads.encoded; within = reads.within; resolves = reads.resolves }, found.2))
