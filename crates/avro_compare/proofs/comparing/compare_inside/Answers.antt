use Rattle.std.proofs.Common.{◌∙◌, ap, refl}
use Rattle.avro_schema.specs.Node.{node_at}
use Rattle.avro_schema.specs.Seen.{seen_fields}
use Rattle.avro_schema.specs.SeenSchema.{schema_nodes}
use Rattle.avro_compare.specs.Resolve.{fields_at}
use Rattle.avro_compare.proofs.public.Leading.{inside_found}
use Rattle.avro_compare.proofs.comparing.compare_inside.Goals as goal

pub returns : goal.returns
returns c =
    let w = node_at (schema_nodes c.args.names.now.0) c.args.w.0 in
    let q = node_at (schema_nodes c.args.names.now.1) c.args.r.0 in
    let writes = c.fields_of-writes.result.now in
    let reads = c.fields_of-reads.result.now in (
      inside_found w q (seen_fields writes) (seen_fields reads) _
          (c.fields_of-writes.ensures.seen ∙ ap (λ s. fields_at (node_at (schema_nodes s) c.args.w.0)) c.writer.ensures)
          (c.fields_of-reads.ensures.seen ∙ ap (λ s. fields_at (node_at (schema_nodes s) c.args.r.0)) c.reader.ensures)
          c.missing_among.ensures c.find_lacking.ensures c.in_ok-fields.ensures c.in_ok-sources.ensures
          c.in_ok-symbols.ensures.each c.in_ok-symbols.ensures.all,
      refl,
      refl,
      refl,
    )
