use Rattle.std.proofs.Common.{◌≡◌, ◌∙◌, None, rules}
use Rattle.avro_schema.specs.Node.{node_at}
use Rattle.avro_schema.specs.Seen.{field_of}
use Rattle.avro_schema.specs.SeenSchema.{schema_nodes}
use Rattle.avro_compare.specs.Resolve.{fields_at}
use Rattle.avro_compare.specs.declared.comparison.Target.TheVariants.{To}
use Rattle.avro_compare.proofs.public.Entries.{first_source}
use Rattle.avro_compare.proofs.children.source_by.Goals as goal

pub returns-in-To-None-default : goal.returns-in-To-None-default
returns-in-To-None-default c =
    let pair = c.args.pair.now in
    let here = c.in-To-None-default in
    let own : pair.target ≡ To None here.field-1 = search rules in
    c.first_entry.ensures
    ∙ first_source c.args.index (fields_at (node_at (schema_nodes c.args.names.now.0) pair.w.0)) (fields_at (node_at (schema_nodes c.args.names.now.1) pair.r.0)) c.args.left.now
    (c.requires.left here.field-1 own) (field_of c.args.field.now) c.requires.there
