use Rattle.std.proofs.Common.{◌≡◌, ◌∙◌, None, ap, refl, sym, subst, rules}
use Rattle.avro_schema.specs.Node.{node_at}
use Rattle.avro_schema.specs.Seen.{seen_fields}
use Rattle.avro_schema.specs.SeenSchema.{schema_nodes}
use Rattle.avro_schema.specs.declared.schema.Schema.{Schema}
use Rattle.avro_compare.specs.Planned.{AreSources}
use Rattle.avro_compare.specs.Resolve.{fields_at}
use Rattle.avro_compare.specs.declared.comparison.Target.TheVariants.{To}
use Rattle.avro_resolve.proofs.Targeting.{kept_leads}
use Rattle.avro_resolve.proofs.Flagging.{copied_by, sources_by}
use Rattle.avro_resolve.proofs.plan.verbatim.is_verbatim.Goals as goal

pub are_copied-requires : goal.are_copied-requires
are_copied-requires c =
    let pair = c.args.pair.now in
    let here = c.in-To-None-default in
    let own : pair.target ≡ To None here.field-1 = search rules in
    let writes = c.fields_of-writes.ensures.seen ∙ ap (λ (s : Schema). fields_at (node_at (schema_nodes s) c.args.pair.now.w.0)) c.writer.ensures in
    let reads = c.fields_of-reads.ensures.seen ∙ ap (λ (s : Schema). fields_at (node_at (schema_nodes s) c.args.pair.now.r.0)) c.reader.ensures in
    subst (λ sources. AreSources (seen_fields c.fields_of-writes.result.now) (seen_fields c.fields_of-reads.result.now) sources) (sym c.deref.ensures.value)
    (sources_by pair.sources.items writes reads (c.requires.inside here.field-1 own).sources)

pub returns-else-not-have_leaves : goal.returns-else-not-have_leaves
returns-else-not-have_leaves c = λ yes.
    let writer = schema_nodes c.args.plan.now.0 in
    let reader = schema_nodes c.args.plan.now.1 in
    let pair = c.args.pair.now in
    let here = c.in-To-None-default in
    let own : pair.target ≡ To None here.field-1 = search rules in
    let writes = c.fields_of-writes.ensures.seen ∙ ap (λ (s : Schema). fields_at (node_at (schema_nodes s) c.args.pair.now.w.0)) c.writer.ensures in
    let reads = c.fields_of-reads.ensures.seen ∙ ap (λ (s : Schema). fields_at (node_at (schema_nodes s) c.args.pair.now.r.0)) c.reader.ensures in
    let none : pair.missing ≡ None = search rules in
    let inside = c.requires.inside here.field-1 own in (
      record {
        leads = kept_leads writer reader pair pair.w pair.r here.field-1 c.requires refl refl own;
        complete = sym inside.complete ∙ none;
        copied = copied_by writer reader writes reads (c.are_copied.ensures yes);
      },
      inside.sources,
    )
