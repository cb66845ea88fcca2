use Rattle.std.proofs.Common.{◌≡◌, ◌∙◌, ◌++◌, ◌+◌, ℕ, List, Some, drop, ap, append-nil, subst, sym, arith}
use Rattle.std.proofs.lemmas.Grind.{common_steps}
use Rattle.std.specs.Prelude.{slice_get}
use Rattle.avro_schema.specs.Node.{FieldNode, node_at}
use Rattle.avro_schema.specs.Seen.{field_of, seen_fields}
use Rattle.avro_schema.specs.SeenSchema.{schema_nodes}
use Rattle.avro_compare.specs.Leads.{field_leads}
use Rattle.avro_compare.specs.declared.comparison.Lead.{Lead}
use Rattle.avro_compare.specs.Planned.{AreSourcesFrom}
use Rattle.avro_compare.specs.Resolve.{fields_at}
use Rattle.avro_compare.proofs.NoFields.{none_led, none_seen}
use Rattle.avro_compare.proofs.public.Entries.{rest_sources}
use Rattle.avro_compare.proofs.public.Lists.{seen_at}
use Rattle.avro_compare.proofs.children.add_fields.Goals as goal

pub source_by-source-requires-clause-there : goal.source_by-source-requires-clause-there
source_by-source-requires-clause-there c =
    let field = c.index-theirs-index.result in
    subst (λ (fs : List FieldNode). slice_get fs c.loop-index.index ≡ Some (field_of field)) c.requires.to
    (seen_at c.args.theirs.now c.loop-index.index field c.loop-index-test.true c.index-theirs-index.is)

pub source_by-source-requires-clause-left : goal.source_by-source-requires-clause-left
source_by-source-requires-clause-left c = c.loop-index.invariant.1

pub loop-index-preserved : goal.loop-index-preserved
loop-index-preserved c =
    let i = c.loop-index.index in
    let ws = fields_at (node_at (schema_nodes c.args.names.now.0) c.args.pair.now.w.0) in
    let rs = fields_at (node_at (schema_nodes c.args.names.now.1) c.args.pair.now.r.0) in
    let first : c.args.found.now.items ++ field_leads 0 (seen_fields c.args.fields.now) (seen_fields c.args.theirs.now)
    ≡ c.add_field.new.found.items ++ field_leads (i + 1) (seen_fields c.args.fields.now) (seen_fields (drop (i + 1) c.args.theirs.now)) = grind (arith, common_steps) in (
      first,
      λ q own. subst (λ (left : List (ℕ × ℕ)). AreSourcesFrom (i + 1) ws rs left) (sym c.rest_entries-left.ensures)
          (rest_sources i ws rs c.loop-index.left.now (c.loop-index.invariant.1 q own)),
    )

pub returns-then-fields-eq0 : goal.returns-then-fields-eq0
returns-then-fields-eq0 c =
    let none = none_led (seen_fields c.args.fields.now) (seen_fields c.args.theirs.now) (none_seen c.args.fields.now (omega (arith, c.if-fields-eq0.true))) in
    sym (ap (λ (leads : List Lead). c.args.found.now.items ++ leads) none ∙ append-nil c.args.found.now.items)
