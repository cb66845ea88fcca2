use Rattle.std.proofs.Common.{◌∙◌, ◌+◌, ℕ, List, subst, sym}
use Rattle.std.specs.Prelude.{IfSome}
use Rattle.avro_schema.specs.Node.{node_at}
use Rattle.avro_schema.specs.Seen.{field_of, seen_fields}
use Rattle.avro_schema.specs.SeenSchema.{schema_nodes}
use Rattle.avro_compare.specs.Resolve.{field_value}
use Rattle.avro_compare.specs.Planned.{AreSourcesFrom}
use Rattle.avro_compare.proofs.public.Entries.{first_source, rest_sources}
use Rattle.avro_compare.proofs.public.Lists.{seen_at}
use Rattle.avro_resolve.specs.inside.Guided.{of_node}
use Rattle.avro_resolve.proofs.Flagging.{is_field_at}
use Rattle.avro_resolve.proofs.Slots.{no_values_yet, values_all, values_more}
use Rattle.avro_resolve.proofs.resolving.copying.copy_fields.Goals as goal

pub loop-index-init : goal.loop-index-init
loop-index-init g c = (
  g.met.M.Make.keeps_itself c.args.maker.now,
  λ ws from. from,
  λ ws found at told from plain leaves fit starts. no_values_yet (g.M.Make.fields_stand_for c.args.maker.now (schema_nodes c.args.reader.now) (seen_fields c.args.reads.now) at) ws found c.args.reads.now c.args.start starts,
)

pub loop-index-preserved : goal.loop-index-preserved
loop-index-preserved g c =
    let nodes = schema_nodes c.args.reader.now in
    let S = g.M.Make.stands_for in
    let T = g.M.Make.fields_stand_for in
    let reads = c.args.reads.now in
    let rs = seen_fields reads in
    let i = c.loop-index.index in
    let f = c.index-reads-index.result in
    let low = c.loop-index-test.true in
    let is = c.index-reads-index.is in
    let first = c.loop-index.maker in
    let second = c.copy_field.new.maker in
    let third = c.field.new.self in
    let kept = c.in_ok-value.ensures.kept in
    let on = c.in_ok-field-in-Some.ensures.kept in
    let left = c.loop-index.left.now in (
      g.met.M.Make.keeps_on c.args.maker.now second third (g.met.M.Make.keeps_on c.args.maker.now first second c.loop-index.invariant.0 kept) on,
      λ ws sources. subst (λ (ps : List (ℕ × ℕ)). AreSourcesFrom (i + 1) ws rs ps) (sym c.rest_entries-left.ensures) (rest_sources i ws rs left (c.loop-index.invariant.1 ws sources)),
      λ ws found at told sources plain leaves fit starts.
          let here = seen_at reads i f low is in
          let one = is_field_at rs i (field_of f) here in
          let worth = field_value ws found (field_of f) in
          let src = c.first_entry-source.ensures ∙ first_source i ws rs left (c.loop-index.invariant.1 ws sources) (field_of f) here in
          let made = subst (λ o. IfSome o (λ out. of_node (S second) nodes f.node.0 out worth)) c.in-Some.is
          (c.in_ok-value.ensures.stands ws rs found src one plain leaves (fit (field_of f) one)) in
          values_more ws reads i f low is (T first nodes rs at) (T third nodes rs at) found c.loop-index.fields c.field.new.fields
          (λ us there h. c.in_ok-field-in-Some.ensures.stands nodes rs f.node.0 at us worth (g.met.M.Make.fields_kept first second nodes rs at _ us kept h) there
          (subst (λ to. S second nodes (node_at nodes f.node.0) to c.in-Some.value worth) (sym (told.fields second c.loop-index.fields f.node.0)) made)) (c.loop-index.invariant.2 ws found at told sources plain leaves fit starts),
    )

pub returns-in-None-clause-kept : goal.returns-in-None-clause-kept
returns-in-None-clause-kept g c = g.met.M.Make.keeps_on c.args.maker.now c.loop-index.maker c.copy_field.new.maker c.loop-index.invariant.0 c.in_ok-value.ensures.kept

pub returns-clause-kept : goal.returns-clause-kept
returns-clause-kept g c = c.loop-index.invariant.0

pub returns-clause-stands : goal.returns-clause-stands
returns-clause-stands g c = λ ws found at told sources plain leaves fit starts.
    values_all (g.M.Make.fields_stand_for c.loop-index.maker (schema_nodes c.args.reader.now) (seen_fields c.args.reads.now) at) ws found c.args.reads.now c.loop-index.index c.loop-index.fields c.loop-index-test.false (c.loop-index.invariant.2 ws found at told sources plain leaves fit starts)
