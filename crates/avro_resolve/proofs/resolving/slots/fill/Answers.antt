use Rattle.std.proofs.Common.{◌+◌, drop, subst, sym}
use Rattle.avro_schema.specs.Node.{node_at}
use Rattle.avro_schema.specs.Seen.{seen_fields, field_of}
use Rattle.avro_schema.specs.SeenSchema.{schema_nodes}
use Rattle.avro_binary.specs.Places.{alone}
use Rattle.avro_compare.specs.Resolve.{field_value}
use Rattle.avro_resolve.specs.inside.Guided.{of_node}
use Rattle.avro_resolve.specs.inside.Later.{slots_for_later}
use Rattle.avro_compare.proofs.public.Lists.{seen_at}
use Rattle.avro_resolve.proofs.Flagging.{is_field_at}
use Rattle.avro_resolve.proofs.Slots.{distinct_here, distinct_after, slots_for, slots_here, no_values_yet, values_more, values_all}
use Rattle.avro_resolve.proofs.resolving.slots.fill.Goals as goal

pub loop-index-init : goal.loop-index-init
loop-index-init g c =
    let nodes = schema_nodes c.args.reader.now in
    let ws = seen_fields c.args.writes.now in
    let rs = seen_fields c.args.reads.now in (
      c.requires.sources,
      c.requires.distinct,
      g.met.M.Make.keeps_itself c.args.maker.now,
      λ found at told fit all starts. (
        slots_for (of_node (g.M.Make.stands_for c.args.maker.now) nodes) ws rs found c.args.slots.items c.requires.distinct all,
        no_values_yet (g.M.Make.fields_stand_for c.args.maker.now nodes rs at) ws found c.args.reads.now c.args.start starts,
      ),
    )

pub loop-index-preserved : goal.loop-index-preserved
loop-index-preserved g c =
    let nodes = schema_nodes c.args.reader.now in
    let S = g.M.Make.stands_for in
    let T = g.M.Make.fields_stand_for in
    let ws = seen_fields c.args.writes.now in
    let reads = c.args.reads.now in
    let rs = seen_fields reads in
    let i = c.loop-index.index in
    let f = c.index-reads-index.result in
    let low = c.loop-index-test.true in
    let is = c.index-reads-index.is in
    let first = c.loop-index.maker in
    let second = c.value_of_field.new.maker in
    let third = c.field.new.self in
    let distinct = c.loop-index.invariant.1 in
    let kept = c.in_ok-value.ensures.kept in
    let on = c.in_ok-field.ensures.kept in
    let here = seen_at reads i f low is in (
      c.sources_after-left.ensures ws rs c.loop-index.invariant.0,
      distinct_after ws reads i f low is distinct,
      g.met.M.Make.keeps_on c.args.maker.now second third (g.met.M.Make.keeps_on c.args.maker.now first second c.loop-index.invariant.2 kept) on,
      λ found at told fit all starts.
          let before = c.loop-index.invariant.3 found at told fit all starts in
          let src = c.source_left-source.ensures rs c.loop-index.invariant.0 here in
          let rest = seen_fields (drop (i + 1) reads) in
          let worth = field_value ws found (field_of f) in
          let taken = c.in_ok-value.ensures.stands ws found rest src (fit (field_of f) (is_field_at rs i (field_of f) here)) (distinct_here ws reads i f low is distinct) (slots_here ws reads i f low is (of_node (S first) nodes) found _ before.0) in (
            slots_for_later (of_node (S first) nodes) (of_node (S third) nodes) (λ id o v. g.met.M.Make.still_stands first third nodes (node_at nodes id) (alone id) o v (g.met.M.Make.keeps_on first second third kept on)) ws rest found _ taken.0,
            values_more ws reads i f low is (T first nodes rs at) (T third nodes rs at) found c.loop-index.fields c.field.new.fields
                (λ us there h. c.in_ok-field.ensures.stands nodes rs f.node.0 at us worth (g.met.M.Make.fields_kept first second nodes rs at _ us kept h) there
                (subst (λ to. S second nodes (node_at nodes f.node.0) to c.in_ok-value.value worth) (sym (told.fields second c.loop-index.fields f.node.0)) taken.1)) before.1,
          ),
    )

pub returns-clause-kept : goal.returns-clause-kept
returns-clause-kept g c = c.loop-index.invariant.2

pub returns-clause-stands : goal.returns-clause-stands
returns-clause-stands g c = λ found at told fit all starts.
    values_all (g.M.Make.fields_stand_for c.loop-index.maker (schema_nodes c.args.reader.now) (seen_fields c.args.reads.now) at) (seen_fields c.args.writes.now) found c.args.reads.now c.loop-index.index c.loop-index.fields c.loop-index-test.false
    (c.loop-index.invariant.3 found at told fit all starts).1
