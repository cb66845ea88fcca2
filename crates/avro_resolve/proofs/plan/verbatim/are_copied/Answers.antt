use Rattle.std.proofs.Common.{◌≡◌, ◌∙◌, ◌+◌, ℕ, List, true, drop, rules, subst, sym}
use Rattle.avro_schema.specs.Seen.{field_of, seen_fields}
use Rattle.avro_schema.specs.SeenSchema.{schema_nodes}
use Rattle.avro_compare.specs.Planned.{AreSourcesFrom}
use Rattle.avro_compare.proofs.public.Entries.{first_source, rest_sources}
use Rattle.avro_compare.proofs.public.Lists.{seen_at}
use Rattle.avro_resolve.proofs.Flagging.{copied_all, copied_more, field_next}
use Rattle.avro_resolve.proofs.plan.verbatim.are_copied.Goals as goal

pub loop-index-init : goal.loop-index-init
loop-index-init c = (c.requires, λ rest. rest)

pub loop-index-preserved : goal.loop-index-preserved
loop-index-preserved c =
    let writer = schema_nodes c.args.plan.now.0 in
    let reader = schema_nodes c.args.plan.now.1 in
    let ws = seen_fields c.args.writes.now in
    let reads = c.args.reads.now in
    let i = c.loop-index.index in
    let f = c.index-reads-index.result in
    let low = c.loop-index-test.true in
    let is = c.index-reads-index.is in
    let yes : c.is_field_copied.result ≡ true = search rules in
    let left = c.loop-index.left.now in
    let kept = c.loop-index.invariant.0 in
    let src = c.first_entry-source.ensures ∙ first_source i ws (seen_fields reads) left kept (field_of f) (seen_at reads i f low is) in (
      subst (λ (ps : List (ℕ × ℕ)). AreSourcesFrom (i + 1) ws (seen_fields reads) ps) (sym c.rest_entries-left.ensures) (rest_sources i ws (seen_fields reads) left kept),
      λ rest. c.loop-index.invariant.1 (copied_more writer reader ws (field_of f) (seen_fields (drop (i + 1) reads)) (seen_fields (drop i reads)) (λ k e. c.is_field_copied.ensures k (src ∙ e) yes) rest (field_next reads i f low is)),
    )

pub returns : goal.returns
returns c = λ yes.
    c.loop-index.invariant.1 (copied_all (schema_nodes c.args.plan.now.0) (schema_nodes c.args.plan.now.1) (seen_fields c.args.writes.now) c.args.reads.now c.loop-index.index c.loop-index-test.false)
