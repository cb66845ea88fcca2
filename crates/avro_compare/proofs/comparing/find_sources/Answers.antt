use Rattle.std.proofs.Common.{◌≡◌, ◌∙◌, ap, Some, [], slice_get, rules, arith}
use Rattle.avro_schema.specs.Node.{FieldNode, node_at}
use Rattle.avro_schema.specs.Seen.{seen_fields}
use Rattle.avro_schema.specs.SeenSchema.{schema_nodes}
use Rattle.avro_compare.specs.Resolve.{fields_at}
use Rattle.avro_compare.specs.Source.{source_of}
use Rattle.avro_compare.proofs.public.Planning.{holds_none, holds_push, same_some}
use Rattle.avro_compare.proofs.public.Lists.{seen_at}
use Rattle.avro_compare.proofs.comparing.find_sources.Goals as goal

pub loop-index-init : goal.loop-index-init
loop-index-init c =
    let none : c.in_ok-found.found.items ≡ [] = search rules in
    let ws = fields_at (node_at (schema_nodes c.args.names.now.0) c.args.w.0) in
    holds_none (λ k s. (f : FieldNode) → slice_get (seen_fields c.args.reads.now) k ≡ Some f → s ≡ source_of ws f) none

pub loop-index-preserved : goal.loop-index-preserved
loop-index-preserved c =
    let ws = fields_at (node_at (schema_nodes c.args.names.now.0) c.args.w.0) in
    let reads = c.args.reads.now in
    let i = c.loop-index.index in
    holds_push (λ k s. (f : FieldNode) → slice_get (seen_fields reads) k ≡ Some f → s ≡ source_of ws f) c.loop-index.found.items c.push.new.self.items c.source_at.result i
    c.in_ok-push.ensures.items c.loop-index.invariant
    (λ f is. c.source_at.ensures ∙ ap (source_of ws) (same_some (seen_at reads i c.index-reads-index.result c.loop-index-test.true c.index-reads-index.is) is))

pub returns : goal.returns
returns c = record { each = c.loop-index.invariant.0; all = c.loop-index.invariant.1 ∙ omega (arith, c.loop-index-test.false, c.loop-index.auto.index-end) }
