use Rattle.std.proofs.Common.{◌≡◌, [], rules}
use Rattle.avro_schema.specs.Node.{node_at}
use Rattle.avro_schema.specs.SeenSchema.{schema_nodes}
use Rattle.avro_compare.specs.inside.NamedTypes.{named_type}
use Rattle.avro_compare.specs.inside.TypeNames.{IsFull}
use Rattle.avro_compare.proofs.NumberedTexts.{full_kept}
use Rattle.avro_compare.proofs.public.Planning.{holds_none, holds_push}
use Rattle.avro_compare.proofs.type_names.writer_numbers.Goals as goal

pub loop-index-init : goal.loop-index-init
loop-index-init c =
    let none : c.in_ok-numbers.numbers.items ≡ [] = search rules in
    holds_none (λ k found. IsFull c.args.texts.now (named_type (node_at (schema_nodes c.args.writer.now) k)) found) none

pub loop-index-preserved : goal.loop-index-preserved
loop-index-preserved c =
    let nodes = schema_nodes c.args.writer.now in
    let before = c.loop-index.invariant in
    holds_push (λ k found. IsFull c.add_type.new.texts (named_type (node_at nodes k)) found) c.loop-index.numbers.items c.push.new.self.items c.in_ok-found.found
    c.loop-index.index c.in_ok-push.ensures.items
    ((λ k found got. full_kept c.loop-index.texts c.add_type.new.texts c.add_type.ensures.kept (named_type (node_at nodes k)) found (before.0 k found got)), before.1) c.in_ok-found.ensures.numbered

pub returns : goal.returns
returns c = c.loop-index.invariant.0
