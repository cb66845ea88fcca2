use Rattle.std.proofs.Common.{◌≡◌, [], rules}
use Rattle.avro_schema.specs.Node.{node_at}
use Rattle.avro_schema.specs.SeenSchema.{schema_nodes}
use Rattle.avro_compare.specs.inside.NamedTypes.{named_type}
use Rattle.avro_compare.specs.inside.TypeNames.{IsSimple}
use Rattle.avro_compare.proofs.public.Planning.{holds_none, holds_push}
use Rattle.avro_compare.proofs.type_names.reader_numbers.Goals as goal

pub loop-index-init : goal.loop-index-init
loop-index-init c =
    let none : c.in_ok-numbers.numbers.items ≡ [] = search rules in
    holds_none (λ k found. IsSimple c.args.texts.now (named_type (node_at (schema_nodes c.args.reader.now) k)) found) none

pub loop-index-preserved : goal.loop-index-preserved
loop-index-preserved c =
    holds_push (λ k found. IsSimple c.args.texts.now (named_type (node_at (schema_nodes c.args.reader.now) k)) found) c.loop-index.numbers.items c.push.new.self.items c.simple_at.result
    c.loop-index.index c.in_ok-push.ensures.items c.loop-index.invariant c.simple_at.ensures

pub returns : goal.returns
returns c = c.loop-index.invariant.0
