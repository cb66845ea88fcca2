use Rattle.std.proofs.Common.{◌≡◌, [], rules}
use Rattle.avro_schema.specs.Node.{node_at}
use Rattle.avro_schema.specs.SeenSchema.{schema_nodes}
use Rattle.avro_compare.specs.inside.TypeNames.{IsUnionTable}
use Rattle.avro_compare.proofs.public.Planning.{holds_none, holds_push}
use Rattle.avro_compare.proofs.reader_types.union_tables.Goals as goal

pub loop-index-init : goal.loop-index-init
loop-index-init c =
    let none : c.in_ok-tables.tables.items ≡ [] = search rules in
    holds_none (λ k table. IsUnionTable c.args.texts.now (schema_nodes c.args.reader.now) (node_at (schema_nodes c.args.reader.now) k) table) none

pub loop-index-preserved : goal.loop-index-preserved
loop-index-preserved c =
    holds_push (λ k table. IsUnionTable c.args.texts.now (schema_nodes c.args.reader.now) (node_at (schema_nodes c.args.reader.now) k) table) c.loop-index.tables.items c.push.new.self.items c.in_ok-table.table
    c.loop-index.index c.in_ok-push.ensures.items c.loop-index.invariant c.in_ok-table.ensures

pub returns : goal.returns
returns c = c.loop-index.invariant.0
