use Rattle.std.proofs.Common.{◌≡◌, ◌∙◌, [], ap, length, sym, rules, arith}
use Rattle.avro_schema.specs.Node.{node_at}
use Rattle.avro_schema.specs.SeenSchema.{schema_nodes}
use Rattle.avro_compare.specs.inside.NameTables.{symbols_at}
use Rattle.avro_compare.specs.Pairs.{IsSymbol}
use Rattle.avro_compare.specs.Resolve.{enum_as, symbol_at}
use Rattle.avro_compare.proofs.Named.{texts_count}
use Rattle.avro_compare.proofs.public.Planning.{holds_none, holds_push}
use Rattle.avro_compare.proofs.comparing.find_symbols.Goals as goal

pub loop-index-init : goal.loop-index-init
loop-index-init c =
    let none : c.new-found.result.items ≡ [] = search rules in
    let w = node_at (schema_nodes c.args.names.now.0) c.args.w.0 in
    let q = node_at (schema_nodes c.args.names.now.1) c.args.r.0 in
    holds_none (λ k s. IsSymbol (enum_as (symbol_at w k) q) s) none

pub loop-index-preserved : goal.loop-index-preserved
loop-index-preserved c =
    let w = node_at (schema_nodes c.args.names.now.0) c.args.w.0 in
    let q = node_at (schema_nodes c.args.names.now.1) c.args.r.0 in
    holds_push (λ k s. IsSymbol (enum_as (symbol_at w k) q) s) c.loop-index.found.items c.push.new.self.items c.symbol_at.result c.loop-index.index c.in_ok-push.ensures.items c.loop-index.invariant
    c.symbol_at.ensures

pub returns : goal.returns
returns c =
    let of_writer = c.symbols_of-writes.ensures ∙ ap (λ s. symbols_at (node_at (schema_nodes s) c.args.w.0)) c.writer.ensures in
    record {
      each = c.loop-index.invariant.0;
      all = c.loop-index.invariant.1 ∙ omega (arith, c.loop-index-test.false, c.loop-index.auto.index-end) ∙ sym (texts_count c.symbols_of-writes.result.now) ∙ ap length of_writer;
    }
