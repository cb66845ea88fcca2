use Rattle.std.proofs.Common.{◌≡◌, ◌<◌, ◌∙◌, length, sym, arith}
use Rattle.avro_schema.specs.Node.{node_at}
use Rattle.avro_schema.specs.SeenSchema.{schema_nodes}
use Rattle.avro_compare.specs.inside.NameTables.{symbols_at}
use Rattle.avro_compare.proofs.FirstLacking.{lacking_start, lacking_end, lacking_past, lacking_here, symbols_count}
use Rattle.avro_compare.proofs.symbols.first_untaken.Goals as goal

pub loop-index-init : goal.loop-index-init
loop-index-init c = lacking_start (node_at (schema_nodes c.args.names.now.0) c.args.w.0) (node_at (schema_nodes c.args.names.now.1) c.args.r.0)

pub loop-index-preserved : goal.loop-index-preserved
loop-index-preserved c =
    let w = node_at (schema_nodes c.args.names.now.0) c.args.w.0 in
    let q = node_at (schema_nodes c.args.names.now.1) c.args.r.0 in
    let count = symbols_count c.symbols_of-count.result.now _ c.args.names.now.0 c.args.w c.symbols_of-count.ensures c.writer.ensures in
    let low : c.loop-index.index < length (symbols_at w) = omega (arith, c.loop-index-test.true, count) in
    c.loop-index.invariant ∙ lacking_past w q c.loop-index.index low (sym c.is_untaken.ensures ∙ c.if-is_untaken.false)

pub returns-then-is_untaken : goal.returns-then-is_untaken
returns-then-is_untaken c =
    let w = node_at (schema_nodes c.args.names.now.0) c.args.w.0 in
    let q = node_at (schema_nodes c.args.names.now.1) c.args.r.0 in
    let count = symbols_count c.symbols_of-count.result.now _ c.args.names.now.0 c.args.w c.symbols_of-count.ensures c.writer.ensures in
    let low : c.loop-index.index < length (symbols_at w) = omega (arith, c.loop-index-test.true, count) in
    sym (c.loop-index.invariant ∙ lacking_here w q c.loop-index.index low (sym c.is_untaken.ensures ∙ c.if-is_untaken.true))

pub returns : goal.returns
returns c =
    let w = node_at (schema_nodes c.args.names.now.0) c.args.w.0 in
    let q = node_at (schema_nodes c.args.names.now.1) c.args.r.0 in
    let count = symbols_count c.symbols_of-count.result.now _ c.args.names.now.0 c.args.w c.symbols_of-count.ensures c.writer.ensures in
    let end : c.loop-index.index ≡ length (symbols_at w) = omega (arith, c.loop-index-test.false, c.loop-index.auto.index-end, count) in
    sym (c.loop-index.invariant ∙ lacking_end w q c.loop-index.index end)
