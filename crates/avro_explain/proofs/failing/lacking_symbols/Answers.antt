use Rattle.std.proofs.Common.{◌≡◌, ◌<◌, ◌+◌, ◌++◌, ◌∙◌, ap, append_assoc, drop, length, sym, arith}
use Rattle.avro_schema.specs.Node.{node_at}
use Rattle.avro_schema.specs.Seen.{texts_of}
use Rattle.avro_schema.specs.SeenSchema.{schema_nodes}
use Rattle.avro_explain.specs.inside.Walks.{untaken_from, untaken_one}
use Rattle.avro_explain.proofs.SymbolsTaken.{none_untaken, texts_many, untaken_end, untaken_next}
use Rattle.avro_explain.proofs.failing.lacking_symbols.Goals as goal

pub returns-then-not-lacks_symbol : goal.returns-then-not-lacks_symbol
returns-then-not-lacks_symbol c =
    let w = node_at (schema_nodes c.args.names.now.0) c.args.pair.now.w.0 in
    let q = node_at (schema_nodes c.args.names.now.1) c.args.pair.now.r.0 in
    c.new-found.ensures.items
    ∙ sym (none_untaken w q c.args.pair.now.lacking (texts_of c.args.symbols.now) c.requires.texts c.requires.inside.lacking (sym c.lacks_symbol.ensures ∙ c.if-not-lacks_symbol.true))

pub loop-index-preserved : goal.loop-index-preserved
loop-index-preserved c =
    let w = node_at (schema_nodes c.args.names.now.0) c.args.pair.now.w.0 in
    let q = node_at (schema_nodes c.args.names.now.1) c.args.pair.now.r.0 in
    let symbols = texts_of c.args.symbols.now in
    let i = c.loop-index.index in
    let found = c.loop-index.found.items in
    let taken = c.symbol_kept-symbol.result in
    let low : i < length symbols = omega (arith, c.loop-index-test.true, texts_many c.args.symbols.now) in
    c.loop-index.invariant
    ∙ ap (λ ds. found ++ ds) (untaken_next w q i taken symbols c.requires.texts low c.symbol_kept-symbol.ensures)
    ∙ sym (append_assoc found (untaken_one i taken) (untaken_from q (i + 1) (drop (i + 1) symbols)))
    ∙ ap (λ ds. ds ++ untaken_from q (i + 1) (drop (i + 1) symbols)) (sym c.in_ok-add_lacking.ensures)

pub returns : goal.returns
returns c =
    let q = node_at (schema_nodes c.args.names.now.1) c.args.pair.now.r.0 in
    let symbols = texts_of c.args.symbols.now in
    let end : c.loop-index.index ≡ length symbols = omega (arith, c.loop-index-test.false, c.loop-index.auto.index-end, texts_many c.args.symbols.now) in
    sym (c.loop-index.invariant ∙ untaken_end q c.loop-index.index symbols c.loop-index.found.items end)
