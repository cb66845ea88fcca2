use Rattle.std.proofs.Common.{◌≡◌, ◌∙◌, length, rules}
use Rattle.std.specs.Vec.{vec_len}
use Rattle.std.proofs.lemmas.Option.{slice_get_read}
use Rattle.avro_resolve.proofs.plan.plan_ref.PlanRef.symbol.Goals as goal

pub returns-then-symbol-len : goal.returns-then-symbol-len
returns-then-symbol-len c =
    let pair = c.in-Some.pair.now in
    let counted : vec_len pair.symbols ≡ length pair.symbols.items = search rules in
    c.in-Some.ensures.symbols c.args.symbol c.index.result.now
    (slice_get_read pair.symbols.items c.len.result c.args.symbol c.index.result.now (c.len.ensures ∙ counted) c.if-symbol-len.true c.index.ensures)
