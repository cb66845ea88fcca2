-- Where the bytes so far are cut in a number, the number takes more of them.
use Rattle.std.proofs.Common.{◌≡◌, ◌+◌, ◌-◌, ◌<◌, ◌≤◌, ◌++◌, max, length, take, drop, sym, ap, ◌∙◌, subst, arith}
use Rattle.std.proofs.lemmas.List.{take-append-drop, length-take-le, length-drop}
use Rattle.std.proofs.lemmas.Result.{err_from_is_err_and}
use Rattle.avro_zigzag.specs.NumberFault.{LongFails}
use Rattle.avro_zigzag.specs.declared.VarError.TheVariants.{EndOfInput}
use Rattle.avro_file.specs.Filled.{GrowsBy}
use Rattle.avro_file.specs.Held.{held}
use Rattle.avro_file.proofs.Taking.{GrowsBy-chain, TakesAtMost-later, UnlessDevice-then}
use Rattle.avro_file.proofs.Cut.{cut-short, cut-longer, grown-behind, not_short}
use Rattle.avro_file.proofs.input.number.take_long.Goals as goal

pub returns-in-Ok-clause-within : goal.returns-in-Ok-clause-within
returns-in-Ok-clause-within g c =
    let rest = c.split_at.result.1.now in
    let found = c.in-Ok.found in
    let same : rest ≡ drop c.args.at (held c.loop-found.buffer) = c.split_at.ensures.back ∙ ap (drop c.args.at) c.bytes.ensures in
    let bound = c.loop-found.invariant.3 found.0 (take found.1 rest) (drop found.1 rest) c.in-Ok.ensures.found.1
    (sym same ∙ sym (take-append-drop found.1 rest)) in
    let long : length (take found.1 rest) ≡ found.1 = length-take-le found.1 rest c.in-Ok.ensures.found.0 in
    subst (λ k. length (held c.loop-found.buffer) ≤ max (length (held c.args.buffer.now)) (c.args.at + k + c.args.reach.ahead)) long bound

pub loop-found-smaller : goal.loop-found-smaller
loop-found-smaller g c =
    let rest = c.split_at.result.1.now in
    let old = held c.loop-found.buffer in
    let new = held c.fill.new.buffer in
    let same : rest ≡ drop c.args.at old = c.split_at.ensures.back ∙ ap (drop c.args.at) c.bytes.ensures in
    let cut : LongFails rest EndOfInput = subst (λ e. LongFails rest e) c.in-Err-EndOfInput.field-0-is c.in-Err-EndOfInput.ensures.refused in
    let short = cut-short rest cut in
    let long : length rest ≡ length old - c.args.at = ap length same ∙ length-drop c.args.at old in
    let there : c.len-want.result + 1 ≤ length new = c.in_ok-fill-in-Err-EndOfInput.ensures.there in
    let was : c.len-want.result ≡ length old = c.len-want.ensures in
    let smaller : c.args.at + 10 - length new < c.args.at + 10 - length old = omega (arith, short, long, there, was, c.loop-found.invariant.1) in
    smaller

pub loop-found-preserved : goal.loop-found-preserved
loop-found-preserved g c =
    let rest = c.split_at.result.1.now in
    let old = held c.loop-found.buffer in
    let new = held c.fill.new.buffer in
    let first = held c.args.buffer.now in
    let inv = c.loop-found.invariant in
    let same : rest ≡ drop c.args.at old = c.split_at.ensures.back ∙ ap (drop c.args.at) c.bytes.ensures in
    let cut : LongFails rest EndOfInput = subst (λ e. LongFails rest e) c.in-Err-EndOfInput.field-0-is c.in-Err-EndOfInput.ensures.refused in
    let long : length rest ≡ length old - c.args.at = ap length same ∙ length-drop c.args.at old in
    let there : c.len-want.result + 1 ≤ length new = c.in_ok-fill-in-Err-EndOfInput.ensures.there in
    let was : c.len-want.result ≡ length old = c.len-want.ensures in
    let grown : GrowsBy g.I.Input.gives _ _ old new = c.in_ok-fill-in-Err-EndOfInput.ensures.taken in
    let behind : drop c.args.at new ≡ drop c.args.at old ++ grown.bytes = grown-behind g.I.Input.gives _ _ old new c.args.at grown inv.1 in
    let within : length new ≤ max (length old) (c.len-want.result + 1 + c.args.reach.ahead) = c.in_ok-fill-in-Err-EndOfInput.ensures.within in
    let limited : length new ≤ max (length old) c.args.reach.limit = c.in_ok-fill-in-Err-EndOfInput.ensures.limited in
    let before : length old ≤ max (length first) c.args.reach.limit = inv.2 in (
      GrowsBy-chain g.I.Input.gives g.met.I.Input.chain _ _ _ first old new inv.0 grown,
      omega (arith, there, was, inv.1),
      omega (arith, limited, before),
      λ v number more spelled e.
          let longer = cut-longer v rest grown.bytes number more cut spelled (ap (λ b. b ++ grown.bytes) same ∙ sym behind ∙ e) in
          omega (arith, longer, long, within, was, inv.1),
      c.in_ok-fill-in-Err-EndOfInput.ensures.works ∙ inv.4,
    )

pub returns-in_err-fill-in-Err-EndOfInput-clause-taken : goal.returns-in_err-fill-in-Err-EndOfInput-clause-taken
returns-in_err-fill-in-Err-EndOfInput-clause-taken g c =
    let p = err_from_is_err_and c.from_residual.result c.from_residual.ensures.1 in
    rw (p.1, p.2) (UnlessDevice-then c.in_err-fill-in-Err-EndOfInput.field-0.0 c.in_err-fill-in-Err-EndOfInput.ensures.taken
    (λ grown. GrowsBy-chain g.I.Input.gives g.met.I.Input.chain _ _ _ (held c.args.buffer.now) (held c.loop-found.buffer) (held c.fill.new.buffer)
    c.loop-found.invariant.0 grown))

pub returns-in_err-fill-in-Err-EndOfInput-clause-lost : goal.returns-in_err-fill-in-Err-EndOfInput-clause-lost
returns-in_err-fill-in-Err-EndOfInput-clause-lost g c =
    let p = err_from_is_err_and c.from_residual.result c.from_residual.ensures.1 in
    rw p.1 (TakesAtMost-later g.I.Input.gives g.met.I.Input.chain _ _ _ (held c.args.buffer.now) (held c.loop-found.buffer) c.args.reach.limit
    c.loop-found.invariant.0 c.in_err-fill-in-Err-EndOfInput.ensures.lost c.loop-found.invariant.2)

pub returns-in-Err-NotShortest : goal.returns-in-Err-NotShortest
returns-in-Err-NotShortest g c = absurd (not_short _ _ c.in-Err-NotShortest.field-0-is c.in-Err-NotShortest.ensures.refused)
