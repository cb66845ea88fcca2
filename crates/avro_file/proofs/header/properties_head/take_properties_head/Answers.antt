-- A head, with its size if there is one.
use Rattle.std.proofs.Common.{arith, ◌≡◌, ◌+◌, Bool, pos, true, take, drop, subst, rules}
use Rattle.std.specs.Prelude.{neg_ℤ}
use Rattle.std.proofs.lemmas.Result.{err_from_is_err_and}
use Rattle.avro_cursor.specs.BlockHeads.{signed_count}
use Rattle.avro_cursor.specs.Breaks.{StartsWithLong}
use Rattle.avro_file.specs.Filled.{GrowsBy}
use Rattle.avro_file.specs.Held.{held}
use Rattle.avro_file.proofs.Behind.{then_refused, takes_then, reports_not_failed}
use Rattle.avro_file.proofs.PropertyRuns.{stretch_grown}
use Rattle.avro_file.proofs.HeadStops.{head_plain, head_sized, size_stops, starts_stretch}
use Rattle.avro_file.proofs.header.properties_head.take_properties_head.Goals as goal

pub returns-in_err-is_sized-clause-refused : goal.returns-in_err-is_sized-clause-refused
returns-in_err-is_sized-clause-refused g c = grind (arith, err_from_is_err_and)

pub returns-clause-took : goal.returns-clause-took
returns-clause-took g c =
    takes_then g.I.Input.gives g.I.Input.failures g.met.I.Input.chain c.args.reach.limit _ _ _ (held c.args.buffer.now) (held c.take_properties_count.new.buffer) (held c.take_length.new.buffer)
    c.in_ok-is_sized.ensures.took c.in_ok-size.ensures.took

pub returns-in_err-size-clause-lost : goal.returns-in_err-size-clause-lost
returns-in_err-size-clause-lost g c =
    let p = err_from_is_err_and c.from_residual-in_err-size.result c.from_residual-in_err-size.ensures.1 in
    rw (p.1, p.2) (then_refused g.I.Input.gives g.I.Input.failures g.met.I.Input.chain c.args.reach.limit _ _ _ (held c.args.buffer.now) (held c.take_properties_count.new.buffer) (held c.take_length.new.buffer)
    c.in_err-size.field-0.0 c.in_ok-is_sized.ensures.took c.in_err-size.ensures.lost)

pub returns-then-not-is_sized-clause-found : goal.returns-then-not-is_sized-clause-found
returns-then-not-is_sized-clause-found g c = grind (arith, head_plain)

pub returns-clause-found : goal.returns-clause-found
returns-clause-found g c = grind (arith, head_sized)

pub returns-in_err-size-clause-refused : goal.returns-in_err-size-clause-refused
returns-in_err-size-clause-refused g c =
    let p = err_from_is_err_and c.from_residual-in_err-size.result c.from_residual-in_err-size.ensures.1 in
    rw (p.1, p.2) (λ f nodes is many.
    let mid = held c.take_properties_count.new.buffer in
    let new = held c.take_length.new.buffer in
    let is_sized : c.in_ok-is_sized.is_sized ≡ true = search rules in
    let grown : GrowsBy g.I.Input.gives _ _ mid new = c.in_err-size.ensures.lost.grown (reports_not_failed _ f is) in
    let stands = subst (λ (b : Bool). StartsWithLong (signed_count b c.in_ok-is_sized.count) (drop c.args.at mid) (take c.in_ok-is_sized.len (drop c.args.at mid)) (drop c.in_ok-is_sized.len (drop c.args.at mid))) is_sized c.in_ok-is_sized.ensures.stands in
    size_stops c.args.reach.limit c.args.at (c.args.at + c.in_ok-is_sized.len) nodes c.in_ok-is_sized.count (g.I.Input.ended c.take_length.new.input) new (take c.in_ok-is_sized.len (drop c.args.at mid)) f
    (stretch_grown g.I.Input.gives _ _ mid new c.args.at (c.args.at + c.in_ok-is_sized.len) (take c.in_ok-is_sized.len (drop c.args.at mid)) grown
    (starts_stretch c.args.at c.in_ok-is_sized.len (neg_ℤ (pos c.in_ok-is_sized.count)) mid c.in_ok-is_sized.ensures.inside stands))
    stands.spelled (c.in_ok-is_sized.ensures.some is_sized) c.in_ok-is_sized.ensures.small many (c.in_err-size.ensures.refused f is))
