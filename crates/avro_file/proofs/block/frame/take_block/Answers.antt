-- A block, part by part.
use Rattle.std.proofs.Common.{Err, ap, arith, rules}
use Rattle.std.proofs.lemmas.Option.{none-some}
use Rattle.std.proofs.lemmas.Result.{err_from_is_err_and}
use Rattle.avro_file.specs.Filled.{GrowsBy}
use Rattle.avro_file.specs.Held.{held}
use Rattle.avro_file.proofs.Taking.{GrowsBy-chain, TakesAtMost-later}
use Rattle.avro_file.proofs.public.Small.{err_inj, ok_err}
use Rattle.avro_file.proofs.Bodies.{begins-grown}
use Rattle.avro_file.proofs.Standing.{block_stands, too_many}
use Rattle.avro_file.proofs.block.frame.take_block.Goals as goal

pub returns-in_err-begins_block-clause-taken : goal.returns-in_err-begins_block-clause-taken
returns-in_err-begins_block-clause-taken g c = grind (arith, err_from_is_err_and, err_inj)

pub returns-in_err-begins_block-clause-refused : goal.returns-in_err-begins_block-clause-refused
returns-in_err-begins_block-clause-refused g c = grind (arith, err_from_is_err_and, none-some)

pub returns-in_err-begins_block-clause-fails : goal.returns-in_err-begins_block-clause-fails
returns-in_err-begins_block-clause-fails g c = grind (arith, err_from_is_err_and, err_inj)

pub returns-in_err-head-clause-taken : goal.returns-in_err-head-clause-taken
returns-in_err-head-clause-taken g c =
    let p = err_from_is_err_and c.from_residual-in_err-head.result c.from_residual-in_err-head.ensures.1 in
    rw (p.1, p.2) (λ other.
    let old = held c.args.buffer.now in
    let start = held c.begins_block.new.buffer in
    let mid = held c.take_head.new.buffer in
    let first : GrowsBy g.I.Input.gives _ _ old start = c.in_ok-begins_block.ensures.taken (ok_err _ _ _) in
    GrowsBy-chain g.I.Input.gives g.met.I.Input.chain _ _ _ old start mid first
    (c.in_err-head.ensures.taken (λ q. other (ap Err (err_inj _ _ _ q)))))

pub returns-in_err-head-clause-lost : goal.returns-in_err-head-clause-lost
returns-in_err-head-clause-lost g c =
    let p = err_from_is_err_and c.from_residual-in_err-head.result c.from_residual-in_err-head.ensures.1 in
    rw p.1 (let old = held c.args.buffer.now in
    let start = held c.begins_block.new.buffer in
    let mid = held c.take_head.new.buffer in
    let first : GrowsBy g.I.Input.gives _ _ old start = c.in_ok-begins_block.ensures.taken (ok_err _ _ _) in
    TakesAtMost-later g.I.Input.gives g.met.I.Input.chain _ _ _ old start c.args.reach.limit first
    c.in_err-head.ensures.lost c.in_ok-begins_block.ensures.limited)

pub returns-in_err-head-clause-refused : goal.returns-in_err-head-clause-refused
returns-in_err-head-clause-refused g c =
    let p = err_from_is_err_and c.from_residual-in_err-head.result c.from_residual-in_err-head.ensures.1 in
    rw (p.1, p.2) (λ f is. c.in_err-head.ensures.refused f c.args.sync.now is)

pub returns-in_err-head-clause-fails : goal.returns-in_err-head-clause-fails
returns-in_err-head-clause-fails g c = grind (arith, err_from_is_err_and, err_inj)

pub returns-then-number-ge-MAX_BLOCKS-clause-refused : goal.returns-then-number-ge-MAX_BLOCKS-clause-refused
returns-then-number-ge-MAX_BLOCKS-clause-refused g c = λ f is.
    too_many (held c.begins_block.new.buffer) c.args.limits.now c.args.sync.now c.args.number (g.I.Input.ended c.begins_block.new.input) f (search rules) (search rules) is

pub returns-clause-stands : goal.returns-clause-stands
returns-clause-stands g c =
    let mid = held c.take_head.new.buffer in
    let new = held c.take_body.new.buffer in
    let head = c.in_ok-head.head in
    let third : GrowsBy g.I.Input.gives _ _ mid new = c.in_ok-take_body.ensures.taken (ok_err _ _ _) in
    let begins = begins-grown g.I.Input.gives _ _ mid new head.count head.size head.start third c.in_ok-head.ensures.inside c.in_ok-head.ensures.found in
    block_stands new c.args.limits.now c.args.sync.now head.count head.size head.start (omega (arith, c.in_ok-take_body.ensures.there)) begins
    c.in_ok-head.ensures.counted c.in_ok-head.ensures.sized c.in_ok-take_body.ensures.there c.in_ok-take_body.ensures.marker

pub returns-clause-taken : goal.returns-clause-taken
returns-clause-taken g c = λ _.
    let old = held c.args.buffer.now in
    let start = held c.begins_block.new.buffer in
    let mid = held c.take_head.new.buffer in
    let new = held c.take_body.new.buffer in
    let first : GrowsBy g.I.Input.gives _ _ old start = c.in_ok-begins_block.ensures.taken (ok_err _ _ _) in
    let second : GrowsBy g.I.Input.gives _ _ start mid = c.in_ok-head.ensures.taken (ok_err _ _ _) in
    let both = GrowsBy-chain g.I.Input.gives g.met.I.Input.chain _ _ _ old start mid first second in
    GrowsBy-chain g.I.Input.gives g.met.I.Input.chain _ _ _ old mid new both (c.in_ok-take_body.ensures.taken (ok_err _ _ _))

pub returns-in_err-take_body-clause-taken : goal.returns-in_err-take_body-clause-taken
returns-in_err-take_body-clause-taken g c =
    let p = err_from_is_err_and c.from_residual-in_err-take_body.result c.from_residual-in_err-take_body.ensures.1 in
    rw (p.1, p.2) (λ other.
    let old = held c.args.buffer.now in
    let start = held c.begins_block.new.buffer in
    let mid = held c.take_head.new.buffer in
    let new = held c.take_body.new.buffer in
    let first : GrowsBy g.I.Input.gives _ _ old start = c.in_ok-begins_block.ensures.taken (ok_err _ _ _) in
    let second : GrowsBy g.I.Input.gives _ _ start mid = c.in_ok-head.ensures.taken (ok_err _ _ _) in
    let both = GrowsBy-chain g.I.Input.gives g.met.I.Input.chain _ _ _ old start mid first second in
    GrowsBy-chain g.I.Input.gives g.met.I.Input.chain _ _ _ old mid new both
    (c.in_err-take_body.ensures.taken (λ q. other (ap Err (err_inj _ _ _ q)))))

pub returns-in_err-take_body-clause-lost : goal.returns-in_err-take_body-clause-lost
returns-in_err-take_body-clause-lost g c =
    let p = err_from_is_err_and c.from_residual-in_err-take_body.result c.from_residual-in_err-take_body.ensures.1 in
    rw p.1 (let old = held c.args.buffer.now in
    let start = held c.begins_block.new.buffer in
    let mid = held c.take_head.new.buffer in
    let first : GrowsBy g.I.Input.gives _ _ old start = c.in_ok-begins_block.ensures.taken (ok_err _ _ _) in
    let second : GrowsBy g.I.Input.gives _ _ start mid = c.in_ok-head.ensures.taken (ok_err _ _ _) in
    let both = GrowsBy-chain g.I.Input.gives g.met.I.Input.chain _ _ _ old start mid first second in
    TakesAtMost-later g.I.Input.gives g.met.I.Input.chain _ _ _ old mid c.args.reach.limit both
    c.in_err-take_body.ensures.lost (omega (arith, c.in_ok-begins_block.ensures.limited, c.in_ok-head.ensures.limited)))

pub returns-in_err-take_body-clause-refused : goal.returns-in_err-take_body-clause-refused
returns-in_err-take_body-clause-refused g c =
    let p = err_from_is_err_and c.from_residual-in_err-take_body.result c.from_residual-in_err-take_body.ensures.1 in
    rw (p.1, p.2) (λ f is.
    c.in_err-take_body.ensures.refused f c.args.limits.now is (search rules) c.in_ok-head.ensures.found c.in_ok-head.ensures.counted c.in_ok-head.ensures.sized)
