-- A count and a size, the second after the first.
use Rattle.std.proofs.Common.{◌+◌, pos, inl, inr, Err, take, drop, ap, arith, rules}
use Rattle.std.proofs.lemmas.Result.{err_from_is_err_and}
use Rattle.avro_file.specs.Filled.{GrowsBy}
use Rattle.avro_file.specs.Held.{held}
use Rattle.avro_file.proofs.Taking.{GrowsBy-chain, TakesAtMost-later, TakesAtMost-from_grown}
use Rattle.avro_file.proofs.Stopping.{count_fault_first, size_fault_next}
use Rattle.avro_file.proofs.Heads.{starts-grown, head_begins, grown-longer, head_large}
use Rattle.avro_file.proofs.public.Small.{err_inj, ok_err, not_failed}
use Rattle.avro_file.proofs.block.head.take_head.Goals as goal

pub returns-in_err-count-clause-taken : goal.returns-in_err-count-clause-taken
returns-in_err-count-clause-taken g c = grind (arith, err_from_is_err_and, err_inj)

pub returns-in_err-count-clause-lost : goal.returns-in_err-count-clause-lost
returns-in_err-count-clause-lost g c = grind (arith, err_from_is_err_and)

pub returns-in_err-count-clause-refused : goal.returns-in_err-count-clause-refused
returns-in_err-count-clause-refused g c =
    let p = err_from_is_err_and c.from_residual.result c.from_residual.ensures.1 in
    rw (p.1, p.2) (λ f sync is.
    let new = held c.take_count.new.buffer in
    let longer = grown-longer g.I.Input.gives _ _ (held c.args.buffer.now) new (c.in_err-count.ensures.taken (not_failed _ _ f is)) in
    count_fault_first c.args.limits.now sync c.args.number (g.I.Input.ended c.take_count.new.input) new f c.requires.few
    (omega (arith, longer, c.requires.some)) (c.in_err-count.ensures.refused f is))

pub returns-in_err-count-clause-fails : goal.returns-in_err-count-clause-fails
returns-in_err-count-clause-fails g c = grind (arith, err_from_is_err_and, err_inj)

pub returns-in_err-size-clause-taken : goal.returns-in_err-size-clause-taken
returns-in_err-size-clause-taken g c =
    let p = err_from_is_err_and c.from_residual-in_err-size.result c.from_residual-in_err-size.ensures.1 in
    rw (p.1, p.2) (λ other.
    let old = held c.args.buffer.now in
    let mid = held c.take_count.new.buffer in
    let new = held c.take_count-2.new.buffer in
    let first : GrowsBy g.I.Input.gives _ _ old mid = c.in_ok-count.ensures.taken (ok_err _ _ _) in
    GrowsBy-chain g.I.Input.gives g.met.I.Input.chain _ _ _ old mid new first
    (c.in_err-size.ensures.taken (λ q. other (ap Err (err_inj _ _ _ q)))))

pub returns-in_err-size-clause-lost : goal.returns-in_err-size-clause-lost
returns-in_err-size-clause-lost g c =
    let p = err_from_is_err_and c.from_residual-in_err-size.result c.from_residual-in_err-size.ensures.1 in
    rw p.1 (let first = c.in_ok-count.ensures.taken (ok_err _ _ _) in
    TakesAtMost-later g.I.Input.gives g.met.I.Input.chain _ _ _ (held c.args.buffer.now) (held c.take_count.new.buffer) c.args.reach.limit first
    c.in_err-size.ensures.lost c.in_ok-count.ensures.limited)

pub returns-in_err-size-clause-limited : goal.returns-in_err-size-clause-limited
returns-in_err-size-clause-limited g c = omega (arith, c.in_ok-count.ensures.limited, c.in_err-size.ensures.limited)

pub returns-in_err-size-clause-refused : goal.returns-in_err-size-clause-refused
returns-in_err-size-clause-refused g c =
    let p = err_from_is_err_and c.from_residual-in_err-size.result c.from_residual-in_err-size.ensures.1 in
    rw (p.1, p.2) (λ f sync is.
    let mid = held c.take_count.new.buffer in
    let new = held c.take_count-2.new.buffer in
    let second : GrowsBy g.I.Input.gives _ _ mid new = c.in_err-size.ensures.taken (not_failed _ _ f is) in
    let len = c.in_ok-count.len in
    let starts = starts-grown g.I.Input.gives _ _ mid new (pos c.in_ok-count.count) len second (omega (arith, c.in_ok-count.ensures.inside)) c.in_ok-count.ensures.found in
    size_fault_next c.args.limits.now sync c.args.number (g.I.Input.ended c.take_count-2.new.input) new f c.in_ok-count.count (take len mid) (drop len new)
    c.requires.few starts (c.in_err-size.ensures.refused f is))

pub returns-in_err-size-clause-fails : goal.returns-in_err-size-clause-fails
returns-in_err-size-clause-fails g c = grind (arith, err_from_is_err_and, err_inj)

pub returns-then-count-from-clause-taken : goal.returns-then-count-from-clause-taken
returns-then-count-from-clause-taken g c = λ _.
    let old = held c.args.buffer.now in
    let mid = held c.take_count.new.buffer in
    let new = held c.take_count-2.new.buffer in
    let first : GrowsBy g.I.Input.gives _ _ old mid = c.in_ok-count.ensures.taken (ok_err _ _ _) in
    let second : GrowsBy g.I.Input.gives _ _ mid new = c.in_ok-size.ensures.taken (ok_err _ _ _) in
    GrowsBy-chain g.I.Input.gives g.met.I.Input.chain _ _ _ old mid new first second

pub returns-then-count-from-clause-lost : goal.returns-then-count-from-clause-lost
returns-then-count-from-clause-lost g c =
    let old = held c.args.buffer.now in
    let mid = held c.take_count.new.buffer in
    let new = held c.take_count-2.new.buffer in
    let first : GrowsBy g.I.Input.gives _ _ old mid = c.in_ok-count.ensures.taken (ok_err _ _ _) in
    let second : GrowsBy g.I.Input.gives _ _ mid new = c.in_ok-size.ensures.taken (ok_err _ _ _) in
    TakesAtMost-from_grown g.I.Input.gives _ _ old new c.args.reach.limit
    (GrowsBy-chain g.I.Input.gives g.met.I.Input.chain _ _ _ old mid new first second)
    (omega (arith, c.in_ok-count.ensures.limited, c.in_ok-size.ensures.limited))

pub returns-then-count-from-clause-limited : goal.returns-then-count-from-clause-limited
returns-then-count-from-clause-limited g c = omega (arith, c.in_ok-count.ensures.limited, c.in_ok-size.ensures.limited)

pub returns-then-count-from-clause-refused : goal.returns-then-count-from-clause-refused
returns-then-count-from-clause-refused g c = λ f sync is.
    let mid = held c.take_count.new.buffer in
    let new = held c.take_count-2.new.buffer in
    let second : GrowsBy g.I.Input.gives _ _ mid new = c.in_ok-size.ensures.taken (ok_err _ _ _) in
    let begins = head_begins g.I.Input.gives _ _ mid new c.in_ok-count.count c.in_ok-size.size c.in_ok-count.len c.in_ok-size.more second
    (omega (arith, c.in_ok-count.ensures.inside)) c.in_ok-count.ensures.found c.in_ok-size.ensures.found in
    head_large c.args.limits.now sync c.args.number (g.I.Input.ended c.take_count-2.new.input) new f c.in_ok-count.count c.in_ok-size.size
    (drop (c.in_ok-count.len + c.in_ok-size.more) new) c.requires.few begins (inl (search rules)) is

pub returns-then-size-from-clause-taken : goal.returns-then-size-from-clause-taken
returns-then-size-from-clause-taken g c = λ _.
    let old = held c.args.buffer.now in
    let mid = held c.take_count.new.buffer in
    let new = held c.take_count-2.new.buffer in
    let first : GrowsBy g.I.Input.gives _ _ old mid = c.in_ok-count.ensures.taken (ok_err _ _ _) in
    let second : GrowsBy g.I.Input.gives _ _ mid new = c.in_ok-size.ensures.taken (ok_err _ _ _) in
    GrowsBy-chain g.I.Input.gives g.met.I.Input.chain _ _ _ old mid new first second

pub returns-then-size-from-clause-lost : goal.returns-then-size-from-clause-lost
returns-then-size-from-clause-lost g c =
    let old = held c.args.buffer.now in
    let mid = held c.take_count.new.buffer in
    let new = held c.take_count-2.new.buffer in
    let first : GrowsBy g.I.Input.gives _ _ old mid = c.in_ok-count.ensures.taken (ok_err _ _ _) in
    let second : GrowsBy g.I.Input.gives _ _ mid new = c.in_ok-size.ensures.taken (ok_err _ _ _) in
    TakesAtMost-from_grown g.I.Input.gives _ _ old new c.args.reach.limit
    (GrowsBy-chain g.I.Input.gives g.met.I.Input.chain _ _ _ old mid new first second)
    (omega (arith, c.in_ok-count.ensures.limited, c.in_ok-size.ensures.limited))

pub returns-then-size-from-clause-limited : goal.returns-then-size-from-clause-limited
returns-then-size-from-clause-limited g c = omega (arith, c.in_ok-count.ensures.limited, c.in_ok-size.ensures.limited)

pub returns-then-size-from-clause-refused : goal.returns-then-size-from-clause-refused
returns-then-size-from-clause-refused g c = λ f sync is.
    let mid = held c.take_count.new.buffer in
    let new = held c.take_count-2.new.buffer in
    let second : GrowsBy g.I.Input.gives _ _ mid new = c.in_ok-size.ensures.taken (ok_err _ _ _) in
    let begins = head_begins g.I.Input.gives _ _ mid new c.in_ok-count.count c.in_ok-size.size c.in_ok-count.len c.in_ok-size.more second
    (omega (arith, c.in_ok-count.ensures.inside)) c.in_ok-count.ensures.found c.in_ok-size.ensures.found in
    head_large c.args.limits.now sync c.args.number (g.I.Input.ended c.take_count-2.new.input) new f c.in_ok-count.count c.in_ok-size.size
    (drop (c.in_ok-count.len + c.in_ok-size.more) new) c.requires.few begins (inr (search rules)) is

pub returns-clause-found : goal.returns-clause-found
returns-clause-found g c = grind (arith, head_begins, ok_err)

pub returns-clause-taken : goal.returns-clause-taken
returns-clause-taken g c = λ _.
    let old = held c.args.buffer.now in
    let mid = held c.take_count.new.buffer in
    let new = held c.take_count-2.new.buffer in
    let first : GrowsBy g.I.Input.gives _ _ old mid = c.in_ok-count.ensures.taken (ok_err _ _ _) in
    let second : GrowsBy g.I.Input.gives _ _ mid new = c.in_ok-size.ensures.taken (ok_err _ _ _) in
    GrowsBy-chain g.I.Input.gives g.met.I.Input.chain _ _ _ old mid new first second

pub returns-clause-within : goal.returns-clause-within
returns-clause-within g c = omega (arith, c.in_ok-count.ensures.within, c.in_ok-size.ensures.within)

pub returns-clause-limited : goal.returns-clause-limited
returns-clause-limited g c = omega (arith, c.in_ok-count.ensures.limited, c.in_ok-size.ensures.limited)
