-- A block of the metadata that was taken, or what stops it.
use Rattle.std.proofs.Common.{sym, arith}
use Rattle.std.proofs.lemmas.Option.{same_Some}
use Rattle.std.proofs.lemmas.Result.{err_from_is_err_and}
use Rattle.avro_file.specs.Held.{held}
use Rattle.avro_file.specs.Parts.{properties_of}
use Rattle.avro_file.specs.inside.MetadataParts.{metadata_left}
use Rattle.avro_file.proofs.Behind.{own_refused, then_refused, takes_then, reports_not_failed}
use Rattle.avro_file.proofs.MetadataTaken.{next_head_stops, next_run_stops, block_pushed, size_stops, metadata_ended, many_left, few_so_far, head_small, head_further}
use Rattle.avro_file.proofs.header.metadata.take_metadata_block.Goals as goal

pub returns-in_err-head-clause-refused : goal.returns-in_err-head-clause-refused
returns-in_err-head-clause-refused g c =
    let p = err_from_is_err_and c.from_residual.result c.from_residual.ensures.1 in
    rw (p.1, p.2) (λ f is m.
    let old = held c.args.buffer.now in
    let new = held c.take_properties_head.new.buffer in
    let ps = properties_of c.args.properties.now.entries.items in
    next_head_stops g.I.Input.gives _ _ old new c.args.reach.limit c.args.at (g.I.Input.ended c.take_properties_head.new.input) _ ps f
    (c.in_err-head.ensures.lost.grown (reports_not_failed _ f is)) m
    (c.in_err-head.ensures.refused f (metadata_left ps).nodes is (many_left c.args.reach.limit c.args.at old _ ps m c.requires.fits (omega (arith, c.requires.small)))))

pub returns-in_err-end-clause-lost : goal.returns-in_err-end-clause-lost
returns-in_err-end-clause-lost g c =
    let p = err_from_is_err_and c.from_residual-in_err-end.result c.from_residual-in_err-end.ensures.1 in
    rw (p.1, p.2) (then_refused g.I.Input.gives g.I.Input.failures g.met.I.Input.chain c.args.reach.limit _ _ _ (held c.args.buffer.now) (held c.take_properties_head.new.buffer) (held c.take_properties.new.buffer)
    c.in_err-end.field-0.0 c.in_ok-head.ensures.took c.in_err-end.ensures.lost)

pub returns-in_err-end-clause-refused : goal.returns-in_err-end-clause-refused
returns-in_err-end-clause-refused g c =
    let p = err_from_is_err_and c.from_residual-in_err-end.result c.from_residual-in_err-end.ensures.1 in
    rw (p.1, p.2) (λ f is m.
    let old = held c.args.buffer.now in
    let mid = held c.take_properties_head.new.buffer in
    let new = held c.take_properties.new.buffer in
    let ps = properties_of c.args.properties.now.entries.items in
    let head = c.in_ok-head.head in
    let many = many_left c.args.reach.limit c.args.at old _ ps m c.requires.fits (omega (arith, c.requires.small)) in
    let few = head_small c.args.at mid head c.in_ok-head.ensures.found in
    next_run_stops g.I.Input.gives _ _ _ old mid new c.args.reach.limit c.args.at (g.I.Input.ended c.take_properties.new.input) _ ps head f
    c.in_ok-head.ensures.took.grown (c.in_err-end.ensures.lost.grown (reports_not_failed _ f is)) m c.in_ok-head.ensures.found (omega (arith, c.if-head-eq0.false)) many
    (c.in_err-end.ensures.refused f (metadata_left ps) is (omega (arith, few, many)) m.named m.run.distinct))

pub returns-then-head-eq0-clause-further : goal.returns-then-head-eq0-clause-further
returns-then-head-eq0-clause-further g c = head_further c.args.at (held c.take_properties_head.new.buffer) c.in_ok-head.head c.in_ok-head.ensures.found

pub returns-then-head-eq0-clause-end : goal.returns-then-head-eq0-clause-end
returns-then-head-eq0-clause-end g c = λ _ m.
    let old = held c.args.buffer.now in
    let new = held c.take_properties_head.new.buffer in
    let ps = properties_of c.args.properties.now.entries.items in
    metadata_ended g.I.Input.gives _ _ old new c.args.at _ ps c.in_ok-head.head c.in_ok-head.ensures.took.grown m c.in_ok-head.ensures.found (omega (arith, c.if-head-eq0.true))
    (few_so_far c.args.reach.limit c.args.at old _ ps m c.requires.fits (omega (arith, c.requires.small)))

pub returns-then-is_other_size-clause-lost : goal.returns-then-is_other_size-clause-lost
returns-then-is_other_size-clause-lost g c =
    own_refused g.I.Input.gives g.I.Input.failures g.met.I.Input.chain c.args.reach.limit _ _ _ _ _ (λ q. cc) (λ q. cc) (λ q. cc) tt
    (takes_then g.I.Input.gives g.I.Input.failures g.met.I.Input.chain c.args.reach.limit _ _ _ (held c.args.buffer.now) (held c.take_properties_head.new.buffer) (held c.take_properties.new.buffer)
    c.in_ok-head.ensures.took c.in_ok-end.ensures.took)

pub returns-then-is_other_size-clause-refused : goal.returns-then-is_other_size-clause-refused
returns-then-is_other_size-clause-refused g c = λ f is m.
    let old = held c.args.buffer.now in
    let mid = held c.take_properties_head.new.buffer in
    let new = held c.take_properties.new.buffer in
    let before = properties_of c.args.properties.now.entries.items in
    let after = properties_of c.take_properties.new.properties.entries.items in
    let head = c.in_ok-head.head in
    let many = many_left c.args.reach.limit c.args.at old _ before m c.requires.fits (omega (arith, c.requires.small)) in
    let few = head_small c.args.at mid head c.in_ok-head.ensures.found in
    let other = c.is_other_size.ensures.other c.if-is_other_size.true in
    size_stops g.I.Input.gives _ _ _ old mid new c.args.reach.limit c.args.at c.in_ok-end.end (g.I.Input.ended c.take_properties.new.input) _ _ before after head f
    c.in_ok-head.ensures.took.grown c.in_ok-end.ensures.took.grown m c.in_ok-head.ensures.found (omega (arith, c.if-head-eq0.false)) other.0 many
    (c.in_ok-end.ensures.found (metadata_left before) (omega (arith, few, many)) m.named m.run.distinct) other.1 (sym (same_Some _ _ is))

pub returns-clause-further : goal.returns-clause-further
returns-clause-further g c = grind (arith, head_further)

pub returns-clause-more : goal.returns-clause-more
returns-clause-more g c = λ _ m.
    let old = held c.args.buffer.now in
    let mid = held c.take_properties_head.new.buffer in
    let new = held c.take_properties.new.buffer in
    let before = properties_of c.args.properties.now.entries.items in
    let after = properties_of c.take_properties.new.properties.entries.items in
    let head = c.in_ok-head.head in
    let many = many_left c.args.reach.limit c.args.at old _ before m c.requires.fits (omega (arith, c.requires.small)) in
    let few = head_small c.args.at mid head c.in_ok-head.ensures.found in
    block_pushed g.I.Input.gives _ _ _ old mid new c.args.at c.in_ok-end.end _ _ before after head
    c.in_ok-head.ensures.took.grown c.in_ok-end.ensures.took.grown m c.in_ok-head.ensures.found (omega (arith, c.if-head-eq0.false)) many
    (c.in_ok-end.ensures.found (metadata_left before) (omega (arith, few, many)) m.named m.run.distinct) (c.is_other_size.ensures.same c.if-is_other_size.false)

pub returns-clause-took : goal.returns-clause-took
returns-clause-took g c =
    takes_then g.I.Input.gives g.I.Input.failures g.met.I.Input.chain c.args.reach.limit _ _ _ (held c.args.buffer.now) (held c.take_properties_head.new.buffer) (held c.take_properties.new.buffer)
    c.in_ok-head.ensures.took c.in_ok-end.ensures.took
