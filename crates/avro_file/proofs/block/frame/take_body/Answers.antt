-- Why the data of a block are not taken.
use Rattle.std.proofs.Common.{◌≡◌, ◌+◌, ◌≤◌, Err, length, take, drop, ap, sym, ◌∙◌, arith}
use Rattle.std.proofs.lemmas.Bool.{false≢true}
use Rattle.avro_file.specs.Filled.{GrowsBy}
use Rattle.avro_file.specs.Held.{held}
use Rattle.avro_file.proofs.Taking.{unless_failed}
use Rattle.avro_file.proofs.public.Small.{err_inj}
use Rattle.avro_file.proofs.Bodies.{begins-grown, body_stops, marker_fails}
use Rattle.avro_file.proofs.block.frame.take_body.Goals as goal

pub returns-in-Err-clause-taken : goal.returns-in-Err-clause-taken
returns-in-Err-clause-taken g c = grind (arith, unless_failed)

pub returns-in-Err-clause-lost : goal.returns-in-Err-clause-lost
returns-in-Err-clause-lost g c = c.in-Err.ensures.lost

pub returns-in-Err-clause-refused : goal.returns-in-Err-clause-refused
returns-in-Err-clause-refused g c = λ f limits is few begins counted sized.
    body_stops g.I.Input.gives _ _ (held c.args.buffer.now) (held c.fill.new.buffer) limits c.args.sync.now c.args.number (g.I.Input.ended c.fill.new.input)
    c.args.head.count c.args.head.size c.args.head.start c.in-Err.error f few c.requires.inside begins counted sized
    (λ p. c.in-Err.ensures.in_range (ap Err p))
    (λ p. omega (arith, c.in-Err.ensures.over (ap Err p), c.requires.near))
    (λ p. c.in-Err.ensures.ended (ap Err p))
    (λ p. c.in-Err.ensures.short (ap Err p))
    c.in-Err.ensures.taken (sym c.block_error.ensures.fault ∙ is)

pub returns-in-Err-clause-fails : goal.returns-in-Err-clause-fails
returns-in-Err-clause-fails g c = λ q. c.in-Err.ensures.fails (ap Err (c.block_error.ensures.device (err_inj _ _ _ q)))

pub returns-clause-refused : goal.returns-clause-refused
returns-clause-refused g c = λ f limits is few begins counted sized.
    let old = held c.args.buffer.now in
    let new = held c.fill.new.buffer in
    let start = c.args.head.start in
    let end = start + c.args.head.size in
    let grown : GrowsBy g.I.Input.gives _ _ old new = c.in-Ok.ensures.taken in
    let there : end + 16 ≤ length new = c.in-Ok.ensures.there in
    let behind : c.split_at.result.1.now ≡ drop end new = c.split_at.ensures.back ∙ ap (drop end) c.bytes.ensures in
    let marker : c.split_at-2.result.0.now ≡ take 16 (drop end new) = c.split_at-2.ensures.front ∙ ap (take 16) behind in
    marker_fails new limits c.args.sync.now c.args.number (g.I.Input.ended c.fill.new.input) c.args.head.count c.args.head.size start f few
    (begins-grown g.I.Input.gives _ _ old new c.args.head.count c.args.head.size start grown c.requires.inside begins) counted sized there
    (λ p. false≢true (sym c.if-is_marker.false ∙ c.is_marker.ensures.1 (marker ∙ p))) is
