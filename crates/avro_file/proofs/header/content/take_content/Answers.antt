-- A content after its length, and why it is not taken.
use Rattle.std.proofs.Common.{Err, ap, sym, ◌∙◌, arith}
use Rattle.std.proofs.lemmas.Result.{err_from_is_err_and}
use Rattle.avro_file.specs.Filled.{GrowsBy}
use Rattle.avro_file.specs.Held.{held}
use Rattle.avro_file.proofs.Behind.{part_refused, then_refused, takes_then, length_first, content_from, content_stops, content_starts, reports_not_failed}
use Rattle.avro_file.proofs.Taking.{unless_failed}
use Rattle.avro_file.proofs.Heads.{grown-longer}
use Rattle.avro_file.proofs.header.content.take_content.Goals as goal

pub returns-in_err-count-clause-refused : goal.returns-in_err-count-clause-refused
returns-in_err-count-clause-refused g c = grind (arith, err_from_is_err_and, length_first)

pub returns-in-Ok-clause-found : goal.returns-in-Ok-clause-found
returns-in-Ok-clause-found g c =
    let mid = held c.take_length.new.buffer in
    let new = held c.fill.new.buffer in
    let grown : GrowsBy g.I.Input.gives _ _ mid new = c.in-Ok.ensures.taken in
    content_starts c.args.at c.in_ok-count.count c.in_ok-count.len new c.in-Ok.ensures.there
    (content_from g.I.Input.gives _ _ mid new c.args.at c.in_ok-count.count c.in_ok-count.len grown c.in_ok-count.ensures.inside c.in_ok-count.ensures.found)

pub returns-in-Ok-clause-took : goal.returns-in-Ok-clause-took
returns-in-Ok-clause-took g c =
    takes_then g.I.Input.gives g.I.Input.failures g.met.I.Input.chain c.args.reach.limit _ _ _ (held c.args.buffer.now) (held c.take_length.new.buffer) (held c.fill.new.buffer)
    c.in_ok-count.ensures.took (record { grown = c.in-Ok.ensures.taken; limited = c.in-Ok.ensures.limited; works = c.in-Ok.ensures.works })

pub returns-in-Err-clause-lost : goal.returns-in-Err-clause-lost
returns-in-Err-clause-lost g c =
    then_refused g.I.Input.gives g.I.Input.failures g.met.I.Input.chain c.args.reach.limit _ _ _ (held c.args.buffer.now) (held c.take_length.new.buffer) (held c.fill.new.buffer)
    c.metadata_error.result c.in_ok-count.ensures.took
    (part_refused g.I.Input.gives g.I.Input.failures c.args.reach.limit _ _ _ _ c.in-Err.error c.metadata_error.result
    c.metadata_error.ensures.failed c.metadata_error.ensures.device c.metadata_error.ensures.no_output c.metadata_error.ensures.first c.metadata_error.ensures.named
    c.in-Err.ensures.taken c.in-Err.ensures.lost c.in-Err.ensures.limited (λ p. c.in-Err.ensures.fails (ap Err p)))

pub returns-in-Err-clause-refused : goal.returns-in-Err-clause-refused
returns-in-Err-clause-refused g c = λ f is_content is.
    let mid = held c.take_length.new.buffer in
    let new = held c.fill.new.buffer in
    let e = c.in-Err.error in
    let at = c.args.at in
    let count = c.in_ok-count.count in
    let len = c.in_ok-count.len in
    let fault = sym c.metadata_error.ensures.fault ∙ is in
    let grown : GrowsBy g.I.Input.gives _ _ mid new = unless_failed e c.metadata_error.result c.metadata_error.ensures.failed c.in-Err.ensures.taken
    (reports_not_failed c.metadata_error.result f is) in
    let long = grown-longer g.I.Input.gives _ _ mid new grown in
    content_stops c.args.reach.limit at count len (g.I.Input.ended c.fill.new.input) new is_content e f
    (omega (arith, long, c.in_ok-count.ensures.inside))
    (content_from g.I.Input.gives _ _ mid new at count len grown c.in_ok-count.ensures.inside c.in_ok-count.ensures.found)
    (omega (arith, c.in-Err.ensures.limited, c.in_ok-count.ensures.took.limited, c.requires.fits))
    (λ p. c.in-Err.ensures.in_range (ap Err p))
    (λ p. c.in-Err.ensures.over (ap Err p))
    (λ p. c.in-Err.ensures.ended (ap Err p))
    (λ p. c.in-Err.ensures.short (ap Err p))
    (λ p. c.in-Err.ensures.inside (ap Err p))
    fault
