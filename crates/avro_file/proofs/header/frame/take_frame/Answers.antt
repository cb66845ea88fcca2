-- The magic, the metadata and the marker that were taken, or what stops them.
use Rattle.std.proofs.Common.{max, arith}
use Rattle.std.proofs.lemmas.Result.{err_from_is_err_and}
use Rattle.avro_file.specs.Held.{held}
use Rattle.avro_file.specs.Parts.{properties_of}
use Rattle.avro_file.proofs.Behind.{then_refused, takes_then, takes_wider, refused_wider, reports_not_failed}
use Rattle.avro_file.proofs.Framed.{part_framed, marker_framed}
use Rattle.avro_file.proofs.HeaderEnds.{begins_grown, metadata_grown, marker_stops, frame_stands}
use Rattle.avro_file.proofs.HeaderStops.{header_stops}
use Rattle.avro_file.proofs.header.frame.take_frame.Goals as goal

pub returns-in_err-metadata-clause-lost : goal.returns-in_err-metadata-clause-lost
returns-in_err-metadata-clause-lost g c =
    let p = err_from_is_err_and c.from_residual-in_err-metadata.result c.from_residual-in_err-metadata.ensures.1 in
    rw (p.1, p.2) (then_refused g.I.Input.gives g.I.Input.failures g.met.I.Input.chain (max 4 c.args.reach.limit) _ _ _ (held c.args.buffer.now) (held c.take_magic.new.buffer) (held c.take_metadata.new.buffer)
    c.in_err-metadata.field-0.0 c.in_ok-take_magic.ensures.took
    (refused_wider g.I.Input.gives g.I.Input.failures c.args.reach.limit (max 4 c.args.reach.limit) _ _ _ _ _ (omega arith) c.in_err-metadata.ensures.lost))

pub returns-in_err-metadata-clause-refused : goal.returns-in_err-metadata-clause-refused
returns-in_err-metadata-clause-refused g c =
    let p = err_from_is_err_and c.from_residual-in_err-metadata.result c.from_residual-in_err-metadata.ensures.1 in
    rw (p.1, p.2) (λ f is.
    let lost = c.in_err-metadata.ensures.lost in
    header_stops c.args.reach.limit (g.I.Input.ended c.take_metadata.new.input) (held c.take_metadata.new.buffer) f
    (begins_grown g.I.Input.gives _ _ (held c.take_magic.new.buffer) (held c.take_metadata.new.buffer) c.args.reach.limit (lost.grown (reports_not_failed _ f is)) lost.limited c.in_ok-take_magic.ensures.begins)
    (c.in_err-metadata.ensures.refused f is))

pub returns-in_err-sync-clause-lost : goal.returns-in_err-sync-clause-lost
returns-in_err-sync-clause-lost g c =
    let p = err_from_is_err_and c.from_residual-in_err-sync.result c.from_residual-in_err-sync.ensures.1 in
    rw (p.1, p.2) (let most = max 4 c.args.reach.limit in
    let first = takes_then g.I.Input.gives g.I.Input.failures g.met.I.Input.chain most _ _ _ (held c.args.buffer.now) (held c.take_magic.new.buffer) (held c.take_metadata.new.buffer)
    c.in_ok-take_magic.ensures.took (takes_wider g.I.Input.gives g.I.Input.failures c.args.reach.limit most _ _ _ _ (omega arith) c.in_ok-metadata.ensures.took) in
    then_refused g.I.Input.gives g.I.Input.failures g.met.I.Input.chain most _ _ _ (held c.args.buffer.now) (held c.take_metadata.new.buffer) (held c.take_marker.new.buffer)
    c.in_err-sync.field-0.0 first
    (refused_wider g.I.Input.gives g.I.Input.failures c.args.reach.limit most _ _ _ _ _ (omega arith) c.in_err-sync.ensures.lost))

pub returns-in_err-sync-clause-refused : goal.returns-in_err-sync-clause-refused
returns-in_err-sync-clause-refused g c =
    let p = err_from_is_err_and c.from_residual-in_err-sync.result c.from_residual-in_err-sync.ensures.1 in
    rw (p.1, p.2) (λ f is.
    let mid = held c.take_metadata.new.buffer in
    let new = held c.take_marker.new.buffer in
    let took = c.in_ok-metadata.ensures.took in
    let lost = c.in_err-sync.ensures.lost in
    let grown = lost.grown (reports_not_failed _ f is) in
    let begins = begins_grown g.I.Input.gives _ _ (held c.take_magic.new.buffer) mid c.args.reach.limit took.grown took.limited c.in_ok-take_magic.ensures.begins in
    marker_stops c.args.reach.limit c.in_ok-metadata.at (g.I.Input.ended c.take_marker.new.input) new (properties_of c.in_ok-metadata.metadata.items) f
    (begins_grown g.I.Input.gives _ _ mid new c.args.reach.limit grown lost.limited begins)
    (metadata_grown g.I.Input.gives _ _ mid new c.in_ok-metadata.at _ grown c.in_ok-metadata.ensures.found)
    (c.in_err-sync.ensures.refused f is))

pub returns-clause-took : goal.returns-clause-took
returns-clause-took g c =
    let most = max 4 c.args.reach.limit in
    let first = takes_then g.I.Input.gives g.I.Input.failures g.met.I.Input.chain most _ _ _ (held c.args.buffer.now) (held c.take_magic.new.buffer) (held c.take_metadata.new.buffer)
    c.in_ok-take_magic.ensures.took (takes_wider g.I.Input.gives g.I.Input.failures c.args.reach.limit most _ _ _ _ (omega arith) c.in_ok-metadata.ensures.took) in
    takes_then g.I.Input.gives g.I.Input.failures g.met.I.Input.chain most _ _ _ (held c.args.buffer.now) (held c.take_metadata.new.buffer) (held c.take_marker.new.buffer)
    first (takes_wider g.I.Input.gives g.I.Input.failures c.args.reach.limit most _ _ _ _ (omega arith) c.in_ok-sync.ensures.took)

pub returns-clause-found : goal.returns-clause-found
returns-clause-found g c = grind (arith, begins_grown, frame_stands, metadata_grown)

pub returns-in_err-metadata-clause-framed : goal.returns-in_err-metadata-clause-framed
returns-in_err-metadata-clause-framed g c =
    let p = err_from_is_err_and c.from_residual-in_err-metadata.result c.from_residual-in_err-metadata.ensures.1 in
    rw (p.1, p.2) (λ f is. part_framed _ _ _ _ _ _ f (c.in_err-metadata.ensures.refused f is))

pub returns-in_err-sync-clause-framed : goal.returns-in_err-sync-clause-framed
returns-in_err-sync-clause-framed g c =
    let p = err_from_is_err_and c.from_residual-in_err-sync.result c.from_residual-in_err-sync.ensures.1 in
    rw (p.1, p.2) (λ f is. marker_framed _ _ _ _ f (c.in_err-sync.ensures.refused f is))
