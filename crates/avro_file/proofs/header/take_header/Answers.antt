-- A header that was taken, or what stops it.
use Rattle.std.proofs.Common.{arith, ℕ, subst}
use Rattle.std.proofs.lemmas.Result.{err_from_is_err_and}
use Rattle.avro_file.specs.inside.HeaderEnds.{SayNone}
use Rattle.avro_file.specs.HeaderTaken.{IsHeaderFault}
use Rattle.avro_file.specs.Held.{held}
use Rattle.avro_file.specs.Parts.{properties_of}
use Rattle.avro_file.proofs.HeaderEnds.{says_none, frame_header}
use Rattle.avro_file.proofs.header.take_header.Goals as goal

pub returns-clause-stands : goal.returns-clause-stands
returns-clause-stands g c = grind (arith, frame_header)

pub returns-in_err-schema-clause-refused : goal.returns-in_err-schema-clause-refused
returns-in_err-schema-clause-refused g c =
    let p = err_from_is_err_and c.from_residual-in_err-schema.result c.from_residual-in_err-schema.ensures.1 in
    rw (p.1, p.2) (λ f is.
    let frame = c.in_ok-frame.frame in
    let new = held c.take_frame.new.buffer in
    let ended = g.I.Input.ended c.take_frame.new.input in
    subst (λ (limit : ℕ). IsHeaderFault limit ended new f) c.header-limit.ensures.header
    (says_none c.header-limit.result frame.end ended new frame.sync (properties_of frame.metadata.items) f c.in_ok-frame.ensures.found
    (subst (λ entries. SayNone (properties_of entries) f) c.deref.ensures.value (c.in_err-schema.ensures.refused f is))))
