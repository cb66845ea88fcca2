-- The header, and then all blocks.
use Rattle.std.proofs.lemmas.Result.{err_from_is_err_and}
use Rattle.avro_file.specs.HeaderTaken.{header_value}
use Rattle.avro_container.proofs.CheckLaws.{block-fault, header-fault, whole-file}
use Rattle.avro_container.proofs.checking.check.Goals as goal

pub returns-in_err-header-clause-fault : goal.returns-in_err-header-clause-fault
returns-in_err-header-clause-fault g c =
    let p = err_from_is_err_and c.from_residual.result c.from_residual.ensures.1 in
    rw (p.1, p.2) (λ f is. header-fault g.I.Input.gives g.I.Input.ended _ _ c.args.limits.now f (c.in_err-header.ensures.refused f is))

pub returns-in-Ok-clause-whole : goal.returns-in-Ok-clause-whole
returns-in-Ok-clause-whole g c =
    whole-file g.I.Input.gives g.met.I.Input.chain _ _ _ c.args.limits.now (header_value c.in_ok-header.header) (g.I.Input.ended c.check_blocks.new.input)
    c.in-Ok.counts.items c.in-Ok.counts.blocks c.in_ok-header.ensures.found c.in-Ok.ensures.whole c.in-Ok.ensures.told

pub returns-clause-fault : goal.returns-clause-fault
returns-clause-fault g c = λ f is.
    block-fault g.I.Input.gives g.met.I.Input.chain _ _ _ c.args.limits.now (header_value c.in_ok-header.header) (g.I.Input.ended c.check_blocks.new.input) f
    c.in_ok-header.ensures.found (c.in-Err.ensures.fault f is)

pub check_blocks-requires : goal.check_blocks-requires
check_blocks-requires g c = record { marker = c.in_ok-header.ensures.found.stands.marker }
