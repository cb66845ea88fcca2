-- The header, and then the blocks.
use Rattle.std.proofs.Common.{sym, ◌∙◌}
use Rattle.std.proofs.lemmas.Result.{err_from_is_err_and}
use Rattle.avro_file.specs.HeaderTaken.{header_value}
use Rattle.avro_file.proofs.public.Small.{err_inj}
use Rattle.avro_display.proofs.public.Fronts.{on_any_err}
use Rattle.avro_lines.specs.Shown.{nodes_of}
use Rattle.avro_lines.specs.inside.BlocksShown.{IsFaultNext}
use Rattle.avro_lines.proofs.Files.{file-fault, file-front, file-whole, header-lost, header-refused}
use Rattle.avro_lines.proofs.showing.show.Goals as goal

pub show_after-requires : goal.show_after-requires
show_after-requires g c = record { marker = c.in_ok-header.ensures.found.stands.marker }

pub returns-in_err-header-clause-front : goal.returns-in_err-header-clause-front
returns-in_err-header-clause-front g c =
    on_any_err (header-lost g.I.Input.gives g.O.Output.keeps g.met.O.Output.none c.args.limits.now (nodes_of c.args.reader) c.args.limit c.args.input.now c.read.new.input c.args.output.now
    c.in_err-header.ensures.lost) c.from_residual.result

pub returns-in_err-header-clause-fault : goal.returns-in_err-header-clause-fault
returns-in_err-header-clause-fault g c =
    let p = err_from_is_err_and c.from_residual.result c.from_residual.ensures.1 in
    rw (p.1, p.2) (λ f is.
    header-refused g.I.Input.gives g.O.Output.keeps g.met.O.Output.none c.args.limits.now (nodes_of c.args.reader) c.args.limit c.args.input.now c.read.new.input c.args.output.now
    g.I.Input.ended f (c.in_err-header.ensures.refused f is))

pub returns-in-Ok-clause-whole : goal.returns-in-Ok-clause-whole
returns-in-Ok-clause-whole g c =
    file-whole g.I.Input.gives g.O.Output.keeps c.args.limits.now (nodes_of c.args.reader) (header_value c.in_ok-header.header) c.args.limit g.met.I.Input.chain c.args.input.now c.read.new.input c.show_after.new.input
    c.args.output.now c.show_after.new.output c.in_ok-header.ensures.found (g.I.Input.ended c.show_after.new.input) c.in-Ok.ensures.shown.moved

pub returns-clause-front : goal.returns-clause-front
returns-clause-front g c =
    file-front g.I.Input.gives g.O.Output.keeps c.args.limits.now (nodes_of c.args.reader) (header_value c.in_ok-header.header) c.args.limit g.met.I.Input.chain c.args.input.now c.read.new.input c.show_after.new.input
    c.args.output.now c.show_after.new.output c.in_ok-header.ensures.found (IsFaultNext c.args.limits.now (nodes_of c.args.reader) (header_value c.in_ok-header.header) 0 (g.I.Input.ended c.show_after.new.input) c.in-Err.error)
    c.in-Err.ensures.shown.moved

pub returns-clause-fault : goal.returns-clause-fault
returns-clause-fault g c = λ f is.
    file-fault g.I.Input.gives g.O.Output.keeps c.args.limits.now (nodes_of c.args.reader) (header_value c.in_ok-header.header) c.args.limit g.met.I.Input.chain c.args.input.now c.read.new.input c.show_after.new.input
    c.args.output.now c.show_after.new.output c.in_ok-header.ensures.found (g.I.Input.ended c.show_after.new.input) c.in-Err.error f is c.in-Err.ensures.shown.moved

pub returns-in-Ok-clause-input_works : goal.returns-in-Ok-clause-input_works
returns-in-Ok-clause-input_works g c = c.in-Ok.ensures.shown.input_works ∙ c.in_ok-header.ensures.works

pub returns-in-Ok-clause-output_works : goal.returns-in-Ok-clause-output_works
returns-in-Ok-clause-output_works g c = c.in-Ok.ensures.shown.output_works

pub returns-clause-named : goal.returns-clause-named
returns-clause-named g c = c.in-Err.ensures.shown.named

pub returns-clause-first : goal.returns-clause-first
returns-clause-first g c = λ is. c.in-Err.ensures.shown.first (err_inj _ _ _ is)

pub returns-clause-input_fails : goal.returns-clause-input_fails
returns-clause-input_fails g c = λ is same. c.in-Err.ensures.shown.input_fails (err_inj _ _ _ is) (same ∙ sym c.in_ok-header.ensures.works)

pub returns-clause-output_fails : goal.returns-clause-output_fails
returns-clause-output_fails g c = λ is. c.in-Err.ensures.shown.output_fails (err_inj _ _ _ is)
