-- A block is taken, and its data are read.
use Rattle.std.proofs.Common.{◌≡◌, ℕ, List, ap, sym, subst, ◌∙◌, refl}
use Rattle.std.specs.Prelude.{None}
use Rattle.std.proofs.lemmas.Result.{err_from_is_err_and}
use Rattle.avro_schema.specs.SeenSchema.{schema_nodes}
use Rattle.avro_schema.specs.Value.{Values}
use Rattle.avro_file.specs.BlockFails.{DataAreWhole}
use Rattle.avro_file.specs.DataRead.{IsDataFault, reading}
use Rattle.avro_file.specs.HeaderTaken.{header_value}
use Rattle.avro_container.specs.Checking.{Takes}
use Rattle.avro_container.specs.inside.BlocksChecked.{IsCounted}
use Rattle.avro_container.proofs.BlockLaws.{block_counted, data_fault, frame_fault}
use Rattle.avro_container.proofs.checking.check_next.Goals as goal

pub returns-in_ok-check-in-Some-clause-found : goal.returns-in_ok-check-in-Some-clause-found
returns-in_ok-check-in-Some-clause-found g c =
    let blocks = c.args.blocks.now in
    let h = header_value blocks.header.now in
    let block = c.in-Some.block in
    let whole = subst (λ v. (values : Values) × DataAreWhole (reading v.1 (schema_nodes v.0.schema) v.0.sync None) block.count block.body.items values)
    c.requires.same c.in_ok-check-in-Some.ensures.found in
    subst (λ n. Takes g.I.Input.gives c.args.input.now c.next.new.input (IsCounted blocks.limits h blocks.number n)) (sym c.count.ensures)
    (block_counted g.I.Input.gives _ _ blocks.limits h blocks.number block.count block.body.items
    (rw c.in-Some.is at c.in_ok-block.ensures.few) (rw c.in-Some.is at c.in_ok-block.ensures.found) whole)

pub returns-in_err-block-clause-fault : goal.returns-in_err-block-clause-fault
returns-in_err-block-clause-fault g c =
    let p = err_from_is_err_and c.from_residual.result c.from_residual.ensures.1 in
    let blocks = c.args.blocks.now in
    rw (p.1, p.2) (λ f is.
    frame_fault g.I.Input.gives g.I.Input.ended _ _ blocks.limits (header_value blocks.header.now) blocks.number f (c.in_err-block.ensures.refused f is))

pub returns-in_err-check-in-Some-clause-fault : goal.returns-in_err-check-in-Some-clause-fault
returns-in_err-check-in-Some-clause-fault g c =
    let p = err_from_is_err_and c.from_residual-in_err-check-in-Some.result c.from_residual-in_err-check-in-Some.ensures.1 in
    let blocks = c.args.blocks.now in
    let h = header_value blocks.header.now in
    let block = c.in-Some.block in
    rw (p.1, p.2) (λ f is.
    let fault = subst (λ v. IsDataFault (reading v.1 (schema_nodes v.0.schema) v.0.sync None) block.number block.count block.body.items f)
    c.requires.same (c.in_err-check-in-Some.ensures.refused f is) in
    let here = subst (λ n. IsDataFault (reading blocks.limits (schema_nodes blocks.header.now.schema) blocks.header.now.sync None) n block.count block.body.items f)
    (sym (rw c.in-Some.is at c.in_ok-block.ensures.numbered)) fault in
    data_fault g.I.Input.gives _ _ blocks.limits h blocks.number (g.I.Input.ended c.next.new.input) block.count block.body.items f
    c.requires.marker (rw c.in-Some.is at c.in_ok-block.ensures.few) (rw c.in-Some.is at c.in_ok-block.ensures.found) here)
