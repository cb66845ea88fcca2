-- The bytes of a block that is refused are those that were taken.
use Rattle.std.proofs.Common.{◌≡◌, ◌++◌, List, ℕ, [], length, ap, subst, ◌∙◌, arith}
use Rattle.std.proofs.lemmas.List.{length-drop}
use Rattle.std.proofs.lemmas.Result.{err_from_is_err_and}
use Rattle.avro_file.specs.BlockStands.{IsBlockFault}
use Rattle.avro_file.specs.Filled.{GrowsBy}
use Rattle.avro_file.specs.Held.{held}
use Rattle.avro_display.proofs.public.Fronts.{on_any_err}
use Rattle.avro_file.proofs.public.Small.{no_bytes, not_failed, ok_err}
use Rattle.avro_file.proofs.block.blocks.Blocks.take_next.Goals as goal

pub returns-in_err-take_block-clause-refused : goal.returns-in_err-take_block-clause-refused
returns-in_err-take_block-clause-refused g c =
    let p = err_from_is_err_and c.from_residual.result c.from_residual.ensures.1 in
    rw (p.1, p.2) (λ f is.
    let before = held c.pass.new.self in
    let new = held c.take_block.new.buffer in
    let grown : GrowsBy g.I.Input.gives _ _ before new = c.in_err-take_block.ensures.taken (not_failed _ _ f is) in
    let none : before ≡ [] = no_bytes before (omega (
      arith,
      ap length c.pass.ensures,
      length-drop c.len-done.result (held c.args.self.now.buffer),
      c.len-done.ensures,
    )) in
    let all : new ≡ grown.bytes = grown.grown ∙ ap (λ b. b ++ grown.bytes) none in
    let fault = subst (λ (sync : List ℕ). IsBlockFault c.args.self.now.limits sync c.args.self.now.number (g.I.Input.ended c.take_block.new.input) new f)
    c.sync.ensures.marker (c.in_err-take_block.ensures.refused f is) in
    record {
      bytes = grown.bytes;
      taken = grown.taken;
      stands = subst (λ (bytes : List ℕ). IsBlockFault c.args.self.now.limits c.args.self.now.header.now.sync c.args.self.now.number
          (g.I.Input.ended c.take_block.new.input) bytes f) all fault;
    })

pub returns-in_err-take_block-clause-lost : goal.returns-in_err-take_block-clause-lost
returns-in_err-take_block-clause-lost g c =
    let lost = c.in_err-take_block.ensures.lost in
    on_any_err (lost.bytes, lost.taken) c.from_residual.result

pub returns-in_err-body-in-Some-clause-lost : goal.returns-in_err-body-in-Some-clause-lost
returns-in_err-body-in-Some-clause-lost g c =
    let grown = c.in_ok-take_block.ensures.taken (ok_err _ _ _) in
    on_any_err (grown.bytes, grown.taken) c.from_residual-in_err-body-in-Some.result
