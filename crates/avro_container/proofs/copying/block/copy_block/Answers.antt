-- A block is taken, packed and put.
use Rattle.std.proofs.Common.{◌+◌, ◌<◌, List, ℕ, sym, subst}
use Rattle.std.proofs.lemmas.Result.{err_from_is_err_and}
use Rattle.avro_file.specs.BlockFails.{max_blocks}
use Rattle.avro_file.specs.Held.{held}
use Rattle.avro_file.specs.Parts.{block_part}
use Rattle.avro_device.specs.PutFront.{PutsFrontOf}
use Rattle.avro_container.specs.inside.BlockSeen.{header_for, job_for, limits_for}
use Rattle.avro_container.proofs.BlocksCopied.{copies-block, nothing-taken, refuses-block, refuses-putting}
use Rattle.avro_file.proofs.public.Small.{ok_err}
use Rattle.avro_container.proofs.copying.block.copy_block.Goals as goal

pub returns-in-Ok-None-clause-none : goal.returns-in-Ok-None-clause-none
returns-in-Ok-None-clause-none g c =
    (nothing-taken g.I.Input.gives _ _ (held c.args.store.now.buffer) (held c.take_packed.new.store.buffer)
    (c.in-Ok-None.ensures.taken (ok_err _ _ _)) (rw c.in-Ok-None.field-0-is at c.in-Ok-None.ensures.none)).0

pub returns-in-Ok-None-clause-empty : goal.returns-in-Ok-None-clause-empty
returns-in-Ok-None-clause-empty g c =
    let empty = nothing-taken g.I.Input.gives _ _ (held c.args.store.now.buffer) (held c.take_packed.new.store.buffer)
    (c.in-Ok-None.ensures.taken (ok_err _ _ _)) (rw c.in-Ok-None.field-0-is at c.in-Ok-None.ensures.none) in (empty.1, empty.2)

pub returns-in_ok-put_block-in-Ok-Some-clause-block : goal.returns-in_ok-put_block-in-Ok-Some-clause-block
returns-in_ok-put_block-in-Ok-Some-clause-block g c =
    let block = c.args.block.now in
    let head = c.in-Ok-Some.head in
    let put = subst (λ (b : List ℕ). g.O.Output.keeps c.args.output.now (block_part c.marker-sync.result head.count b) c.put_block.new.output) c.deref.ensures.value c.in_ok-put_block-in-Ok-Some.ensures.put in
    copies-block g.I.Input.gives g.O.Output.keeps _ _ _ _ (job_for block) (limits_for block) (header_for block) block.number head.count
    (head.start + head.size + 16) (held c.args.store.now.buffer) (held c.take_packed.new.store.buffer) (held c.pass.new.self) c.take_packed.new.store.packed.items
    c.marker-sync.result c.marker-sync.ensures (rw c.in-Ok-Some.field-0-is at c.in-Ok-Some.ensures.few) (c.in-Ok-Some.ensures.taken (ok_err _ _ _)) c.in-Ok-Some.ensures.limited
    (rw c.in-Ok-Some.field-0-is at c.in-Ok-Some.ensures.made) put c.pass.ensures

pub returns-in_err-put_block-in-Ok-Some-clause-refused : goal.returns-in_err-put_block-in-Ok-Some-clause-refused
returns-in_err-put_block-in-Ok-Some-clause-refused g c =
    let p = err_from_is_err_and c.from_residual.result c.from_residual.ensures.1 in
    rw (p.1, p.2) (λ before is_some is_number is_ahead.
    let block = c.args.block.now in
    let head = c.in-Ok-Some.head in
    let front = subst (λ (b : List ℕ). PutsFrontOf g.O.Output.keeps c.args.output.now c.put_block.new.output (block_part c.marker-sync.result head.count b))
    c.deref.ensures.value c.in_err-put_block-in-Ok-Some.ensures.front in
    refuses-putting g.I.Input.gives g.O.Output.keeps _ _ _ _ (job_for block) (limits_for block) (header_for block) block.number
    (g.I.Input.ended c.take_packed.new.input) head.count
    (head.start + head.size + 16) (held c.args.store.now.buffer) (held c.take_packed.new.store.buffer) c.take_packed.new.store.packed.items c.marker-sync.result
    c.in_err-put_block-in-Ok-Some.field-0.0 before is_some (subst (λ n. n < max_blocks) (sym is_number) (rw c.in-Ok-Some.field-0-is at c.in-Ok-Some.ensures.few)) is_ahead c.in-Ok-Some.ensures.limited c.marker-sync.ensures (c.in-Ok-Some.ensures.taken (ok_err _ _ _))
    (rw c.in-Ok-Some.field-0-is at c.in-Ok-Some.ensures.made) front c.in_err-put_block-in-Ok-Some.ensures.told)

pub returns-in-Err-clause-refused : goal.returns-in-Err-clause-refused
returns-in-Err-clause-refused g c = λ before is_some is_number is_ahead.
    let block = c.args.block.now in
    refuses-block g.I.Input.gives g.O.Output.keeps g.met.O.Output.none _ _ _ (job_for block) (limits_for block) (header_for block) block.number
    (g.I.Input.ended c.take_packed.new.input) (held c.args.store.now.buffer) (held c.take_packed.new.store.buffer) c.in-Err.refused before is_some is_number is_ahead
    c.requires.near c.in-Err.ensures.limited c.in-Err.ensures.lost c.in-Err.ensures.taken c.in-Err.ensures.refused
