-- A block stands, and its data are packed.
use Rattle.std.proofs.Common.{◌≡◌, ◌+◌, List, ℕ, length, take, drop, ap, sym, subst, ◌∙◌, refl}
use Rattle.std.proofs.lemmas.Result.{err_from_is_err_and}
use Rattle.avro_file.specs.BlockStands.{BlockStands}
use Rattle.avro_file.specs.DataRead.{IsDataFault}
use Rattle.avro_file.specs.Held.{held}
use Rattle.avro_container.specs.inside.BlockSeen.{header_for, job_for, limits_for, reading_for}
use Rattle.avro_container.specs.inside.DataPacked.{PacksData}
use Rattle.avro_container.proofs.BlocksPacked.{block_packed, packing_fails}
use Rattle.avro_container.proofs.copying.block.take_packed.Goals as goal

pub returns-in_ok-pack_data-in-Some-clause-made : goal.returns-in_ok-pack_data-in-Some-clause-made
returns-in_ok-pack_data-in-Some-clause-made g c =
    let block = c.args.block.now in
    let whole = subst (λ (sync : List ℕ). length sync ≡ 16) c.sync-sync.ensures.marker c.sync-sync.ensures.length in
    let new = held c.take_block.new.buffer in
    let head = c.in-Some.head in
    let rest : c.split_at.result.1.now ≡ drop head.start new = c.split_at.ensures.back ∙ ap (drop head.start) c.bytes.ensures in
    let body : c.split_at-in-Some.result.0.now ≡ take head.size (drop head.start new) = c.split_at-in-Some.ensures.front ∙ ap (take head.size) rest in
    let stands = subst (λ (sync : List ℕ). BlockStands (limits_for block) sync head.count (take head.size (drop head.start new)) (take (head.start + head.size + 16) new))
    c.sync-sync.ensures.marker (rw c.in-Some.is at c.in_ok-take_block.ensures.stands) in
    let packs = subst (λ (b : List ℕ). PacksData (reading_for block) head.count b c.pack_data.new.packed.items) body c.in_ok-pack_data-in-Some.ensures.found in
    block_packed (job_for block) (limits_for block) (header_for block) head.count _ _ _ whole stands packs

pub returns-in_err-pack_data-in-Some-clause-refused : goal.returns-in_err-pack_data-in-Some-clause-refused
returns-in_err-pack_data-in-Some-clause-refused g c =
    let p = err_from_is_err_and c.from_residual-in_err-pack_data-in-Some.result c.from_residual-in_err-pack_data-in-Some.ensures.1 in
    rw (p.1, p.2) (λ f is.
    let block = c.args.block.now in
    let whole = subst (λ (sync : List ℕ). length sync ≡ 16) c.sync-sync.ensures.marker c.sync-sync.ensures.length in
    let new = held c.take_block.new.buffer in
    let head = c.in-Some.head in
    let rest : c.split_at.result.1.now ≡ drop head.start new = c.split_at.ensures.back ∙ ap (drop head.start) c.bytes.ensures in
    let body : c.split_at-in-Some.result.0.now ≡ take head.size (drop head.start new) = c.split_at-in-Some.ensures.front ∙ ap (take head.size) rest in
    let stands = subst (λ (sync : List ℕ). BlockStands (limits_for block) sync head.count (take head.size (drop head.start new)) (take (head.start + head.size + 16) new))
    c.sync-sync.ensures.marker (rw c.in-Some.is at c.in_ok-take_block.ensures.stands) in
    let fault = subst (λ (b : List ℕ). IsDataFault (reading_for block) block.number head.count b f) body (c.in_err-pack_data-in-Some.ensures.refused f is) in
    packing_fails (job_for block) (limits_for block) (header_for block) block.number (g.I.Input.ended c.take_block.new.input) head.count
    (head.start + head.size + 16) _ new f whole (rw c.in-Some.is at c.in_ok-take_block.ensures.few) stands fault)

pub returns-in_err-take_block-clause-refused : goal.returns-in_err-take_block-clause-refused
returns-in_err-take_block-clause-refused g c =
    let p = err_from_is_err_and c.from_residual.result c.from_residual.ensures.1 in
    rw (p.1, p.2) (λ f is. c.in_err-take_block.ensures.refused f is (reading_for c.args.block.now) refl (sym c.sync-sync.ensures.marker))
